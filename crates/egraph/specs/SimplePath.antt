-- Where the two walks of a pair stand in the scratch, and the path that they make. Assumes nothing.
use Rattle.std.specs.Prelude.{◌≡◌, ℕ, ◌+◌, ◌<◌, ◌≤◌, List, map, length, take, drop, Some, None, slice_index}
use Rattle.model.specs.declared.items.Pair.{Pair}
use Rattle.model.specs.Walks.{Links, root_walk, last}
use Rattle.model.specs.declared.items.Step.{Step}
use Rattle.model.specs.Records.{turned}
use Rattle.model.specs.Paths.{path, join, shared, up}
use Rattle.egraph.specs.declared.simple_path.SimplePath.{SimplePath}

-- the first f places, and the t places behind them
abbrev pub first_part : ℕ → List ℕ → List ℕ
first_part f walks = take f walks

abbrev pub second_part : ℕ → ℕ → List ℕ → List ℕ
second_part f t walks = take t (drop f walks)

abbrev pub walk_from : Links → ℕ → Pair → List ℕ
walk_from next size p = (root_walk next size None p.from).enodes

-- told the first walk's last enode
abbrev pub walk_to : Links → ℕ → Pair → List ℕ
walk_to next size p = (root_walk next size (Some (last p.from (walk_from next size p))) p.to).enodes

-- the walks stand there, and join
pub record FoundPath (next : Links) (size : ℕ) (p : Pair) (walks : List ℕ) (s : SimplePath) : Type 0 where
  pub within : s.from_to_root + s.to_to_root ≤ length walks
  pub first : first_part s.from_to_root walks ≡ walk_from next size p
  pub second : second_part s.from_to_root s.to_to_root walks ≡ walk_to next size p
  pub tail : s.shared ≡ shared (walk_from next size p) (walk_to next size p)
  pub is : path next size p.from p.to ≡ Some (join next (walk_from next size p) (walk_to next size p))

-- the enodes of a part of the scratch are on the books
abbrev pub AllBelow : ℕ → List ℕ → Type 0
AllBelow size es = (k : ℕ) → k < length es → slice_index es k < size

-- the steps up the links of some enodes, and those down again
abbrev pub rising_steps : Links → List ℕ → List Step
rising_steps next es = map (up next) es

abbrev pub falling_steps : Links → List ℕ → List Step
falling_steps next es = turned (map (up next) es)

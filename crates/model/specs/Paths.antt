-- The path of a pair. Assumes nothing.
use Rattle.std.specs.Prelude.{ℕ, suc, ◌+◌, ◌-◌, Bool, true, false, cond, List, [], ◌∷◌, ◌++◌, map, reverse, length, take, Some, None, Option, ◌==◌}
use Rattle.model.specs.declared.items.Link.{Link}
use Rattle.model.specs.declared.items.Step.{Step}
use Rattle.model.specs.Records.{turned}
use Rattle.model.specs.Walks.{Links, root_walk, last}

-- how long two lists are the same from their first place on
abbrev pub common : List ℕ → List ℕ → ℕ
common [] ys = 0
common (x ∷ xs) [] = 0
common (x ∷ xs) (y ∷ ys) = cond (x == y) (suc (common xs ys)) 0

-- the length of the common tail
abbrev pub shared : List ℕ → List ℕ → ℕ
shared xs ys = common (reverse xs) (reverse ys)

abbrev pub given_of : Option Link → ℕ
given_of None = 0
given_of (Some l) = l.given

-- the step from an enode along its link
abbrev pub up : Links → ℕ → Step
up next e = record { given = given_of (next e); forward = true }

-- a path's enodes, one more than its steps
pub record Path : Type 0 where
  pub enodes : List ℕ
  pub steps : List Step

-- all but the last n
abbrev pub without_last : ℕ → List ℕ → List ℕ
without_last n xs = take (length xs - n) xs

-- up f to the first enode of the common tail, then down t
abbrev pub join : Links → List ℕ → List ℕ → Path
join next f t =
    let n = shared f t in
    let falling = without_last n t in
    record {
      enodes = take (length f + 1 - n) f ++ reverse falling;
      steps = map (up next) (without_last n f) ++ turned (map (up next) falling);
    }

abbrev pub some_if : {A : Type 0} → Bool → A → Option A
some_if true a = Some a
some_if false a = None

-- f is the walk from a, t the walk from b that is told f's last enode as root. There is no path if their last enodes differ
abbrev pub path : Links → ℕ → ℕ → ℕ → Option Path
path next size a b =
    let f = (root_walk next size None a).enodes in
    let t = (root_walk next size (Some (last a f)) b).enodes in
    some_if (last a f == last b t) (join next f t)

-- The steps that an entry reads as. Assumes nothing.
use Rattle.std.specs.Prelude.{ℕ, Bool, true, false, cond, not, ◌&&◌, List, [], ◌∷◌, ◌++◌, length, ◌==◌}
use Rattle.model.specs.declared.items.Step.{Step}
use Rattle.model.specs.Records.{turned}
use Rattle.model.specs.Memory.{Segment, step, entry, mark, Entry}

-- straight, or turned: in reverse order, each step in the other direction
abbrev pub one_way : Bool → List Step → List Step
one_way true ss = ss
one_way false ss = turned ss

abbrev pub segment_steps : (ℕ → List Step) → Segment → List Step
segment_steps read (step s u) = s ∷ []
segment_steps read (entry n straight) = one_way straight (read n)
segment_steps read (mark e) = []

abbrev pub segments_steps : (ℕ → List Step) → List Segment → List Step
segments_steps read [] = []
segments_steps read (s ∷ ss) = segment_steps read s ++ segments_steps read ss

-- an entry is read in those before it, since it cites these alone
abbrev pub reads : List Entry → ℕ → List Step
reads [] n = []
reads (e ∷ earlier) n = cond (n == length earlier) (segments_steps (reads earlier) e.segments) (reads earlier n)

abbrev pub same_way : Bool → Bool → Bool
same_way true b = b
same_way false b = not b

abbrev pub same_step : Step → Step → Bool
same_step s t = s.given == t.given && same_way s.forward t.forward

abbrev pub same_steps : List Step → List Step → Bool
same_steps [] [] = true
same_steps [] (t ∷ ts) = false
same_steps (s ∷ ss) [] = false
same_steps (s ∷ ss) (t ∷ ts) = same_step s t && same_steps ss ts

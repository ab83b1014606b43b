-- What the calls on walks and paths answer, and what they write. Assumes nothing.
use Rattle.std.specs.Prelude.{ℕ, ◌+◌, ◌*◌, Bool, List, [], ◌∷◌, ◌++◌, length, take, drop, replicate, Some, None, Ok, Option, Result, nat_le}
use Rattle.model.specs.declared.items.Pair.{Pair}
use Rattle.model.specs.declared.items.Step.{Step}
use Rattle.model.specs.declared.items.RootWalk.{RootWalk}
use Rattle.model.specs.Refusals.{Refusal, short, asked}
use Rattle.model.specs.Checks.{Check, require, and_then, unless_refused, all_known, optional}
use Rattle.model.specs.Walks.{Links, Walk, tells, root_walk, check_eq}
use Rattle.model.specs.Paths.{Path, path}

-- the list with these in the places from `base` on
abbrev pub placed : {T : Type 0} → ℕ → List T → List T → List T
placed base xs out = take base out ++ (xs ++ drop (base + length xs) out)

-- a table that is lent has the places needed
abbrev pub long_enough : ℕ → ℕ → Check
long_enough needed len = require (nat_le needed len) (short needed)

-- all mark bytes are zero after a walk
abbrev pub cleared : List ℕ → List ℕ
cleared marks = replicate (length marks) 0

-- what a walk answers: the enode that it tells, and how many it met
abbrev pub told_walk : Walk → RootWalk
told_walk w = record { tells = tells w.ending; len = length w.enodes }

-- a walk needs a mark byte and a place for each enode; it may be told a root
abbrev pub walk_checks : ℕ → ℕ → Option ℕ → ℕ → ℕ → Check
walk_checks size from root marks places =
    and_then (long_enough size marks) (and_then (long_enough size places) (all_known size (from ∷ optional root)))

-- answers the walk, with the mark bytes and the enodes that it leaves
abbrev pub path_to_root : Links → ℕ → ℕ → Option ℕ → List ℕ → List ℕ → Result RootWalk Refusal × (List ℕ × List ℕ)
path_to_root next size from root marks out =
    let w = root_walk next size root from in
    unless_refused (walk_checks size from root (length marks) (length out)) (marks, out)
    (Ok (told_walk w), (cleared marks, placed 0 w.enodes out))

-- the walks of a pair need a mark byte and two places for each enode
abbrev pub pair_checks : ℕ → Pair → ℕ → ℕ → Check
pair_checks size p marks walks =
    and_then (long_enough size marks) (and_then (long_enough (2 * size) walks) (all_known size (p.from ∷ p.to ∷ [])))

-- answers whether the walks share an enode, with the mark bytes that it leaves
abbrev pub check_eq_call : Links → ℕ → Pair → List ℕ → ℕ → Result Bool Refusal × List ℕ
check_eq_call next size p marks walks =
    unless_refused (asked p (pair_checks size p (length marks) walks)) marks
    (Ok (check_eq next size p.from p.to), cleared marks)

-- the steps need a place for each enode
abbrev pub path_checks : ℕ → Pair → ℕ → ℕ → ℕ → Check
path_checks size p marks walks steps =
    and_then (long_enough size marks) (and_then (long_enough (2 * size) walks) (and_then (long_enough size steps) (all_known size (p.from ∷ p.to ∷ []))))

abbrev pub told_path : Option Path → List Step → Option ℕ × List Step
told_path None out = (None, out)
told_path (Some p) out = (Some (length p.steps), placed 0 p.steps out)

-- answers how many steps the path has, if there is one, with the mark bytes and the steps that it leaves
abbrev pub path_call : Links → ℕ → Pair → List ℕ → ℕ → List Step → Result (Option ℕ) Refusal × (List ℕ × List Step)
path_call next size p marks walks out =
    let o = told_path (path next size p.from p.to) out in
    unless_refused (asked p (path_checks size p (length marks) walks (length out))) (marks, out)
    (Ok o.0, (cleared marks, o.1))

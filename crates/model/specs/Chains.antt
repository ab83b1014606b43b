-- Standing entries held against a path, and the chain with fewest segments. Assumes nothing.
use Rattle.std.specs.Prelude.{ℕ, suc, ◌-◌, Bool, true, false, cond, ◌&&◌, List, [], ◌∷◌, length, Some, None, Option, ◌==◌, nat_le, nat_lt, slice_index_or, slice_range}
use Rattle.model.specs.declared.items.Step.{Step}
use Rattle.model.specs.Records.{turned}
use Rattle.model.specs.Memory.{Segment, step, entry}
use Rattle.model.specs.Reading.{same_steps}

-- an edge leads from a place of the path to a higher one
pub record Edge : Type 0 where
  pub from : ℕ
  pub to : ℕ
  pub segment : Segment

-- the steps between two places
abbrev pub stretch : List Step → ℕ → ℕ → List Step
stretch ss i j = slice_range ss i j

-- entry n, standing from place i to place j: an edge if its steps are the stretch between, in its own direction
abbrev pub kept : (ℕ → List Step) → List Step → ℕ → ℕ → ℕ → Option Edge
kept read ss i j n =
    cond (nat_lt i j && same_steps (read n) (stretch ss i j)) (Some (record { from = i; to = j; segment = entry n true }))
    (cond (nat_lt j i && same_steps (read n) (turned (stretch ss j i))) (Some (record { from = j; to = i; segment = entry n false }))
    None)

abbrev pub spans : ℕ → Edge → Bool
spans n d = d.from == 0 && d.to == n

-- at place i: of the edges that leave the fewest segments the one added last; `so_far` is the chain before any of `edges`, which are listed newest first.
-- `later` has the chains from place i + 1, i + 2 and so on
abbrev pub best : ℕ → List (List Segment) → List Segment → List Edge → List Segment
best i later so_far [] = so_far
best i later so_far (d ∷ ds) =
    let older = best i later so_far ds in
    let here = d.segment ∷ slice_index_or later (d.to - suc i) [] in
    cond (d.from == i && nat_le (length here) (length older)) here older

abbrev pub first_chain : List (List Segment) → List Segment
first_chain [] = []
first_chain (c ∷ cs) = c

-- the chains taken from place i, from the next one, and so on to the last place; the path's own steps were added first
abbrev pub chains : List Edge → ℕ → List Step → List (List Segment)
chains edges i [] = [] ∷ []
chains edges i (s ∷ ss) =
    let later = chains edges (suc i) ss in
    best i later (step s None ∷ first_chain later) edges ∷ later

-- the chain of a path
abbrev pub chain : List Edge → List Step → List Segment
chain edges ss = first_chain (chains edges 0 ss)

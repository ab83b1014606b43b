-- The givens under an enode with their numbers, newest first. Assumes nothing.
use Rattle.std.specs.Prelude.{ℕ, zero, suc, ◌<◌, ◌≤◌, List, [], ◌∷◌, length, Some, None, Option, cond, ◌==◌, slice_index_or}
use Rattle.egraph.specs.declared.equality.Given.{Given}
use Rattle.egraph.specs.Records.{no_row, past}

-- those of the first n givens that are under the enode
abbrev pub newest_first : ℕ → List Given → ℕ → List (ℕ × Given)
newest_first e rows zero = []
newest_first e rows (suc n) = cond ((slice_index_or rows n no_row).from == e) ((n, slice_index_or rows n no_row) ∷ newest_first e rows n) (newest_first e rows n)

-- each given names an older one, or none
abbrev pub OlderNamed : List Given → Type 0
OlderNamed rows = (k : ℕ) → k < length rows → past (slice_index_or rows k no_row).older ≤ k

-- from one given on, each the one that the last names, up to so many of them
abbrev pub some_back : ℕ → List Given → Option ℕ → List (ℕ × Given)
some_back zero rows next = []
some_back (suc most) rows None = []
some_back (suc most) rows (Some n) = (n, slice_index_or rows n no_row) ∷ some_back most rows (slice_index_or rows n no_row).older

-- all of them
abbrev pub givens_back : List Given → Option ℕ → List (ℕ × Given)
givens_back rows next = some_back (past next) rows next

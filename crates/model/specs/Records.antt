-- What a case has on its books: enodes and givens, each named by its number. Assumes nothing.
use Rattle.std.specs.Prelude.{ℕ, zero, suc, ◌+◌, Bool, cond, not, List, [], ◌∷◌, map, reverse, length, Some, None, Option, slice_index_or}
use Rattle.model.specs.declared.items.Pair.{Pair}
use Rattle.model.specs.declared.items.Step.{Step}

-- the term that an enode is of, and the frame that it was logged in
pub record Enode : Type 0 where
  pub owner : ℕ
  pub frame : ℕ

-- where a given came from; a congruence has its argument pairs
pub data Kind : Type 0 where
  Root Axiom : Kind
  Literal Theory Unknown : ℕ → Kind
  Congruence : List Pair → Kind

-- a given equality of two enodes, and the frame that it was logged in
pub record Given : Type 0 where
  pub from : ℕ
  pub to : ℕ
  pub frame : ℕ
  pub kind : Kind

-- oldest first
pub record Records : Type 0 where
  pub enodes : List Enode
  pub givens : List Given

abbrev pub no_given : Given
no_given = record { from = 0; to = 0; frame = 0; kind = Root }

abbrev pub given_at : List Given → ℕ → Given
given_at gs n = slice_index_or gs n no_given

abbrev pub args_of : Kind → List Pair
args_of (Congruence ps) = ps
args_of Root = []
args_of Axiom = []
args_of (Literal n) = []
args_of (Theory n) = []
args_of (Unknown n) = []

-- the argument pairs of all givens
abbrev pub arg_count : List Given → ℕ
arg_count [] = 0
arg_count (g ∷ gs) = length (args_of g.kind) + arg_count gs

-- the newest of the first n givens that passes the test
abbrev pub newest : (Given → Bool) → List Given → ℕ → Option ℕ
newest test gs zero = None
newest test gs (suc n) = cond (test (given_at gs n)) (Some n) (newest test gs n)

-- the oldest given that passes the test, of givens numbered from n
abbrev pub oldest_from : ℕ → (Given → Bool) → List Given → Option ℕ
oldest_from n test [] = None
oldest_from n test (g ∷ gs) = cond (test g) (Some n) (oldest_from (suc n) test gs)

abbrev pub turn_step : Step → Step
turn_step s = record { given = s.given; forward = not s.forward }

-- the same steps read from the other end
abbrev pub turned : List Step → List Step
turned ss = map turn_step (reverse ss)

-- Checks one after another: the first that fails refuses the call. Assumes nothing.
use Rattle.std.specs.Prelude.{ℕ, Bool, cond, List, [], ◌∷◌, Some, None, Ok, Err, Option, Result, nat_lt}
use Rattle.model.specs.Refusals.{Refusal, unknown_enode}

abbrev pub Check : Type 0
Check = Result (Unit {0}) Refusal

abbrev pub require : Bool → Refusal → Check
require test r = cond test (Ok tt) (Err r)

abbrev pub and_then : {A : Type 0} → Check → Result A Refusal → Result A Refusal
and_then (Ok _) r = r
and_then (Err e) r = Err e

-- the call changes something only where no check fails
abbrev pub unless_refused : {A S : Type 0} → Check → S → Result A Refusal × S → Result A Refusal × S
unless_refused (Ok _) s o = o
unless_refused (Err e) s o = (Err e, s)

-- these enodes are on the books, of which there are `size`
abbrev pub all_known : ℕ → List ℕ → Check
all_known size [] = Ok tt
all_known size (e ∷ es) = cond (nat_lt e size) (all_known size es) (Err (unknown_enode e))

abbrev pub optional : Option ℕ → List ℕ
optional None = []
optional (Some e) = e ∷ []

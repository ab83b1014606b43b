-- The kind that was found by its number, and what is read where there is none.
use Rattle.std.proofs.Common.{◌≡◌, ℕ, List, Some, None, Ok, Err, Result, arith}
use Rattle.std.specs.Result.{result_ok}
use Rattle.std.proofs.lemmas.Bool.Decides.{nat_tests}
use Rattle.wordlog.specs.declared.call.UnknownNumber.{UnknownNumber}
use Rattle.wordlog.specs.declared.kind.RecordKind.{RecordKind}
use Rattle.wordlog.specs.declared.kind.RecordKind.TheVariants as record_kinds
use Rattle.wordlog.specs.declared.kind.GivenKind.{GivenKind}
use Rattle.wordlog.specs.declared.kind.GivenKind.TheVariants as given_kinds
use Rattle.wordlog.specs.Kinds.{record_number, given_number, Names}
use Rattle.wordlog.specs.Reading.{given_front, front_of}

pub named : {K : Type 0} (number_of : K → ℕ) (n : ℕ) (r : Result K UnknownNumber) (kind : K) → Names number_of n r → result_ok r ≡ Some kind → number_of kind ≡ n
named number_of n (Ok k) kind is e = cc
named number_of n (Err u) kind is e = absurd (cc)

pub no_given : (n count : ℕ) (ws : List ℕ) (r : Result GivenKind UnknownNumber) → Names given_number n r → result_ok r ≡ None → given_front n count ws ≡ None
no_given n count ws (Ok k) is e = absurd (cc)
no_given n count ws (Err u) is e = let other = is.1 in grind (arith, nat_tests, other given_kinds.Root, other given_kinds.Literal, other given_kinds.Congruence, other given_kinds.Theory, other given_kinds.Axiom, other given_kinds.Unknown)

pub no_record : (n payload : ℕ) (ws : List ℕ) (r : Result RecordKind UnknownNumber) → Names record_number n r → result_ok r ≡ None → front_of n payload ws ≡ None
no_record n payload ws (Ok k) is e = absurd (cc)
no_record n payload ws (Err u) is e = let other = is.1 in grind (arith, nat_tests, other record_kinds.Enode, other record_kinds.Given, other record_kinds.Open, other record_kinds.Close, other record_kinds.Ask)

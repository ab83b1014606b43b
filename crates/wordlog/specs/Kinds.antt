-- The numbers of the kinds of records and of givens. Assumes nothing.
use Rattle.std.specs.Prelude.{◌≡◌, ◌≢◌, ℕ, Result, MatchResult}
use Rattle.wordlog.specs.declared.call.UnknownNumber.{UnknownNumber}
use Rattle.wordlog.specs.declared.kind.RecordKind.{RecordKind}
use Rattle.wordlog.specs.declared.kind.RecordKind.TheVariants as record_kinds
use Rattle.wordlog.specs.declared.kind.GivenKind.{GivenKind}
use Rattle.wordlog.specs.declared.kind.GivenKind.TheVariants as given_kinds

abbrev pub record_number : RecordKind → ℕ
record_number record_kinds.Enode = 1
record_number record_kinds.Given = 2
record_number record_kinds.Open = 3
record_number record_kinds.Close = 4
record_number record_kinds.Ask = 5

abbrev pub given_number : GivenKind → ℕ
given_number given_kinds.Root = 0
given_number given_kinds.Literal = 1
given_number given_kinds.Congruence = 2
given_number given_kinds.Theory = 3
given_number given_kinds.Axiom = 4
given_number given_kinds.Unknown = 5

-- the kind with that number, or the number that no kind has
abbrev pub Names : {K : Type 0} → (K → ℕ) → ℕ → Result K UnknownNumber → Type 0
Names {K = K} number_of n r = MatchResult r (λ kind. number_of kind ≡ n) (λ e. (e.0 ≡ n) × ((kind : K) → number_of kind ≢ n))

-- The code's calls as the calls of the definitions. Assumes nothing.
use Rattle.std.specs.Prelude.{◌≡◌, ℕ, ◌+◌, ◌*◌, ◌≤◌, Bool, cond, List, Some, None, Option, Result, MatchResult}
use Rattle.model.specs.declared.items.EqualityExpl.{EqualityExpl}
use Rattle.model.specs.Records.{Congruence}
use Rattle.model.specs.Explanations.{pairs_of, from_of, to_of, kind_of}
use Rattle.model.specs.Format.{Call, enode, given, open_frame, close_frame, ask}
use Rattle.wordlog.specs.declared.call.TransEqAllowed.{TransEqAllowed}
use Rattle.wordlog.specs.declared.call.UnknownNumber.{UnknownNumber}
use Rattle.wordlog.specs.declared.call.Call.{Call as CodeCall}
use Rattle.wordlog.specs.declared.call.Call.TheVariants.{Enode, Given, Open, Close, Ask}

abbrev pub flag : Bool → ℕ
flag b = cond b 1 0

abbrev pub permission : TransEqAllowed → ℕ
permission p = flag p.can_mismatch_initial + 2 * flag p.can_mismatch_congr

-- the permissions that this number stands for, or a number that stands for none
abbrev pub Permits : ℕ → Result TransEqAllowed UnknownNumber → Type 0
Permits n r = MatchResult r (λ p. permission p ≡ n) (λ e. (e.0 ≡ n) × (4 ≤ n))

-- a congruence with the words of its arguments
abbrev pub congruence : ℕ → ℕ → List ℕ → Call
congruence a b ws = given a b (Congruence (pairs_of ws))

abbrev pub given_of : EqualityExpl → Call
given_of e = given (from_of e) (to_of e) (kind_of e)

abbrev pub call_of : CodeCall → Call
call_of (Enode owner) = enode owner
call_of (Given e) = given_of e
call_of Open = open_frame
call_of Close = close_frame
call_of (Ask may a b) = ask (permission may) a b

-- what the code answers, a call with its number of words
abbrev pub front_as : Option (CodeCall × ℕ) → Option (Call × ℕ)
front_as None = None
front_as (Some p) = Some (call_of p.0, p.1)

abbrev pub call_as : Option CodeCall → Option Call
call_as None = None
call_as (Some c) = Some (call_of c)

abbrev pub given_as : Option EqualityExpl → Option Call
given_as None = None
given_as (Some e) = Some (given_of e)

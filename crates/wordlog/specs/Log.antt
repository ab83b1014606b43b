-- A log's calls one after another. Assumes nothing.
use Rattle.std.specs.Prelude.{ℕ, ◌+◌, ◌≤◌, min, Bool, cond, ◌&&◌, List, length, take, drop, Some, None, Ok, Err, Option, Result, nat_lt}
use Rattle.model.specs.declared.error.Fault.{Fault}
use Rattle.model.specs.Refusals.{Refusal, unreadable, refusal_of}
use Rattle.model.specs.Format.{Call}
use Rattle.wordlog.specs.declared.call.Call.{Call as CodeCall}
use Rattle.wordlog.specs.Calls.{call_as}
use Rattle.wordlog.specs.Reading.{Front, front}

-- the next call, or none at the end, with the place behind it
abbrev pub Next : Type 0
Next = Result (Option Call × ℕ) Refusal

-- a call moves the place on by its words; what is no call is refused at its head
abbrev pub step : ℕ → Front → Next
step at None = Err (unreadable at)
step at (Some p) = Ok (Some p.0, at + p.1)

-- bytes left over behind the last word are refused at the place that they begin
abbrev pub end : Bool → ℕ → Next
end ragged at = cond ragged (Err (unreadable at)) (Ok (None, at))

abbrev pub next : List ℕ → Bool → ℕ → Next
next ws ragged at = cond (nat_lt at (length ws)) (step at (front (drop at ws))) (end ragged at)

-- the answer, and the place after it; a refusal leaves the place
abbrev pub moved : ℕ → Next → Result (Option Call) Refusal × ℕ
moved at (Ok p) = (Ok p.0, p.1)
moved at (Err r) = (Err r, at)

-- no more words of a log are read, nor what is left over behind them
abbrev pub words_read : List ℕ → List ℕ
words_read ws = take (min (length ws) 16384) ws

abbrev pub ragged_read : List ℕ → Bool → Bool
ragged_read ws ragged = nat_lt (length ws) 16384 && ragged

-- what the code answers
abbrev pub next_as : Result (Option CodeCall × ℕ) Fault → Next
next_as (Ok p) = Ok (call_as p.0, p.1)
next_as (Err f) = Err (refusal_of f)

abbrev pub answer_as : Result (Option CodeCall) Fault → Result (Option Call) Refusal
answer_as (Ok c) = Ok (call_as c)
answer_as (Err f) = Err (refusal_of f)

-- the place behind a call is no further than the words go
abbrev pub Within : Result (Option CodeCall × ℕ) Fault → ℕ → Type 0
Within (Ok p) n = p.1 ≤ n
Within (Err f) n = Unit {0}

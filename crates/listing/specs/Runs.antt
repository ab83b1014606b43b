-- What a log prints, call by call. Assumes nothing.
use Rattle.std.specs.Prelude.{◌≡◌, ℕ, Bool, false, List, [], ◌++◌, length, Some, None, Ok, Err, Result}
use Rattle.model.specs.Refusals.{Refusal}
use Rattle.model.specs.Frames as frames
use Rattle.model.specs.Walks.{links}
use Rattle.model.specs.Logging.{Case, empty_case, new_enode, new_given, on_frames}
use Rattle.model.specs.Format.{Call, enode, given, open_frame, close_frame, ask}
use Rattle.wordlog.specs.Log.{next, words_read, ragged_read}
use Rattle.lines.specs.Text.{refused_text, totals_text}
use Rattle.listing.specs.Question.{question_text}

-- nothing, unless the call is refused
abbrev pub refusal_text : ℕ → Result ℕ Refusal → List ℕ
refusal_text place (Ok n) = []
refusal_text place (Err r) = refused_text r.number place

-- what a call at a place of the log prints, in a case whose rule allows that many open frames
abbrev pub call_text : ℕ → ℕ → Case → Call → List ℕ
call_text limit place k (enode owner) = refusal_text place (new_enode owner k).0
call_text limit place k (given a b kind) = refusal_text place (new_given a a b kind k).0
call_text limit place k open_frame = refusal_text place (frames.open_frame limit k.frames).0
call_text limit place k close_frame = refusal_text place (frames.close_frame (λ f. false) k.frames).0
call_text limit place k (ask may a b) =
    question_text (links k.frames.counts k.records.givens) (length k.records.enodes) (record { from = a; to = b }) place

-- the case after the call; the rule tells which frames leave the set that counts as one is closed
abbrev pub After : ℕ → Case → Call → Case → Type 0
After limit k (enode owner) k' = k' ≡ (new_enode owner k).1
After limit k (given a b kind) k' = k' ≡ (new_given a a b kind k).1
After limit k open_frame k' = k' ≡ (on_frames k (frames.open_frame limit k.frames)).1
After limit k close_frame k' = (leaves : ℕ → Bool) × (k' ≡ (on_frames k (frames.close_frame leaves k.frames)).1)
After limit k (ask may a b) k' = k' ≡ k

-- the words of a log from a place on print a text, and lead from one case to another: to the log's end, to unreadable words, or by a call and then on
pub data Prints (limit : ℕ) (ws : List ℕ) (ragged : Bool) : ℕ → Case → List ℕ → Case → Type 0 where
  ends : {at : ℕ} {k k' : Case} {text : List ℕ} (behind : ℕ) → next ws ragged at ≡ Ok (None, behind) → k' ≡ k → text ≡ [] → Prints limit ws ragged at k text k'
  stops : {at : ℕ} {k k' : Case} {text : List ℕ} (r : Refusal) → next ws ragged at ≡ Err r → k' ≡ k → text ≡ refused_text r.number at → Prints limit ws ragged at k text k'
  goes_on : {at : ℕ} {k k'' : Case} {text : List ℕ} (call : Call) (behind : ℕ) (k' : Case) (more : List ℕ) → next ws ragged at ≡ Ok (Some call, behind) → After limit k call k' →
      text ≡ call_text limit at k call ++ more → Prints limit ws ragged behind k' more k'' → Prints limit ws ragged at k text k''

-- behind a text that was there the words of a log print more
pub record Adds (limit : ℕ) (ws : List ℕ) (ragged : Bool) (k k' : Case) (before after : List ℕ) : Type 0 where
  pub text : List ℕ
  pub is : after ≡ before ++ text
  pub prints : Prints limit (words_read ws) (ragged_read ws ragged) 0 k text k'

-- a log prints its calls from an empty case on, and last how much is on the books
pub record Listed (limit : ℕ) (ws : List ℕ) (ragged : Bool) (m : frames.Frames) (text : List ℕ) : Type 0 where
  pub last : Case
  pub calls : List ℕ
  pub prints : Prints limit (words_read ws) (ragged_read ws ragged) 0 (empty_case (record { enodes = 128; givens = 128; arguments = 512 }) m) calls last
  pub is : text ≡ calls ++ totals_text (length last.records.enodes) (length last.records.givens) (length last.frames.opened)

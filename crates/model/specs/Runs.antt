-- The five calls on a case that remembers, and runs of calls under any frame rule. Assumes nothing.
use Rattle.std.specs.Prelude.{ℕ, ◌*◌, ◌/◌, ◌%◌, min, Bool, List, [], ◌∷◌, length, Ok, Err, ◌==◌}
use Rattle.model.specs.Records.{arg_count}
use Rattle.model.specs.Refusals.{Refusal, asked}
use Rattle.model.specs.Frames as frames
use Rattle.model.specs.Frames.{Lawful, base}
use Rattle.model.specs.Checks.{Check, and_then}
use Rattle.model.specs.Logging.{Room, Case, Outcome, empty_case, new_enode, new_given, on_frames}
use Rattle.model.specs.Walks.{Links, links}
use Rattle.model.specs.WalkCalls.{long_enough}
use Rattle.model.specs.Memory.{Memory, nothing_filed}
use Rattle.model.specs.Acts.{Question, Done, done, stop}
use Rattle.model.specs.Questions.{Permission, Places, Reply, same, on_file, filed, ask, asking}
use Rattle.model.specs.Format as F
use Rattle.model.specs.Format.{Call}

-- the lengths of the scratch tables that questions are lent
pub record Scratch : Type 0 where
  pub marks : ℕ
  pub links : ℕ
  pub walks : ℕ
  pub chains : ℕ
  pub answers : ℕ
  pub edges : ℕ
  pub reading : ℕ

-- a case with what it remembers, and the scratch for its questions
pub record Session : Type 0 where
  pub case : Case
  pub places : Places
  pub scratch : Scratch
  pub memory : Memory

abbrev pub empty_session : Room → Places → Scratch → Session
empty_session room places scratch = record { case = empty_case room base; places = places; scratch = scratch; memory = nothing_filed }

-- for each enode a mark byte, a link, two walk places and 33 chain places; 33 answer places for each argument pair; an edge place for each standing pair and a reading place for each entry that the tables can hold
abbrev pub scratch_checks : Session → Check
scratch_checks s =
    let n = length s.case.records.enodes in
    and_then (long_enough n s.scratch.marks)
    (and_then (long_enough n s.scratch.links)
    (and_then (long_enough (2 * n) s.scratch.walks)
    (and_then (long_enough (33 * n) s.scratch.chains)
    (and_then (long_enough (33 * arg_count s.case.records.givens) s.scratch.answers)
    (and_then (long_enough (min 65536 s.places.pairs) s.scratch.edges)
    (long_enough (min 65536 s.places.entries) s.scratch.reading))))))

abbrev pub links_of : Case → Links
links_of k = links k.frames.counts k.records.givens

-- what a call answers: the number of what was logged or of the frame, a closed frame's count, equal enodes, an entry, or a refusal
pub data Answer : Type 0 where
  number : ℕ → Answer
  same_enode : ℕ → Answer
  by_entry : ℕ → Answer
  refused : Refusal → Answer

-- an answer, the session after it, and the questions that were put
pub record Turn : Type 0 where
  pub answer : Answer
  pub after : Session
  pub questions : List Question

abbrev pub with_case : Session → Case → Session
with_case s k = record { case = k; places = s.places; scratch = s.scratch; memory = s.memory }

abbrev pub with_memory : Session → Memory → Session
with_memory s m = record { case = s.case; places = s.places; scratch = s.scratch; memory = m }

-- logging and frames leave what is remembered
abbrev pub logged : Session → Outcome → Turn
logged s (Ok n, k) = record { answer = number n; after = with_case s k; questions = [] }
logged s (Err r, k) = record { answer = refused r; after = with_case s k; questions = [] }

abbrev pub replied : Reply → Answer
replied (same e) = same_enode e
replied (on_file n) = by_entry n
replied (filed n) = by_entry n

abbrev pub asked_turn : Session → Done Reply → Turn
asked_turn s (done r m qs) = record { answer = replied r; after = with_memory s m; questions = qs }
asked_turn s (stop r m qs) = record { answer = refused r; after = with_memory s m; questions = qs }

-- permission bits 0 and 1
abbrev pub permission : ℕ → Permission
permission may = record { start = (may % 2 == 1); arguments = (may / 2 % 2 == 1) }

abbrev pub unless_short : Check → Session → Turn → Turn
unless_short (Ok _) s t = t
unless_short (Err r) s t = record { answer = refused r; after = s; questions = [] }

-- one call; `leaves` is what the rule takes out of the set if the call is a closing
unfoldable pub turn : ℕ → (ℕ → Bool) → Call → Session → Turn
turn limit leaves (F.enode owner) s = logged s (new_enode owner s.case)
turn limit leaves (F.given a b kind) s = logged s (new_given a a b kind s.case)
turn limit leaves F.open_frame s = logged s (on_frames s.case (frames.open_frame limit s.case.frames))
turn limit leaves F.close_frame s = logged s (on_frames s.case (frames.close_frame leaves s.case.frames))
turn limit leaves (F.ask may a b) s =
    unless_short (asked (record { from = a; to = b }) (scratch_checks s)) s
    (asked_turn s (ask (links_of s.case) s.case.records s.places (permission may) (record { from = a; to = b }) s.memory))

-- a call with what the rule takes out of the set at it
pub record Move : Type 0 where
  pub call : Call
  pub leaves : ℕ → Bool

abbrev pub play : ℕ → Session → Move → Turn
play limit s m = turn limit m.leaves m.call s

-- the turns of a run: each goes on from what the one before left
abbrev pub turns : ℕ → Session → List Move → List Turn
turns limit s [] = []
turns limit s (m ∷ ms) = let t = play limit s m in t ∷ turns limit t.after ms

abbrev pub reached : ℕ → Session → List Move → Session
reached limit s [] = s
reached limit s (m ∷ ms) = reached limit (play limit s m).after ms

-- the rule's law holds after each call
abbrev pub KeepsLaw : ℕ → Session → List Move → Type 0
KeepsLaw limit s [] = Lawful s.case.frames
KeepsLaw limit s (m ∷ ms) = Lawful s.case.frames × KeepsLaw limit (play limit s m).after ms

abbrev pub answers : ℕ → Session → List Move → List Answer
answers limit s [] = []
answers limit s (m ∷ ms) = let t = play limit s m in t.answer ∷ answers limit t.after ms

-- what a proof that computes calls unfolds
unfoldable pub calling : Unit {0}
unfolding turn asking
calling = tt

-- Sessions in order: the givens' ends are on the books and what is remembered is sound. Every call leaves them so. Assumes nothing.
use Rattle.std.proofs.Common.{◌≡◌, ℕ, ◌<◌, ◌≤◌, Bool, List, [], ◌∷◌, ◌++◌, length, None, Ok, Err, Result, sym, refl, subst, inl, inr, append-nil, arith}
use Rattle.std.proofs.lemmas.List.{length-append, get_or_append_left, get_or_push}
use Rattle.std.proofs.lemmas.Bool.{cases_lt}
use Rattle.model.specs.declared.items.Pair.{Pair}
use Rattle.model.specs.Records.{Enode, Kind, Given, no_given}
use Rattle.std.proofs.lemmas.Bool.Decides.{nat_tests}
use Rattle.model.specs.Refusals.{Refusal, short, asked}
use Rattle.model.specs.Frames as frames
use Rattle.model.specs.Frames.{Frames, current, log_frame}
use Rattle.model.specs.Checks.{Check, unless_refused}
use Rattle.model.specs.Logging.{Room, Case, Outcome, given_checks, in_frame, new_enode, enode_added, new_given, on_frames}
use Rattle.model.specs.PathLaws.{EndsKnown}
use Rattle.model.specs.Memory.{Memory, Entry}
use Rattle.model.specs.Acts.{Question, Done, done, stop}
use Rattle.model.specs.Questions.{Places, Reply, same, on_file, filed, ask}
use Rattle.model.specs.Format as F
use Rattle.model.specs.Format.{Call}
use Rattle.model.specs.Runs.{Scratch, Session, empty_session, scratch_checks, links_of, Answer, number, same_enode, by_entry, refused, Turn, logged, asked_turn, permission, unless_short, turn, with_memory, Move, play, reached}
use Rattle.model.specs.RunLaws.{size_of}
use Rattle.model.proofs.PathPlaces.{path_laid}
use Rattle.model.proofs.Remembering.{Sound, sound_none}
use Rattle.model.proofs.Passing.{way_of, AnswersBy, Passes, passes_self, ComesTo, none_pending}
use Rattle.model.proofs.Asking.{Replies, Refused, ask_does}

ends_more : (gs : List Given) (m n : ℕ) → m ≤ n → EndsKnown gs m → EndsKnown gs n
ends_more gs m n le h k lt = let e = h k lt in (omega (arith, e.0), omega (arith, e.1))

ends_given : (gs : List Given) (g : Given) (n : ℕ) → EndsKnown gs n → g.from < n → g.to < n → EndsKnown (gs ++ (g ∷ [])) n
ends_given gs g n h lf lt k below = elim (cases_lt k (length gs)) [
  | inl old ↦ rw (get_or_append_left gs (g ∷ []) no_given k old) (h k old)
  | inr new ↦
      let last : length gs ≡ k = omega (arith, length-append gs (g ∷ [])) in
      rw (get_or_push gs g no_given k last) (lf, lt)
]

pub record InOrder (s : Session) : Type 0 where
  pub ends : EndsKnown s.case.records.givens (size_of s)
  pub sound : Sound s.memory

-- what holds after every call
pub record GoesOn (s : Session) (t : Turn) : Type 0 where
  pub passes : Passes (links_of s.case) (size_of s) s.memory t.questions t.after.memory
  pub in_order : InOrder t.after
  pub no_fewer : size_of s ≤ size_of t.after

-- a case whose givens' ends are known, with at least as many enodes
record Grown (k l : Case) : Type 0 where
  ends : EndsKnown l.records.givens (length l.records.enodes)
  no_fewer : length k.records.enodes ≤ length l.records.enodes

-- logging and frames leave what is remembered
logged_goes_on : (s : Session) (o : Outcome) → InOrder s → Grown s.case o.1 → GoesOn s (logged s o)
logged_goes_on s (Ok n, k) h g = record { passes = passes_self h.sound; in_order = record { ends = g.ends; sound = h.sound }; no_fewer = g.no_fewer }
logged_goes_on s (Err r, k) h g = record { passes = passes_self h.sound; in_order = record { ends = g.ends; sound = h.sound }; no_fewer = g.no_fewer }

module _ (k : Case) (h : EndsKnown k.records.givens (length k.records.enodes)) where
  as_it_was : Grown k k
  as_it_was = record { ends = h; no_fewer = omega arith }

  unless_grown : (c : Check) (o : Outcome) → (c ≡ Ok tt → Grown k o.1) → Grown k (unless_refused c k o).1
  unless_grown (Ok u) o g = g refl
  unless_grown (Err r) o g = as_it_was

  enode_grown : (owner : ℕ) → Grown k (new_enode owner k).1
  enode_grown owner =
      let e : Enode = record { owner = owner; frame = (current k.frames.opened).number } in
      let more : length k.records.enodes ≤ length (k.records.enodes ++ (e ∷ [])) = omega (arith, length-append k.records.enodes (e ∷ [])) in
      unless_grown _ (Ok (length k.records.enodes), enode_added k e) (λ _.
      record { ends = ends_more k.records.givens (length k.records.enodes) (length (k.records.enodes ++ (e ∷ []))) more h; no_fewer = more })

  ends_checked : (a b : ℕ) (kind : Kind) → given_checks a a b kind k ≡ Ok tt → (a < length k.records.enodes) × (b < length k.records.enodes)
  ends_checked a b kind e = grind (arith, nat_tests)

  framed_grown : (g : ℕ → Given) → ((frame : ℕ) → ((g frame).from < length k.records.enodes) × ((g frame).to < length k.records.enodes)) → (o : Result ℕ Refusal × Frames) → Grown k (in_frame k g o).1
  framed_grown g known (Ok frame, m) = record { ends = ends_given k.records.givens (g frame) (length k.records.enodes) h (known frame).0 (known frame).1; no_fewer = omega arith }
  framed_grown g known (Err r, m) = as_it_was

  given_grown : (a b : ℕ) (kind : Kind) → Grown k (new_given a a b kind k).1
  given_grown a b kind =
      unless_grown (given_checks a a b kind k) _ (λ e.
      let known = ends_checked a b kind e in
      framed_grown _ (λ frame. (known.0, known.1)) (log_frame k.frames))

-- a refusal of the scratch tables is no refusal of the question
abbrev OnlyShort : Check → Type 0
OnlyShort (Ok _) = Unit {0}
OnlyShort (Err r) = r.number ≡ 9

asked_short : (p : Pair) (c : Check) → OnlyShort c → OnlyShort (asked p c)
asked_short p (Ok u) h = tt
asked_short p (Err r) h = h

scratch_short : (s : Session) → OnlyShort (scratch_checks s)
scratch_short s = grind (arith, nat_tests)

-- what the answer to a question says
abbrev pub AnswerSays : Session → Pair → List Entry → Answer → Type 0
AnswerSays s p entries (number n) = ⊥
AnswerSays s p entries (same_enode e) = (p.from < size_of s) × (p.from ≡ p.to)
AnswerSays s p entries (by_entry n) = AnswersBy (links_of s.case) (size_of s) entries p n
AnswerSays s p entries (refused r) = r.number ≡ 5 → r.level ≡ 0 → (p.from < size_of s) × (p.to < size_of s) × (way_of (links_of s.case) (size_of s) p ≡ None)

pub record Asked (s : Session) (p : Pair) (t : Turn) : Type 0 where
  pub goes_on : GoesOn s t
  pub says : AnswerSays s p t.after.memory.entries t.answer

module _ (s : Session) (h : InOrder s) where
  went : (a : Answer) (m : Memory) (qs : List Question) → Passes (links_of s.case) (size_of s) s.memory qs m → GoesOn s (record { answer = a; after = with_memory s m; questions = qs })
  went a m qs p = record { passes = p; in_order = record { ends = h.ends; sound = p.sound }; no_fewer = omega arith }

  answered : (p : Pair) (d : Done Reply) → ComesTo (links_of s.case) (size_of s) none_pending (Replies (links_of s.case) s.case.records s.places p) (Refused (links_of s.case) s.case.records s.places p 0) s.memory d → Asked s p (asked_turn s d)
  answered p (done (same e) m qs) c = record { goes_on = went _ m qs (rw append-nil at c.0); says = c.1 }
  answered p (done (on_file n) m qs) c = record { goes_on = went _ m qs (rw append-nil at c.0); says = c.1 }
  answered p (done (filed n) m qs) c = record { goes_on = went _ m qs (rw append-nil at c.0); says = c.1 }
  answered p (stop r m qs) c = record { goes_on = went _ m qs c.0; says = c.1.1 }

  unless_short_asked : (p : Pair) (c : Check) → OnlyShort c → (t : Turn) → Asked s p t → Asked s p (unless_short c s t)
  unless_short_asked p (Ok u) short t a = a
  unless_short_asked p (Err r) short t a = record { goes_on = went _ s.memory [] (passes_self h.sound); says = λ five _. absurd (omega (arith, short, five)) }

  module _ (limit : ℕ) (leaves : ℕ → Bool) where
    pub ask_asked : (may a b : ℕ) → Asked s (record { from = a; to = b }) (turn limit leaves (F.ask may a b) s)
    unfolding turn ask
    ask_asked may a b =
        let p : Pair = record { from = a; to = b } in
        unless_short_asked p _ (asked_short p (scratch_checks s) (scratch_short s)) _
        (answered p _ (ask_does (links_of s.case) s.case.records s.places (path_laid s.case.frames.counts s.case.records.givens (size_of s)) 33 0 (permission may) p s.memory h.sound).holds)

    pub turn_goes_on : (c : Call) → GoesOn s (turn limit leaves c s)
    unfolding turn
    turn_goes_on (F.enode owner) = logged_goes_on s _ h (enode_grown s.case h.ends owner)
    turn_goes_on (F.given a b kind) = logged_goes_on s _ h (given_grown s.case h.ends a b kind)
    turn_goes_on F.open_frame = logged_goes_on s (on_frames s.case (frames.open_frame limit s.case.frames)) h (record { ends = h.ends; no_fewer = omega arith })
    turn_goes_on F.close_frame = logged_goes_on s (on_frames s.case (frames.close_frame leaves s.case.frames)) h (record { ends = h.ends; no_fewer = omega arith })
    turn_goes_on (F.ask may a b) = (ask_asked may a b).goes_on

module _ (limit : ℕ) where
  pub play_goes_on : (s : Session) (m : Move) → InOrder s → GoesOn s (play limit s m)
  play_goes_on s m h = turn_goes_on s h limit m.leaves m.call

  pub call_asked : (s : Session) (m : Move) (may a b : ℕ) → InOrder s → m.call ≡ F.ask may a b → Asked s (record { from = a; to = b }) (play limit s m)
  call_asked s m may a b h call = subst (λ c. Asked s (record { from = a; to = b }) (turn limit m.leaves c s)) (sym call) (ask_asked s h limit m.leaves may a b)

  pub reached_in_order : (s : Session) (ms : List Move) → InOrder s → InOrder (reached limit s ms)
  reached_in_order s [] h = h
  reached_in_order s (m ∷ ms) h = reached_in_order (play limit s m).after ms (play_goes_on s m h).in_order

  pub start_in_order : (room : Room) (places : Places) (scratch : Scratch) (ms : List Move) → InOrder (reached limit (empty_session room places scratch) ms)
  start_in_order room places scratch ms = reached_in_order (empty_session room places scratch) ms (record { ends = λ k lt. absurd (omega arith); sound = sound_none })

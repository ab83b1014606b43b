-- The laws over whole runs. Assumes nothing.
use Rattle.std.proofs.Common.{◌≡◌, ℕ, ◌<◌, true, false, List, [], ◌∷◌, ◌++◌, is_some, sym, refl, ap, ◌∙◌, subst, inl, inr}
use Rattle.std.proofs.lemmas.Bool.{both_ways}
use Rattle.model.specs.declared.items.Pair.{Pair}
use Rattle.model.specs.Records.{turned}
use Rattle.model.specs.Walks.{check_eq}
use Rattle.model.specs.Paths.{Path, path}
use Rattle.model.specs.PathLaws.{Strikes}
use Rattle.model.specs.Memory.{Entry, entry_at, is_mark}
use Rattle.model.specs.Format as F
use Rattle.model.specs.Acts.{Question}
use Rattle.model.specs.Logging.{Room}
use Rattle.model.specs.Questions.{Places}
use Rattle.model.specs.Runs.{Scratch, Session, links_of, Answer, number, same_enode, by_entry, refused, Turn, Move, play, reached}
use Rattle.model.specs.RunLaws.{size_of, Explains, Files, Unjoined, ElseAccepted, start, FiledForGood, CitationsEarlier, ExplanationsRead, FiledByQuestions, AnswersTurn, AnswersCompose, UnjoinedExactly}
use Rattle.model.proofs.Growth.{Longer, longer_self, longer_trans, MoreUses, more_self, more_trans}
use Rattle.model.proofs.Citations.{cite_earlier}
use Rattle.model.proofs.Passing.{each_map, explains, marks, FiledFor, FilesFor}
use Rattle.model.proofs.Sessions.{InOrder, GoesOn, AnswerSays, call_asked, play_goes_on, reached_in_order, start_in_order}
use Rattle.model.proofs.QuietRuns.{laws_of, check_itself, answered_path}

-- more entries and more use lists
grows : (limit : ℕ) (s : Session) (ms : List Move) → InOrder s →
    Longer s.memory.entries (reached limit s ms).memory.entries × MoreUses s.memory.uses (reached limit s ms).memory.uses
grows limit s [] h = (longer_self s.memory.entries, more_self s.memory.uses)
grows limit s (m ∷ ms) h =
    let one = play_goes_on limit s m h in
    let rest = grows limit (play limit s m).after ms one.in_order in
    (longer_trans one.passes.longer rest.0, more_trans one.passes.uses rest.1)

-- what is filed for a pair explains it, unless it is a mark
explained : (s : Session) (q : Question) (entries : List Entry) (n : ℕ) → InOrder s → FiledFor (links_of s.case) (size_of s) entries q n → is_mark (entry_at entries n).segments ≡ false → Explains s q.pair entries n
explained s q entries n h f plain = elim f.answers.says [
  | explains way is steps _ ↦
      let joins = (laws_of s h).joins q.pair.from q.pair.to f.answers.from_known f.answers.to_known way is in
      record { way = way; is_path = is; steps = steps; count = f.count way is; ends_at = f.ends_at; joins = joins.0; once = joins.2 }
  | marks _ marked ↦ absurd (both_ways _ plain marked)
]

module _ (limit : ℕ) (room : Room) (places : Places) (scratch : Scratch) where
  abbrev upto : List Move → Session
  upto ms = reached limit (start limit room places scratch) ms

  in_order : (ms : List Move) → InOrder (upto ms)
  in_order ms = start_in_order limit room places scratch ms

  goes_on : (ms : List Move) (m : Move) → GoesOn (upto ms) (play limit (upto ms) m)
  goes_on ms m = play_goes_on limit (upto ms) m (in_order ms)

  pub filed_for_good : FiledForGood limit room places scratch
  filed_for_good ms more =
      let g = grows limit (upto ms) more (in_order ms) in
      ((g.0.newer, g.0.is), (g.1.newer, g.1.is))

  pub citations_earlier : CitationsEarlier limit room places scratch
  citations_earlier ms = cite_earlier _ _ (in_order ms).sound.cited

  pub explanations_read : ExplanationsRead limit room places scratch
  explanations_read ms m =
      let s = upto ms in
      let t = play limit s m in
      let entries = t.after.memory.entries in
      each_map (FilesFor (links_of s.case) (size_of s) entries) (Files s entries) (λ q f. record { explains = λ n filed plain. explained s q entries n (in_order ms) (f n filed) plain }) t.questions (goes_on ms m).passes.filed

  pub filed_by_questions : FiledByQuestions limit room places scratch
  filed_by_questions ms m n = (goes_on ms m).passes.by_questions n

  module _ (ms : List Move) (m : Move) (may a b : ℕ) (call : m.call ≡ F.ask may a b) where
    abbrev s : Session
    s = upto ms

    abbrev t : Turn
    t = play limit s m

    abbrev p : Pair
    p = record { from = a; to = b }

    said : AnswerSays s p t.after.memory.entries t.answer
    said = (call_asked limit s m may a b (in_order ms) call).says

    answer_is : (x : Answer) → t.answer ≡ x → AnswerSays s p t.after.memory.entries x
    answer_is x e = subst (AnswerSays s p t.after.memory.entries) e said

    exists : a < size_of s → b < size_of s → is_some (path (links_of s.case) (size_of s) a b) ≡ check_eq (links_of s.case) (size_of s) a b
    exists la lb = (laws_of s (in_order ms)).exists a b la lb

    only_if_unjoined : Unjoined t → check_eq (links_of s.case) (size_of s) a b ≡ false
    only_if_unjoined (inl (r, e, five, level)) =
        let k = answer_is (refused r) e five level in
        sym (exists k.0 k.1) ∙ ap is_some k.2
    only_if_unjoined (inr (n, e, marked)) =
        let k = answer_is (by_entry n) e in
        elim k.says [
          | explains _ _ _ plain ↦ absurd (both_ways _ plain marked)
          | marks none _ ↦ sym (exists k.from_known k.to_known) ∙ ap is_some none
        ]

    if_unjoined : ElseAccepted t → check_eq (links_of s.case) (size_of s) a b ≡ false → Unjoined t
    if_unjoined accepted apart = go t.answer refl
      where
        go : (x : Answer) → t.answer ≡ x → Unjoined t
        go (number n) e = absurd (answer_is (number n) e)
        go (same_enode n) e =
            let k = answer_is (same_enode n) e in
            let joined : check_eq (links_of s.case) (size_of s) a b ≡ true = subst (λ x. check_eq (links_of s.case) (size_of s) a x ≡ true) k.1 (check_itself s a k.0) in
            absurd (both_ways _ apart joined)
        go (by_entry n) e =
            let k = answer_is (by_entry n) e in
            elim k.says [
              | explains way is _ _ ↦
                  let found : is_some (path (links_of s.case) (size_of s) a b) ≡ true = ap is_some is in
                  absurd (both_ways _ apart (sym (exists k.from_known k.to_known) ∙ found))
              | marks _ marked ↦ inr (n, e, marked)
            ]
        go (refused r) e = let k = accepted r e in inl (r, e, k.0, k.1)

  pub unjoined_exactly : UnjoinedExactly limit room places scratch
  unjoined_exactly = record { only_if = only_if_unjoined; if = if_unjoined }

  module _ (ms quiet : List Move) where
    abbrev e : Session
    e = reached limit (upto ms) quiet

    at_end : InOrder e
    at_end = reached_in_order limit (upto ms) quiet (in_order ms)

  pub answers_turn : AnswersTurn limit room places scratch
  answers_turn ms quiet a b ab ba stays no_circle h k =
      let s = upto ms in
      let p = answered_path limit s quiet a b ab (in_order ms) stays h in
      let q = answered_path limit s quiet b a ba (in_order ms) stays k in
      let law = (laws_of (e ms quiet) (at_end ms quiet)).turns a b p.from_known p.to_known p.way no_circle p.is in
      let same : q.way ≡ law.0 = cc (q.is, law.1) in
      q.steps ∙ ap (λ (w : Path). w.steps) same ∙ law.2 ∙ ap turned (sym p.steps)

  pub answers_compose : AnswersCompose limit room places scratch
  answers_compose ms quiet a b c ab bc ac stays no_circle h k j zs strikes bare =
      let s = upto ms in
      let p = answered_path limit s quiet a b ab (in_order ms) stays h in
      let q = answered_path limit s quiet b c bc (in_order ms) stays k in
      let r = answered_path limit s quiet a c ac (in_order ms) stays j in
      let law = (laws_of (e ms quiet) (at_end ms quiet)).compose a b c p.from_known p.to_known r.to_known p.way q.way no_circle p.is q.is in
      let same : law.0 ≡ r.way = cc (r.is, law.1) in
      let all : Strikes (p.way.steps ++ q.way.steps) zs = subst (λ xs. Strikes xs zs) (λ i. p.steps i ++ q.steps i) strikes in
      law.3 zs all bare ∙ ap (λ (w : Path). w.steps) same ∙ sym r.steps

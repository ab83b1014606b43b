-- What users may rely on over whole runs of calls, under every frame rule. Assumes nothing.
use Rattle.std.specs.Prelude.{◌≡◌, ℕ, ◌+◌, ◌<◌, ◌≤◌, true, false, ◌⊎◌, List, [], ◌∷◌, ◌++◌, length, Some, None, Option, ◌≢◌, slice_index, slice_index_or}
use Rattle.model.specs.declared.items.Pair.{Pair}
use Rattle.model.specs.declared.items.Step.{Step}
use Rattle.model.specs.Records.{turned}
use Rattle.model.specs.Refusals.{Refusal}
use Rattle.model.specs.Walks.{met, Distinct, root_walk, check_eq, NoCircle}
use Rattle.model.specs.Paths.{Path, path}
use Rattle.model.specs.PathLaws.{Joins, Strikes, Bare}
use Rattle.model.specs.Memory.{Segment, step, entry, mark, Entry, Use, Memory, stands, uses_of, entry_at, is_mark}
use Rattle.model.specs.Reading.{reads}
use Rattle.model.specs.Chains.{Edge, kept}
use Rattle.model.specs.Acts.{Question}
use Rattle.model.specs.Format as F
use Rattle.model.specs.Logging.{Room}
use Rattle.model.specs.Questions.{Places}
use Rattle.model.specs.Runs.{Scratch, Session, empty_session, links_of, same_enode, by_entry, refused, Turn, Move, play, reached}

-- what holds of each question that was put
abbrev pub Each : (Question → Type 0) → List Question → Type 0
Each P [] = Unit {0}
Each P (q ∷ qs) = P q × Each P qs

-- how many enodes are on the books
abbrev pub size_of : Session → ℕ
size_of s = length s.case.records.enodes

abbrev pub path_in : Session → Pair → Option Path
path_in s p = path (links_of s.case) (size_of s) p.from p.to

-- the citations of a segment, in itself and in its use list
abbrev pub CitesBelow : List Use → ℕ → Segment → Type 0
CitesBelow uses n (step s None) = Unit {0}
CitesBelow uses n (step s (Some u)) = (k : ℕ) → met k (slice_index_or (uses_of s.given uses) u []) ≡ true → k < n
CitesBelow uses n (entry k straight) = k < n
CitesBelow uses n (mark e) = Unit {0}

abbrev pub AllCiteBelow : List Use → ℕ → List Segment → Type 0
AllCiteBelow uses n [] = Unit {0}
AllCiteBelow uses n (s ∷ ss) = CitesBelow uses n s × AllCiteBelow uses n ss

-- no entry cites itself or a later one
abbrev pub CiteEarlier : List Use → List Entry → Type 0
CiteEarlier uses [] = Unit {0}
CiteEarlier uses (e ∷ earlier) = AllCiteBelow uses (length earlier) e.segments × CiteEarlier uses earlier

-- entry n explains the pair by its path in that session: its steps are the path's, join the pair and meet no enode twice
pub record Explains (s : Session) (p : Pair) (entries : List Entry) (n : ℕ) : Type 0 where
  pub way : Path
  pub is_path : path_in s p ≡ Some way
  pub steps : reads entries n ≡ way.steps
  pub count : (entry_at entries n).count ≡ length way.steps
  pub ends_at : (entry_at entries n).last ≡ p.to
  pub joins : Joins s.case.records.givens way.steps p.from p.to
  pub once : Distinct way.enodes

-- an explanation that a question filed is one of its own pair
pub record Files (s : Session) (entries : List Entry) (q : Question) : Type 0 where
  pub explains : (n : ℕ) → q.filed ≡ Some n → is_mark (entry_at entries n).segments ≡ false → Explains s q.pair entries n

-- chains open to a question when it was put, from place i of its path to the last: always to a higher place, over the path's steps and those entries standing then which a look would keep
pub data OpenChain (m : Memory) (way : Path) : ℕ → List Segment → Type 0 where
  ends : {i : ℕ} → i ≡ length way.steps → OpenChain m way i []
  by_step : {i : ℕ} {ss : List Segment} (s : Step) → i < length way.steps → slice_index_or way.steps i s ≡ s → OpenChain m way (i + 1) ss → OpenChain m way i (step s None ∷ ss)
  by_standing : {i : ℕ} {ss : List Segment} (a b n : ℕ) (d : Edge) → a ≤ length way.steps → b ≤ length way.steps →
      stands m.standing (slice_index way.enodes a) (slice_index way.enodes b) ≡ Some n → kept (reads m.entries) way.steps a b n ≡ Some d → d.from ≡ i →
      OpenChain m way d.to ss → OpenChain m way i (d.segment ∷ ss)

-- a question that files an explanation files one with as few segments as any chain open to it when it was put
pub record FilesShortest (s : Session) (entries : List Entry) (q : Question) : Type 0 where
  pub shortest : (n : ℕ) (way : Path) (ss : List Segment) → q.filed ≡ Some n → is_mark (entry_at entries n).segments ≡ false → path_in s q.pair ≡ Some way → OpenChain q.before way 0 ss → length (entry_at entries n).segments ≤ length ss

-- the steps that an answer reads as: none for equal enodes; a mark reads as nothing at all
abbrev pub ReadsAs : Turn → List Step → Type 0
ReadsAs t ss =
    ((e : ℕ) × (t.answer ≡ same_enode e) × (ss ≡ []))
    ⊎ ((n : ℕ) × (t.answer ≡ by_entry n) × (is_mark (entry_at t.after.memory.entries n).segments ≡ false) × (ss ≡ reads t.after.memory.entries n))

-- somewhere in these moves the pair (a, b) is asked for, and answered by an explanation that reads as ss
pub data Answered (limit : ℕ) (a b : ℕ) (ss : List Step) : Session → List Move → Type 0 where
  here : {s : Session} {m : Move} {ms : List Move} (may : ℕ) → m.call ≡ F.ask may a b → ReadsAs (play limit s m) ss → Answered limit a b ss s (m ∷ ms)
  later : {s : Session} {m : Move} {ms : List Move} → Answered limit a b ss (play limit s m).after ms → Answered limit a b ss s (m ∷ ms)

-- no given is accepted and no frame moved
abbrev pub Quiet : ℕ → Session → List Move → Type 0
Quiet limit s [] = Unit {0}
Quiet limit s (m ∷ ms) =
    ((play limit s m).after.case.records.givens ≡ s.case.records.givens)
    × ((play limit s m).after.case.frames ≡ s.case.frames)
    × Quiet limit (play limit s m).after ms

-- the question is refused for want of a path, or its answer is a mark
abbrev pub Unjoined : Turn → Type 0
Unjoined t =
    ((r : Refusal) × (t.answer ≡ refused r) × (r.number ≡ 5) × (r.level ≡ 0))
    ⊎ ((n : ℕ) × (t.answer ≡ by_entry n) × (is_mark (entry_at t.after.memory.entries n).segments ≡ true))

-- nothing refuses the question but the want of a path
abbrev pub ElseAccepted : Turn → Type 0
ElseAccepted t = (r : Refusal) → t.answer ≡ refused r → (r.number ≡ 5) × (r.level ≡ 0)

-- whatever the rule's limit, and however many places the tables and the scratch have
abbrev pub InEveryCase : (ℕ → Room → Places → Scratch → Type 0) → Type 0
InEveryCase P = (limit : ℕ) (room : Room) (places : Places) (scratch : Scratch) → P limit room places scratch

module _ (limit : ℕ) (room : Room) (places : Places) (scratch : Scratch) where
  abbrev pub start : Session
  start = empty_session room places scratch

  -- no entry and no use list changes after it is filed
  abbrev pub FiledForGood : Type 0
  FiledForGood =
      (ms more : List Move) →
      let m = (reached limit start ms).memory in
      let later = (reached limit (reached limit start ms) more).memory in
      ((newer : List Entry) × (later.entries ≡ newer ++ m.entries)) × ((newer : List Use) × (later.uses ≡ m.uses ++ newer))

  abbrev pub CitationsEarlier : Type 0
  CitationsEarlier = (ms : List Move) → let m = (reached limit start ms).memory in CiteEarlier m.uses m.entries

  -- every explanation reads as the path of its own question's pair, as it was when it was filed
  abbrev pub ExplanationsRead : Type 0
  ExplanationsRead =
      (ms : List Move) (m : Move) →
      let s = reached limit start ms in
      let t = play limit s m in
      Each (Files s t.after.memory.entries) t.questions

  -- and is filed by a question that was put: none comes otherwise
  abbrev pub FiledByQuestions : Type 0
  FiledByQuestions =
      (ms : List Move) (m : Move) (n : ℕ) →
      let s = reached limit start ms in
      let t = play limit s m in
      length s.memory.entries ≤ n → n < length t.after.memory.entries → Each (λ q. q.filed ≢ Some n) t.questions → ⊥

  abbrev pub ShortestFiled : Type 0
  ShortestFiled =
      (ms : List Move) (m : Move) →
      let s = reached limit start ms in
      let t = play limit s m in
      Each (FilesShortest s t.after.memory.entries) t.questions

  -- answers compose, and turn with their pair
  abbrev pub AnswersCompose : Type 0
  AnswersCompose =
      (ms quiet : List Move) (a b c : ℕ) (ab bc ac : List Step) →
      let s = reached limit start ms in
      let e = reached limit s quiet in
      Quiet limit s quiet → NoCircle a (root_walk (links_of e.case) (size_of e) None a) →
      Answered limit a b ab s quiet → Answered limit b c bc s quiet → Answered limit a c ac s quiet →
      (zs : List Step) → Strikes (ab ++ bc) zs → Bare zs → zs ≡ ac

  abbrev pub AnswersTurn : Type 0
  AnswersTurn =
      (ms quiet : List Move) (a b : ℕ) (ab ba : List Step) →
      let s = reached limit start ms in
      let e = reached limit s quiet in
      Quiet limit s quiet → NoCircle a (root_walk (links_of e.case) (size_of e) None a) →
      Answered limit a b ab s quiet → Answered limit b a ba s quiet → ba ≡ turned ab

  -- a question that nothing else refuses is refused by 5 or marked exactly when the walks share no enode
  pub record UnjoinedExactly : Type 0 where
    pub only_if : (ms : List Move) (m : Move) (may a b : ℕ) →
        let s = reached limit start ms in
        m.call ≡ F.ask may a b → Unjoined (play limit s m) → check_eq (links_of s.case) (size_of s) a b ≡ false
    pub if : (ms : List Move) (m : Move) (may a b : ℕ) →
        let s = reached limit start ms in
        m.call ≡ F.ask may a b → ElseAccepted (play limit s m) → check_eq (links_of s.case) (size_of s) a b ≡ false → Unjoined (play limit s m)

-- Answers within a quiet stretch of a run are paths of the session at its end. Assumes nothing.
use Rattle.std.proofs.Common.{◌≡◌, ℕ, suc, length, ◌<◌, ◌≤◌, true, eqb, List, [], ◌∷◌, is_some, Some, None, Option, sym, refl, ap, ◌∙◌, subst, inl, inr, arith}
use Rattle.std.proofs.lemmas.List.{nil_from_length}
use Rattle.std.proofs.lemmas.Bool.{both_ways}
use Rattle.model.specs.declared.items.Pair.{Pair}
use Rattle.model.specs.declared.items.Step.{Step}
use Rattle.model.specs.Records.{Given}
use Rattle.model.specs.Walks.{Links, links, Distinct, root_walk, last, check_eq}
use Rattle.model.specs.Paths.{Path, path, join, some_if}
use Rattle.model.specs.PathLaws.{Joins, meets, WalkLaws}
use Rattle.model.specs.Memory.{Entry}
use Rattle.model.specs.Format as F
use Rattle.model.specs.Runs.{Session, links_of, Move, play, reached}
use Rattle.model.specs.RunLaws.{size_of, ReadsAs, Answered, here, later, Quiet}
use Rattle.model.proofs.Members.{shares_from, distinct_at}
use Rattle.model.proofs.Links.{link_within}
use Rattle.model.proofs.Walks.{Within, walk_has_first}
use Rattle.model.proofs.Rooms.{room_start, walk_same_room}
use Rattle.model.proofs.Paths.{first_walk}
use Rattle.model.proofs.PathPlaces.{meets_count, meets_first, meets_last}
use Rattle.model.proofs.PathLaws.{walks_lawful}
use Rattle.model.proofs.Passing.{explains, marks}
use Rattle.model.proofs.Sessions.{InOrder, AnswerSays, Asked, call_asked, play_goes_on}

-- more enodes change no path
path_more : (next : Links) (m n : ℕ) → Within next m → m ≤ n → (a b : ℕ) → a < m → b < m → path next n a b ≡ path next m a b
path_more next m n within le a b la lb =
    let same : (root : Option ℕ) (e : ℕ) → e < m → (root_walk next n root e).enodes ≡ (root_walk next m root e).enodes = λ root e lt. ap (λ w. w.enodes) (walk_same_room next root m within n m [] e (room_start m n le) (room_start m m (omega arith)) lt) in
    let end : List ℕ → List ℕ → Option Path = λ f t. some_if (eqb (last a f) (last b t)) (join next f t) in
    ap (end (first_walk next n a)) (same (Some (last a (first_walk next n a))) b lb)
    ∙ ap (λ f. end f (root_walk next m (Some (last a f)) b).enodes) (same None a la)

-- steps that come back to where they set out meet it twice
joins_itself : (gs : List Given) (ss : List Step) (x : ℕ) → Joins gs ss x x → Distinct (meets gs x ss) → ss ≡ []
joins_itself gs ss x j d =
    let all : length (meets gs x ss) ≡ suc (length ss) = meets_count gs x ss in
    nil_from_length ss (sym (distinct_at (meets gs x ss) d 0 (length ss) (omega arith) (omega arith) (meets_first gs x ss ∙ sym (meets_last gs ss x x j))))

there_is : {A : Type 0} (o : Option A) → is_some o ≡ true → (a : A) × (o ≡ Some a)
there_is (Some a) h = (a, refl)
there_is None h = absurd (cc)

pub laws_of : (s : Session) → InOrder s → WalkLaws s.case.frames.counts s.case.records.givens (size_of s)
laws_of s h = walks_lawful s.case.frames.counts s.case.records.givens (size_of s) h.ends

pub check_itself : (s : Session) (a : ℕ) → a < size_of s → check_eq (links_of s.case) (size_of s) a a ≡ true
check_itself s a la =
    let w = first_walk (links_of s.case) (size_of s) a in
    let first = walk_has_first (links_of s.case) None (size_of s) a la in
    shares_from a w w first first

-- the pair's path has these steps
pub record PathIs (s : Session) (a b : ℕ) (ss : List Step) : Type 0 where
  pub from_known : a < size_of s
  pub to_known : b < size_of s
  pub way : Path
  pub is : path (links_of s.case) (size_of s) a b ≡ Some way
  pub steps : ss ≡ way.steps

-- an enode's path to itself has no steps
path_itself : (s : Session) → InOrder s → (a : ℕ) → a < size_of s → PathIs s a a []
path_itself s h a la =
    let laws = laws_of s h in
    let found = there_is (path (links_of s.case) (size_of s) a a) (laws.exists a a la la ∙ check_itself s a la) in
    let joins = laws.joins a a la la found.0 found.1 in
    record {
      from_known = la;
      to_known = la;
      way = found.0;
      is = found.1;
      steps = sym (joins_itself s.case.records.givens found.0.steps a joins.0 (subst Distinct (sym joins.1) joins.2));
    }

module _ (limit : ℕ) where
  -- what an answer reads as is the path
  answer_path : (s : Session) (m : Move) (may a b : ℕ) (ss : List Step) → InOrder s → m.call ≡ F.ask may a b → ReadsAs (play limit s m) ss → PathIs s a b ss
  answer_path s m may a b ss h call reads_as = go reads_as
    where
      p : Pair
      p = record { from = a; to = b }

      said : Asked s p (play limit s m)
      said = call_asked limit s m may a b h call

      entries : List Entry
      entries = (play limit s m).after.memory.entries

      go : ReadsAs (play limit s m) ss → PathIs s a b ss
      go (inl (e, answer, none)) =
          let k = subst (AnswerSays s p entries) answer said.says in
          subst (PathIs s a b) (sym none) (subst (λ x. PathIs s a x []) k.1 (path_itself s h a k.0))
      go (inr (n, answer, plain, read)) =
          let k = subst (AnswerSays s p entries) answer said.says in
          elim k.says [
            | explains way is steps _ ↦ record { from_known = k.from_known; to_known = k.to_known; way = way; is = is; steps = read ∙ steps }
            | marks _ marked ↦ absurd (both_ways _ plain marked)
          ]

  -- and stays so while no given is accepted and no frame moved
  path_stays : (s : Session) (m : Move) (a b : ℕ) (ss : List Step) → InOrder s → (play limit s m).after.case.records.givens ≡ s.case.records.givens → (play limit s m).after.case.frames ≡ s.case.frames →
      PathIs s a b ss → PathIs (play limit s m).after a b ss
  path_stays s m a b ss h givens same_frames p =
      let t = (play limit s m).after in
      let more = (play_goes_on limit s m h).no_fewer in
      let within : Within (links_of s.case) (size_of s) = λ e l q. link_within s.case.frames.counts s.case.records.givens e l q (size_of s) h.ends in
      record {
        from_known = omega (arith, more, p.from_known);
        to_known = omega (arith, more, p.to_known);
        way = p.way;
        is =
            (λ i. path (links (same_frames i).counts (givens i)) (size_of t) a b)
            ∙ path_more (links_of s.case) (size_of s) (size_of t) within more a b p.from_known p.to_known
            ∙ p.is;
        steps = p.steps;
      }

  path_stays_on : (s : Session) (ms : List Move) (a b : ℕ) (ss : List Step) → InOrder s → Quiet limit s ms → PathIs s a b ss → PathIs (reached limit s ms) a b ss
  path_stays_on s [] a b ss h quiet p = p
  path_stays_on s (m ∷ ms) a b ss h quiet p =
      path_stays_on (play limit s m).after ms a b ss (play_goes_on limit s m h).in_order quiet.2 (path_stays s m a b ss h quiet.0 quiet.1 p)

  pub answered_path : (s : Session) (ms : List Move) (a b : ℕ) (ss : List Step) → InOrder s → Quiet limit s ms → Answered limit a b ss s ms → PathIs (reached limit s ms) a b ss
  answered_path s [] a b ss h quiet none = elim none [ ]
  answered_path s (m ∷ ms) a b ss h quiet (here may call reads_as) = path_stays_on s (m ∷ ms) a b ss h quiet (answer_path s m may a b ss h call reads_as)
  answered_path s (m ∷ ms) a b ss h quiet (later rest) = answered_path (play limit s m).after ms a b ss (play_goes_on limit s m h).in_order quiet.2 rest

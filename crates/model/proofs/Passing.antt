-- From one memory to a later one: what acts keep, and how acts one after another keep it. Assumes nothing.
use Rattle.std.proofs.Common.{◌≡◌, ℕ, ◌<◌, ◌≤◌, Bool, true, false, List, [], ◌∷◌, ◌++◌, length, Some, None, Option, sym, refl, ap, ◌∙◌, subst, inl, inr, append_assoc, append-nil, arith}
use Rattle.std.proofs.lemmas.Bool.{cases_lt}
use Rattle.std.specs.List.{AllByRecursion as All}
use Rattle.model.specs.declared.items.Pair.{Pair}
use Rattle.model.specs.Refusals.{Refusal}
use Rattle.model.specs.Walks.{Links}
use Rattle.model.specs.Paths.{Path, path}
use Rattle.model.specs.Memory.{Segment, Entry, Memory, without, entry_at, is_mark}
use Rattle.model.specs.Reading.{reads, segments_steps}
use Rattle.model.specs.Acts.{Question, Act, Done, done, stop, after, and_then, ◌>>=◌, ◌>>◌, pure, refuse_with, need, memory, drop_pair, put_entry, put_use, acts}
use Rattle.model.specs.RunLaws.{Each, OpenChain}
use Rattle.model.proofs.Members.{Below}
use Rattle.model.proofs.Growth.{Longer, longer_self, longer_one, longer_trans, longer_length, longer_reads, longer_entry, MoreUses, more_self, more_trans}
use Rattle.model.proofs.Citations.{Cited, UseBelow, use_new}
use Rattle.model.proofs.Remembering.{Sound, with_entry, sound_dropped, sound_used, sound_filed}

module _ (P : Question → Type 0) where
  pub each_append : (qs rs : List Question) → Each P qs → Each P rs → Each P (qs ++ rs)
  each_append [] rs h k = k
  each_append (q ∷ qs) rs h k = (h.0, each_append qs rs h.1 k)

  pub each_parts : (qs rs : List Question) → Each P (qs ++ rs) → Each P qs × Each P rs
  each_parts [] rs h = (tt, h)
  each_parts (q ∷ qs) rs h = let more = each_parts qs rs h.1 in ((h.0, more.0), more.1)

pub each_map : (P Q : Question → Type 0) → ((q : Question) → P q → Q q) → (qs : List Question) → Each P qs → Each Q qs
each_map P Q f [] h = tt
each_map P Q f (q ∷ qs) h = (f q h.0, each_map P Q f qs h.1)

-- an act that has told its questions
abbrev pub none_pending : {A : Type 0} → A → List Question
none_pending a = []

module _ (next : Links) (size : ℕ) where
  abbrev pub way_of : Pair → Option Path
  way_of p = path next size p.from p.to

  -- what entry n says of the pair: its path, or that there is none
  pub data SaysOf (entries : List Entry) (p : Pair) (n : ℕ) : Type 0 where
    explains : (way : Path) → way_of p ≡ Some way → reads entries n ≡ way.steps → is_mark (entry_at entries n).segments ≡ false → SaysOf entries p n
    marks : way_of p ≡ None → is_mark (entry_at entries n).segments ≡ true → SaysOf entries p n

  pub record AnswersBy (entries : List Entry) (p : Pair) (n : ℕ) : Type 0 where
    pub from_known : p.from < size
    pub to_known : p.to < size
    pub on_file : n < length entries
    pub says : SaysOf entries p n

  -- what a question filed answers its pair, and has no more segments than any chain open to the question
  pub record FiledFor (entries : List Entry) (q : Question) (n : ℕ) : Type 0 where
    pub answers : AnswersBy entries q.pair n
    pub count : (way : Path) → way_of q.pair ≡ Some way → (entry_at entries n).count ≡ length way.steps
    pub ends_at : (entry_at entries n).last ≡ q.pair.to
    pub least : (way : Path) (cs : List Segment) → way_of q.pair ≡ Some way → OpenChain q.before way 0 cs → length (entry_at entries n).segments ≤ length cs

  -- what a question filed is for its pair
  abbrev pub FilesFor : List Entry → Question → Type 0
  FilesFor entries q = (n : ℕ) → q.filed ≡ Some n → FiledFor entries q n

  -- the questions lead from memory m to memory n, which is in order
  pub record Passes (m : Memory) (qs : List Question) (n : Memory) : Type 0 where
    pub longer : Longer m.entries n.entries
    pub uses : MoreUses m.uses n.uses
    pub sound : Sound n
    pub filed : Each (FilesFor n.entries) qs
    pub by_questions : (k : ℕ) → length m.entries ≤ k → k < length n.entries → Each (λ q. q.filed ≡ Some k → ⊥) qs → ⊥

  -- what an act comes to: the questions told, with those that its answer has yet to tell, lead on, and its answer or refusal is as it should be
  abbrev pub ComesTo : {A : Type 0} → (A → List Question) → (A → Memory → Type 0) → (Refusal → Type 0) → Memory → Done A → Type 0
  ComesTo pending Q S m (done a n qs) = Passes m (qs ++ pending a) n × Q a n
  ComesTo pending Q S m (stop r n qs) = Passes m qs n × S r

  -- a record, so that antt reads the act off the type
  pub record Does {A : Type 0} (pending : A → List Question) (Q : A → Memory → Type 0) (S : Refusal → Type 0) (act : Act A) (m : Memory) : Type 0 where
    pub holds : ComesTo pending Q S m (act m)

module _ {next : Links} {size : ℕ} where
  says_later : {es more : List Entry} → Longer es more → (p : Pair) (n : ℕ) → n < length es → SaysOf next size es p n → SaysOf next size more p n
  says_later l p n lt (explains way q r k) = explains way q (longer_reads l n lt ∙ r) (ap (λ (e : Entry). is_mark e.segments) (longer_entry l n lt) ∙ k)
  says_later l p n lt (marks q k) = marks q (ap (λ (e : Entry). is_mark e.segments) (longer_entry l n lt) ∙ k)

  filed_later : {es more : List Entry} → Longer es more → (q : Question) (n : ℕ) → FiledFor next size es q n → FiledFor next size more q n
  filed_later l q n h =
      let lt = h.answers.on_file in
      record {
        answers = record {
          from_known = h.answers.from_known;
          to_known = h.answers.to_known;
          on_file = omega (arith, lt, longer_length l);
          says = says_later l q.pair n lt h.answers.says;
        };
        count = λ way is. ap (λ (e : Entry). e.count) (longer_entry l n lt) ∙ h.count way is;
        ends_at = ap (λ (e : Entry). e.last) (longer_entry l n lt) ∙ h.ends_at;
        least = λ way cs is c. rw (longer_entry l n lt) (h.least way cs is c);
      }

  -- where no entry is filed
  passes_same : {m n : Memory} → n.entries ≡ m.entries → MoreUses m.uses n.uses → Sound n → Passes next size m [] n
  passes_same {m} {n} same uses s = record { longer = record { newer = []; is = same }; uses = uses; sound = s; filed = tt; by_questions = λ k low high _. omega (arith, ap length same) }

  pub passes_self : {m : Memory} → Sound m → Passes next size m [] m
  passes_self {m} s = passes_same refl (more_self m.uses) s

  pub passes_trans : {m n o : Memory} {qs rs : List Question} → Passes next size m qs n → Passes next size n rs o → Passes next size m (qs ++ rs) o
  passes_trans {m} {n} {o} {qs} {rs} h k = record {
    longer = longer_trans h.longer k.longer;
    uses = more_trans h.uses k.uses;
    sound = k.sound;
    filed = each_append (FilesFor next size o.entries) qs rs (each_map (FilesFor next size n.entries) (FilesFor next size o.entries) (λ q f i e. filed_later k.longer q i (f i e)) qs h.filed) k.filed;
    by_questions = λ i low high e. elim (cases_lt i (length n.entries)) [
      | inl lt ↦ h.by_questions i low lt (each_parts (λ q. q.filed ≡ Some i → ⊥) qs rs e).0
      | inr ge ↦ k.by_questions i ge high (each_parts (λ q. q.filed ≡ Some i → ⊥) qs rs e).1
    ];
  }

  -- a question that files nothing
  pub passes_told : {m : Memory} (q : Question) → q.filed ≡ None → Sound m → Passes next size m (q ∷ []) m
  passes_told {m} q none s = record {
    longer = longer_self m.entries;
    uses = more_self m.uses;
    sound = s;
    filed = ((λ n h. absurd (cc)), tt);
    by_questions = λ k low high _. omega arith;
  }

  comes_after : {A : Type 0} (pending : A → List Question) (Q : A → Memory → Type 0) (S : Refusal → Type 0) {m n : Memory} {qs : List Question} → Passes next size m qs n → (d : Done A) → ComesTo next size pending Q S n d → ComesTo next size pending Q S m (after qs d)
  unfolding acts
  comes_after {A} pending Q S {m} {n} {qs} h (done a o rs) k = (subst (λ ts. Passes next size m ts o) (sym (append_assoc qs rs (pending a))) (passes_trans h k.0), k.1)
  comes_after {A} pending Q S {m} {n} {qs} h (stop r o rs) k = (passes_trans h k.0, k.1)

  comes_then : {A B : Type 0} (pending : B → List Question) (Q : A → Memory → Type 0) (R : B → Memory → Type 0) (S : Refusal → Type 0) {m : Memory} (d : Done A) (f : A → Act B) → ComesTo next size none_pending Q S m d → ((a : A) (n : Memory) (qs : List Question) → Passes next size m qs n → Q a n → Does next size pending R S (f a) n) → ComesTo next size pending R S m (and_then d f)
  unfolding acts
  comes_then pending Q R S {m} (done a n qs) f h k =
      let p : Passes next size m qs n = subst (λ ts. Passes next size m ts n) (append-nil qs) h.0 in
      comes_after pending R S p (f a n) (k a n qs p h.1).holds
  comes_then pending Q R S {m} (stop r n qs) f h k = h

  module _ {A B : Type 0} {pending : B → List Question} {Q : A → Memory → Type 0} {R : B → Memory → Type 0} {S : Refusal → Type 0} where
    pub does_bind : {m : Memory} {act : Act A} {f : A → Act B} → Does next size none_pending Q S act m → ((a : A) (n : Memory) (qs : List Question) → Passes next size m qs n → Q a n → Does next size pending R S (f a) n) → Does next size pending R S (act >>= f) m
    unfolding acts
    does_bind {m} {act} {f} h k = record { holds = comes_then pending Q R S (act m) f h.holds k }

    pub does_then : {m : Memory} {act : Act A} {g : Act B} → Does next size none_pending Q S act m → ((a : A) (n : Memory) (qs : List Question) → Passes next size m qs n → Q a n → Does next size pending R S g n) → Does next size pending R S (act >> g) m
    unfolding acts
    does_then {m} {act} {g} h k = record { holds = comes_then pending Q R S (act m) (λ a. g) h.holds k }

  module _ {A : Type 0} {pending : A → List Question} {Q : A → Memory → Type 0} {S : Refusal → Type 0} where
    pub does_pure : {m : Memory} (a : A) → Passes next size m (pending a) m → Q a m → Does next size pending Q S (pure a) m
    unfolding acts
    does_pure a p q = record { holds = (p, q) }

    pub does_refuse : {m : Memory} (r : Refusal) → Sound m → S r → Does next size pending Q S (refuse_with r) m
    unfolding acts
    does_refuse r s h = record { holds = (passes_self s, h) }

    -- what is done with the memory at hand
    pub does_read : {m : Memory} (f : Memory → Act A) → Does next size pending Q S (f m) m → Does next size pending Q S (memory >>= f) m
    unfolding acts
    does_read {m} f h = record { holds = go (f m m) h.holds }
      where
        go : (d : Done A) → ComesTo next size pending Q S m d → ComesTo next size pending Q S m (after [] d)
        go (done a n qs) k = k
        go (stop r n qs) k = k

    pub does_need : {m : Memory} (b : Bool) (r : Refusal) {g : Act A} → Sound m → S r → (b ≡ true → Does next size pending Q S g m) → Does next size pending Q S (need b r >> g) m
    unfolding acts
    does_need {m} true r {g} s h k = record { holds = comes_after pending Q S (passes_self s) (g m) (k refl).holds }
    does_need {m} false r {g} s h k = record { holds = (passes_self s, h) }

  -- the three writes
  pub does_drop : {S : Refusal → Type 0} {m : Memory} (a b : ℕ) → Sound m → Does next size none_pending (λ _ n. (n.entries ≡ m.entries) × (n.standing ≡ without m.standing a b)) S (drop_pair a b) m
  unfolding acts
  does_drop {S} {m} a b s = record { holds = (passes_same refl (more_self m.uses) (sound_dropped m a b s), (refl, refl)) }

  pub does_use : {S : Refusal → Type 0} {m : Memory} (g : ℕ) (u : List ℕ) → Sound m → Below (length m.entries) u → Does next size none_pending (λ k n. UseBelow n.uses (length n.entries) g k) S (put_use g u) m
  unfolding acts
  does_use {S} {m} g u s below =
      let more : MoreUses m.uses (m.uses ++ (record { given = g; members = u } ∷ [])) = record { newer = record { given = g; members = u } ∷ []; is = refl } in
      record { holds = (passes_same refl more (sound_used m _ more s), use_new m.uses (length m.entries) g u below) }

  -- a question that files one entry
  pub passes_filed : {m : Memory} (e : Entry) (q : Question) → q.filed ≡ Some (length m.entries) → Sound m →
      All (Cited m.uses (length m.entries)) e.segments → (is_mark e.segments ≡ true → segments_steps (reads m.entries) e.segments ≡ []) →
      FiledFor next size (e ∷ m.entries) q (length m.entries) → Passes next size m (q ∷ []) (with_entry q.pair e m)
  passes_filed {m} e q is s cites bare f = record {
    longer = longer_one e m.entries;
    uses = more_self m.uses;
    sound = sound_filed m q.pair e cites bare s;
    filed = ((λ n h. let same : length m.entries ≡ n = cc in subst (FiledFor next size (e ∷ m.entries) q) same f), tt);
    by_questions = λ k low high none. let same : length m.entries ≡ k = omega arith in none.0 (is ∙ ap Some same);
  }

  pub does_put : {A : Type 0} {pending : A → List Question} {Q : A → Memory → Type 0} {S : Refusal → Type 0} {m : Memory} (p : Pair) (e : Entry) (f : ℕ → A) →
      Passes next size m (pending (f (length m.entries))) (with_entry p e m) → Q (f (length m.entries)) (with_entry p e m) → Does next size pending Q S (put_entry p e >>= (λ n. pure (f n))) m
  unfolding acts
  does_put p e f h q = record { holds = (h, q) }

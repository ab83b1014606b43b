-- What looks do: the edges that they keep read as stretches of the path, and none that would be kept is missed. Assumes nothing.
use Rattle.std.proofs.Common.{◌≡◌, ℕ, zero, suc, ◌+◌, ◌<◌, ◌≤◌, Bool, true, false, ◌&&◌, eqb, ◌⊎◌, List, [], ◌∷◌, length, get_or, drop, Some, None, Option, sym, refl, ap, ◌∙◌, subst, inl, inr, arith, length-drop}
use mathlib.Core.List.{Memᴰ}
use Rattle.std.proofs.lemmas.Bool.{cases_Bool, cases_eq, and_parts, eqb-true}
use Rattle.std.proofs.lemmas.Bool.Decides.{nat_tests}
use Rattle.std.specs.List.{AllByRecursion as All}
use Rattle.model.specs.declared.items.Pair.{Pair}
use Rattle.model.specs.Records.{Records}
use Rattle.model.specs.Refusals.{Refusal}
use Rattle.model.specs.Walks.{Links}
use Rattle.model.specs.Paths.{Path}
use Rattle.model.specs.Memory.{Entry, Standing, Memory, stands, without}
use Rattle.model.specs.Reading.{reads}
use Rattle.model.specs.Chains.{Edge, kept, spans}
use Rattle.model.specs.Acts.{Act}
use Rattle.model.specs.Questions as Q
use Rattle.model.specs.Questions.{Places, Found}
use Rattle.model.proofs.Members.{distinct_at}
use Rattle.model.proofs.PathPlaces.{drop_here, Laid}
use Rattle.model.proofs.ChainSteps.{Good, kept_good}
use Rattle.model.proofs.Fewest.{kept_rises, Keepable}
use Rattle.model.proofs.Remembering.{Sound}
use Rattle.model.proofs.Passing.{passes_self, Does, none_pending, does_bind, does_then, does_pure, does_read, does_drop}

-- dropping one pair leaves what stands for another
without_other : (ss : List Standing) (a b x y : ℕ) → (eqb a x && eqb b y) ≡ false → stands (without ss a b) x y ≡ stands ss x y
without_other [] a b x y ne = refl
without_other (s ∷ ss) a b x y ne = grind (arith, nat_tests, without_other ss a b x y ne)

none_spans : (o : Option ℕ) → ((n : ℕ) → o ≡ Some n → ⊥) → o ≡ None
none_spans None h = refl
none_spans (Some n) h = absurd (h n refl)

-- looks at a path's places, which begin at the memory `before`
module _ (before : Memory) {p : Pair} {way : Path} (laid : Laid p way) where
  abbrev at : ℕ → ℕ
  at i = get_or way.enodes i 0

  abbrev end : ℕ
  end = length way.steps

  abbrev held : ℕ → ℕ → ℕ → Option Edge
  held i j n = kept (reads before.entries) way.steps i j n

  -- while the looks go on: `seen` tells from which places to which was looked
  pub record Looking (seen : ℕ → ℕ → Type 0) (f : Found) (m : Memory) : Type 0 where
    pub entries : m.entries ≡ before.entries
    pub standing : (a b n : ℕ) (d : Edge) → Keepable before way a b n d → stands m.standing (at a) (at b) ≡ Some n
    pub edges : All (Good before.entries way.steps) f.edges
    pub found : (a b n : ℕ) (d : Edge) → seen a b → Keepable before way a b n d → Memᴰ d f.edges
    pub none : f.spanning ≡ None

  -- after a look, which stops at an entry that spans the path
  pub record Looked (seen : ℕ → ℕ → Type 0) (W : ℕ → Type 0) (f : Found) (m : Memory) : Type 0 where
    pub entries : m.entries ≡ before.entries
    pub spanning : (n : ℕ) → f.spanning ≡ Some n → W n
    pub goes_on : f.spanning ≡ None → Looking seen f m

  pub looking_as : {seen more : ℕ → ℕ → Type 0} {f : Found} {m : Memory} → ((a b n : ℕ) (d : Edge) → more a b → Keepable before way a b n d → seen a b) → Looking seen f m → Looking more f m
  looking_as g h = record { entries = h.entries; standing = h.standing; edges = h.edges; found = λ a b n d r ke. h.found a b n d (g a b n d r ke) ke; none = h.none }

  -- a pair that is not kept is dropped
  dropped_stands : {seen : ℕ → ℕ → Type 0} {f : Found} {m : Memory} → Looking seen f m → (i j n : ℕ) → i ≤ end → j ≤ end → stands m.standing (at i) (at j) ≡ Some n → held i j n ≡ None →
      (a b k : ℕ) (d : Edge) → Keepable before way a b k d → stands (without m.standing (at i) (at j)) (at a) (at b) ≡ Some k
  dropped_stands {m} h i j n li lj s none a b k d ke = elim (cases_Bool (eqb (at i) (at a) && eqb (at j) (at b))) [
    | inl e ↦
        let q = and_parts (eqb (at i) (at a)) (eqb (at j) (at b)) e in
        let same_a : i ≡ a = distinct_at way.enodes laid.once i a (omega (arith, laid.count)) (omega (arith, laid.count, ke.first)) (eqb-true _ _ q.0) in
        let same_b : j ≡ b = distinct_at way.enodes laid.once j b (omega (arith, laid.count)) (omega (arith, laid.count, ke.second)) (eqb-true _ _ q.1) in
        let there = h.standing a b k d ke in
        let is_kept = ke.is_kept in
        absurd (cc)
    | inr e ↦ without_other m.standing (at i) (at j) (at a) (at b) e ∙ h.standing a b k d ke
  ]

  module _ (next : Links) (records : Records) (places : Places) (level : ℕ) (S : Refusal → Type 0) where
    abbrev size : ℕ
    size = length records.enodes

    -- a look at place i
    module _ (seen : ℕ → ℕ → Type 0) (W : ℕ → Type 0) (i : ℕ) (li : i ≤ end) (w : (j n : ℕ) (d : Edge) → n < length before.entries → held i j n ≡ Some d → spans end d ≡ true → W n) where
      abbrev Looks : Act Found → Memory → Type 0
      Looks act m = Does next size none_pending (Looked (λ a b. seen a b ⊎ (a ≡ i)) W) S act m

      -- it has come to place j
      abbrev Row : ℕ → ℕ → ℕ → Type 0
      Row j a b = seen a b ⊎ ((a ≡ i) × (b < j))

      -- takes what stands for place j, and `on` does the rest
      module _ (j : ℕ) (lj : j ≤ end) (on : Found → Act Found) (rest : (g : Found) (n : Memory) → Sound n → Looking (Row (suc j)) g n → Looks (on g) n)
          (f : Found) (m : Memory) (s : Sound m) (h : Looking (Row j) f m) where
        seen_here : (g : Found) → ((d : Edge) → Memᴰ d f.edges → Memᴰ d g.edges) → ((n : ℕ) (d : Edge) → Keepable before way i j n d → Memᴰ d g.edges) →
            (a b n : ℕ) (d : Edge) → Row (suc j) a b → Keepable before way a b n d → Memᴰ d g.edges
        seen_here g grows here a b n d (inl r) ke = grows d (h.found a b n d (inl r) ke)
        seen_here g grows here a b n d (inr (e, lt)) ke = elim (cases_eq b j) [
          | inl q ↦ here n d (subst (λ x. Keepable before way x j n d) e (subst (λ y. Keepable before way a y n d) q ke))
          | inr ne ↦ grows d (h.found a b n d (inr (e, omega arith)) ke)
        ]

        -- what a look would keep here is what it holds
        holds : (n : ℕ) → stands m.standing (at i) (at j) ≡ Some n → (k : ℕ) (d : Edge) → Keepable before way i j k d → held i j n ≡ Some d
        holds n q k d ke =
            let there = h.standing i j k d ke in
            let one : k ≡ n = cc in
            subst (λ y. held i j y ≡ Some d) one ke.is_kept

        added_does : (n : ℕ) (d : Edge) → n < length before.entries → stands m.standing (at i) (at j) ≡ Some n → held i j n ≡ Some d → (b : Bool) → spans end d ≡ b → Looks (Q.added next records places level n f on d b) m
        added_does n d lt q ke true sp = does_pure _ (passes_self s) (record {
          entries = h.entries;
          spanning = λ k t. let one : n ≡ k = cc in subst W one (w j n d lt ke sp);
          goes_on = λ e. absurd (cc);
        })
        added_does n d lt q ke false sp = rest (record { edges = d ∷ f.edges; spanning = None }) m s (record {
          entries = h.entries;
          standing = h.standing;
          edges = (kept_good before.entries way.steps i j n d lt ke, h.edges);
          found = seen_here (record { edges = d ∷ f.edges; spanning = None }) (λ c r. Memᴰ.tail r) (λ k c kc. let is = holds n q k c kc in Memᴰ.head (cc));
          none = refl;
        })

        judged_does : (n : ℕ) → n < length before.entries → stands m.standing (at i) (at j) ≡ Some n → (o : Option Edge) → held i j n ≡ o → Looks (Q.judged next records places level end (at i) (at j) n f on o) m
        judged_does n lt q None lost =
            does_then (does_drop (at i) (at j) s) (λ _ o _ po same. rest f o po.sound (record {
              entries = same.0 ∙ h.entries;
              standing = λ a b k d ke. ap (λ ss. stands ss (at a) (at b)) same.1 ∙ dropped_stands h i j n li lj q lost a b k d ke;
              edges = h.edges;
              found = seen_here f (λ d r. r) (λ k d ke. absurd (let is = holds n q k d ke in cc));
              none = h.none;
            }))
        judged_does n lt q (Some d) ke = added_does n d lt q ke (spans end d) refl

        standing_does : (o : Option ℕ) → stands m.standing (at i) (at j) ≡ o → Looks (Q.look_at next records places level way.steps i (at i) j (at j) f on o) m
        standing_does None q = rest f m s (record {
          entries = h.entries;
          standing = h.standing;
          edges = h.edges;
          found = seen_here f (λ d r. r) (λ n d ke. absurd (let there = h.standing i j n d ke in cc));
          none = h.none;
        })
        standing_does (Some n) q =
            does_read _
            (subst (λ (r : List Entry). Looks (Q.judged next records places level end (at i) (at j) n f on (kept (reads r) way.steps i j n)) m) (sym h.entries)
            (judged_does n (subst (λ (r : List Entry). n < length r) h.entries (s.standing (at i) (at j) n q)) q (held i j n) refl))

      look_does : (j : ℕ) (xs : List ℕ) → drop j way.enodes ≡ xs → (f : Found) {m : Memory} → Sound m → Looking (Row j) f m → Looks (Q.look next records places level way.steps i (at i) j xs f) m
      look_does j [] rest f s h = does_pure f (passes_self s) (record {
        entries = h.entries;
        spanning = λ n q. absurd (let none = h.none in cc);
        goes_on = λ _. looking_as (λ a b n d r ke. elim r [
          | inl q ↦ inl q
          | inr e ↦ inr (e, omega (arith, ke.second, laid.count, length-drop j way.enodes, ap length rest))
        ]) h;
      })
      look_does j (x ∷ xs) rest f {m} s h =
          let here = drop_here j way.enodes x 0 xs rest in
          subst (λ y. Looks (Q.look next records places level way.steps i (at i) j (y ∷ xs) f) m) here.1
          (does_read _ (standing_does j (omega (arith, here.0, laid.count)) (Q.look next records places level way.steps i (at i) (suc j) xs) (λ g n. look_does (suc j) xs here.2 g {m = n}) f m s h (stands m.standing (at i) (at j)) refl))

      -- a look at place i, whose enode is e
      pub place_does : (e : ℕ) → at i ≡ e → (f : Found) {m : Memory} → Sound m → Looking seen f m → Looks (Q.look next records places level way.steps i e 0 way.enodes f) m
      place_does e is f {m} s h =
          subst (λ y. Looks (Q.look next records places level way.steps i y 0 way.enodes f) m) is
          (look_does 0 way.enodes refl f s (looking_as (λ a b n d r _. elim r [ inl q ↦ q | inr (_, lt) ↦ absurd (omega arith) ]) h))

    -- looks at the places between the first and the last, after looks at those two
    pub looks_does : (k i : ℕ) → 0 < i → i + k ≡ end → (es : List ℕ) → drop i way.enodes ≡ es → (f : Found) {m : Memory} → Sound m → Looking (λ a b. (a < i) ⊎ (a ≡ end)) f m →
        Does next size none_pending (Looking (λ a b. Unit {0})) S (Q.looks next records places level way.steps way.enodes k i es f) m
    looks_does zero i low all es rest f s h =
        does_pure f (passes_self s) (looking_as (λ a b n d _ ke. elim (cases_eq a end) [ inl e ↦ inr e | inr ne ↦ inl (omega (arith, ke.first)) ]) h)
    looks_does (suc k) i low all [] rest f s h = absurd (omega (arith, laid.count, length-drop i way.enodes, ap length rest))
    looks_does (suc k) i low all (e ∷ es) rest f s h =
        let here = drop_here i way.enodes e 0 es rest in
        does_bind (place_does (λ a b. (a < i) ⊎ (a ≡ end)) (λ n. ⊥) i (omega arith) inside e here.1 f s h) (λ g n _ pn l.
        looks_does k (suc i) (omega arith) (omega arith) es here.2 g pn.sound (looking_as (λ a b c d r _. elim r [
          | inl lt ↦ elim (cases_eq a i) [ inl q ↦ inr q | inr ne ↦ inl (inl (omega arith)) ]
          | inr q ↦ inl (inr q)
        ]) (l.goes_on (none_spans g.spanning l.spanning))))
      where
        -- none that spans the path is kept from there
        inside : (j n : ℕ) (d : Edge) → n < length before.entries → held i j n ≡ Some d → spans end d ≡ true → ⊥
        inside j n d _ ke sp = grind (arith, nat_tests, kept_rises before.entries way.steps i j n d ke)

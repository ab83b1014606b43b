-- Which entries a segment cites, in itself and in its use list, and that more use lists and entries leave this so. Assumes nothing.
use Rattle.std.proofs.Common.{◌≡◌, ℕ, suc, ◌+◌, ◌<◌, ◌≤◌, Bool, true, false, List, [], ◌∷◌, ◌++◌, length, get_or, Some, None, sym, refl, ap, ◌∙◌, subst, arith}
use Rattle.std.proofs.lemmas.List.{length-append, get_or_append_left, get_or_push}
use Rattle.std.proofs.lemmas.Bool.Decides.{nat_tests}
use Rattle.std.proofs.lemmas.List.Elements.{All-weaker, All-from_recursion, recursion_from_All}
use Rattle.std.specs.List.{AllByRecursion as All}
use Rattle.model.specs.Walks.{met}
use Rattle.model.specs.Memory.{Segment, step, entry, mark, Entry, Use, uses_of}
use Rattle.model.specs.Questions.{same_list, place_of}
use Rattle.model.specs.RunLaws.{CitesBelow, AllCiteBelow, CiteEarlier}
use Rattle.model.proofs.Members.{Below}
use Rattle.model.proofs.Growth.{MoreUses, uses_append}

-- the library says this of its other `All`
pub all_weaker : {X : Type 0} (P Q : X → Type 0) → ((x : X) → P x → Q x) → (xs : List X) → All P xs → All Q xs
all_weaker P Q f xs h = recursion_from_All Q xs (All-weaker P Q f xs (All-from_recursion P xs h))

-- use list u of given g is filed, and its members are below n
pub record UseBelow (uses : List Use) (n g u : ℕ) : Type 0 where
  pub filed : u < length (uses_of g uses)
  pub below : Below n (get_or (uses_of g uses) u [])

abbrev pub Cited : List Use → ℕ → Segment → Type 0
Cited uses n (step s None) = Unit {0}
Cited uses n (step s (Some u)) = UseBelow uses n s.given u
Cited uses n (entry k straight) = k < n
Cited uses n (mark e) = Unit {0}

abbrev pub CitedEarlier : List Use → List Entry → Type 0
CitedEarlier uses [] = Unit {0}
CitedEarlier uses (e ∷ earlier) = All (Cited uses (length earlier)) e.segments × CitedEarlier uses earlier

module _ {us vs : List Use} (more : MoreUses us vs) where
  same_use : (g u : ℕ) → u < length (uses_of g us) → get_or (uses_of g vs) u [] ≡ get_or (uses_of g us) u []
  same_use g u lt = ap (λ (l : List (List ℕ)). get_or l u []) (ap (uses_of g) more.is ∙ uses_append g us more.newer) ∙ get_or_append_left (uses_of g us) (uses_of g more.newer) [] u lt

  pub use_below_more : {m n : ℕ} → m ≤ n → (g u : ℕ) → UseBelow us m g u → UseBelow vs n g u
  use_below_more {m} {n} le g u h = record {
    filed = omega (arith, h.filed, ap (λ l. length (uses_of g l)) more.is, ap length (uses_append g us more.newer), length-append (uses_of g us) (uses_of g more.newer));
    below = λ k q. let lt : k < m = h.below k (subst (λ l. met k l ≡ true) (same_use g u h.filed) q) in omega arith;
  }

  pub cited_more : {m n : ℕ} → m ≤ n → (s : Segment) → Cited us m s → Cited vs n s
  cited_more le (step s None) h = tt
  cited_more le (step s (Some u)) h = use_below_more le s.given u h
  cited_more le (entry k w) h = omega arith
  cited_more le (mark e) h = tt

  pub cited_earlier_more : (es : List Entry) → CitedEarlier us es → CitedEarlier vs es
  cited_earlier_more [] h = tt
  cited_earlier_more (e ∷ es) h = (all_weaker (Cited us (length es)) (Cited vs (length es)) (cited_more (omega arith)) e.segments h.0, cited_earlier_more es h.1)

-- a new use list comes last of its given's
pub use_new : (us : List Use) (n g : ℕ) (u : List ℕ) → Below n u → UseBelow (us ++ (record { given = g; members = u } ∷ [])) n g (length (uses_of g us))
use_new us n g u below =
    let one : List Use = record { given = g; members = u } ∷ [] in
    let own : uses_of g one ≡ u ∷ [] = grind (arith, nat_tests) in
    let all : uses_of g (us ++ one) ≡ uses_of g us ++ (u ∷ []) = uses_append g us one ∙ ap (λ r. uses_of g us ++ r) own in
    record {
      filed = omega (arith, ap length all, length-append (uses_of g us) (u ∷ []));
      below = λ k q. below k (subst (λ l. met k l ≡ true) (ap (λ (l : List (List ℕ)). get_or l (length (uses_of g us)) []) all ∙ get_or_push (uses_of g us) u [] (length (uses_of g us)) refl) q);
    }

same_list_eq : (xs ys : List ℕ) → same_list xs ys ≡ true → xs ≡ ys
same_list_eq [] [] h = refl
same_list_eq [] (y ∷ ys) h = cc
same_list_eq (x ∷ xs) [] h = cc
same_list_eq (x ∷ xs) (y ∷ ys) h = grind (arith, nat_tests, same_list_eq xs ys)

-- an equal list is found at its number
place_found : (u : List ℕ) (i : ℕ) (vs : List (List ℕ)) (k : ℕ) → place_of u i vs ≡ Some k → (j : ℕ) × (k ≡ i + j) × (j < length vs) × (get_or vs j [] ≡ u)
place_found u i [] k h = absurd (cc)
place_found u i (v ∷ vs) k h = go (same_list u v) refl (place_found u (suc i) vs k)
  where
    go : (b : Bool) → same_list u v ≡ b → (place_of u (suc i) vs ≡ Some k → (j : ℕ) × (k ≡ suc i + j) × (j < length vs) × (get_or vs j [] ≡ u)) → (j : ℕ) × (k ≡ i + j) × (j < length (v ∷ vs)) × (get_or (v ∷ vs) j [] ≡ u)
    go true e ih =
        let found : Some i ≡ Some k = rw (e, place_of) at h in
        let same : i ≡ k = cc in
        (0, omega arith, omega arith, sym (same_list_eq u v e))
    go false e ih =
        let more = ih (rw (e, place_of) at h) in
        (suc more.0, omega (arith, more.1), omega (arith, more.2), more.3)

-- an equal list of the given serves again
pub use_again : (us : List Use) (n g : ℕ) (u : List ℕ) (k : ℕ) → Below n u → place_of u 0 (uses_of g us) ≡ Some k → UseBelow us n g k
use_again us n g u k below h =
    let p = place_found u 0 (uses_of g us) k h in
    let same : k ≡ p.0 = omega (arith, p.1) in
    subst (UseBelow us n g) (sym same) (record { filed = p.2; below = λ i q. below i (subst (λ l. met i l ≡ true) p.3 q) })

cites_below : (us : List Use) (n : ℕ) (s : Segment) → Cited us n s → CitesBelow us n s
cites_below us n (step s None) h = tt
cites_below us n (step s (Some u)) h = h.below
cites_below us n (entry k w) h = h
cites_below us n (mark e) h = tt

all_cite_below : (us : List Use) (n : ℕ) (ss : List Segment) → All (Cited us n) ss → AllCiteBelow us n ss
all_cite_below us n [] h = tt
all_cite_below us n (s ∷ ss) h = (cites_below us n s h.0, all_cite_below us n ss h.1)

pub cite_earlier : (us : List Use) (es : List Entry) → CitedEarlier us es → CiteEarlier us es
cite_earlier us [] h = tt
cite_earlier us (e ∷ es) h = (all_cite_below us (length es) e.segments h.0, cite_earlier us es h.1)

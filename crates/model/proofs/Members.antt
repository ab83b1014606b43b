-- Membership by a test, and lists that have no number twice. Assumes nothing.
use Rattle.std.proofs.Common.{◌≡◌, ℕ, ◌<◌, ◌≤◌, true, false, ◌||◌, eqb, List, [], ◌∷◌, ◌++◌, reverse, length, get_or, sym, refl, ap, ◌∙◌, inl, inr, arith}
use mathlib.Core.List.{reverse-cons}
use Rattle.std.proofs.lemmas.Bool.{cases_Bool, cases_eq, cases_order, eqb-false, or_parts}
use Rattle.std.proofs.lemmas.Bool.Decides.{nat_tests}
use Rattle.std.proofs.lemmas.Map.Keys.{apart_from_distinct}
use Rattle.std.proofs.lemmas.Map.Steps.{length-le_from_distinct_below}
use Rattle.std.specs.List.{AllByRecursion as All, list_any, IsDistinct}
use Rattle.model.specs.Walks.{met, Distinct, shares, last}

pub met_head : (x : ℕ) (xs : List ℕ) → met x (x ∷ xs) ≡ true
met_head x xs = grind (arith, nat_tests)

pub met_append : (z : ℕ) (xs ys : List ℕ) → met z (xs ++ ys) ≡ (met z xs || met z ys)
met_append z [] ys = refl
met_append z (x ∷ xs) ys = grind (arith, met_append z xs ys)

pub met_reverse : (z : ℕ) (xs : List ℕ) → met z (reverse xs) ≡ met z xs
met_reverse z [] = refl
met_reverse z (x ∷ xs) = rw reverse-cons (grind (arith, met_reverse z xs, met_append z (reverse xs) (x ∷ [])))

-- a list's last number is in it
pub met_last : (x : ℕ) (xs : List ℕ) → met (last x xs) (x ∷ xs) ≡ true
met_last x [] = grind (arith, nat_tests)
met_last x (y ∷ ys) = grind (arith, nat_tests, met_last y ys)

-- a list that has x, before x and after it
pub record Split (x : ℕ) (xs : List ℕ) : Type 0 where
  pub front : List ℕ
  pub back : List ℕ
  pub is : xs ≡ front ++ (x ∷ back)

pub split : (x : ℕ) (xs : List ℕ) → met x xs ≡ true → Split x xs
split x [] h = absurd (grind arith)
split x (y ∷ ys) h = elim (cases_eq x y) [
  | inl e ↦ record { front = []; back = ys; is = ap (λ z. z ∷ ys) (sym e) }
  | inr ne ↦
      let more = split x ys (grind (arith, nat_tests)) in
      record { front = y ∷ more.front; back = more.back; is = ap (λ zs. y ∷ zs) more.is }
]

pub last_append : (d x : ℕ) (xs ys : List ℕ) → last d (xs ++ (x ∷ ys)) ≡ last x ys
last_append d x [] ys = refl
last_append d x (z ∷ zs) ys = last_append z x zs ys

-- two lists share a number exactly when one is in both
pub shares_from : (z : ℕ) (xs ys : List ℕ) → met z xs ≡ true → met z ys ≡ true → shares xs ys ≡ true
shares_from z [] ys h k = grind arith
shares_from z (x ∷ xs) ys h k = grind (arith, nat_tests, shares_from z xs ys)

pub shared_by : (xs ys : List ℕ) → shares xs ys ≡ true → (z : ℕ) × (met z xs ≡ true) × (met z ys ≡ true)
shared_by [] ys h = absurd (grind arith)
shared_by (x ∷ xs) ys h = elim (cases_Bool (met x ys)) [
  | inl e ↦ (x, met_head x xs, e)
  | inr e ↦
      let more = shared_by xs ys (grind (arith, nat_tests)) in
      let m = more.1 in
      (more.0, grind (arith, nat_tests), more.2)
]

-- no number is in both lists
abbrev pub Apart : List ℕ → List ℕ → Type 0
Apart xs ys = (z : ℕ) → met z xs ≡ true → met z ys ≡ false

pub apart_sym : (xs ys : List ℕ) → Apart xs ys → Apart ys xs
apart_sym xs ys h z m = grind (arith, h z)

pub distinct_append : (xs ys : List ℕ) → Distinct xs → Distinct ys → Apart xs ys → Distinct (xs ++ ys)
distinct_append [] ys d e apart = e
distinct_append (x ∷ xs) ys d e apart = (grind (arith, nat_tests, met_append x xs ys, apart x), distinct_append xs ys d.1 e (λ z h. apart z (grind (arith, nat_tests))))

pub distinct_parts : (xs ys : List ℕ) → Distinct (xs ++ ys) → Distinct xs × Distinct ys × Apart xs ys
distinct_parts [] ys d = (tt, d, λ z h. grind arith)
distinct_parts (x ∷ xs) ys d =
    let more = distinct_parts xs ys d.1 in
    ((grind (arith, nat_tests, d.0, met_append x xs ys), more.0), more.1, λ z h. grind (arith, nat_tests, d.0, met_append x xs ys, more.2 z))

pub distinct_reverse : (xs : List ℕ) → Distinct xs → Distinct (reverse xs)
distinct_reverse [] d = tt
distinct_reverse (x ∷ xs) d =
    rw reverse-cons (distinct_append (reverse xs) (x ∷ []) (distinct_reverse xs d.1) (refl, tt) (λ z h. grind (arith, nat_tests, met_reverse z xs)))

-- the same in the library's words
met_any : (x : ℕ) (xs : List ℕ) → met x xs ≡ list_any (eqb x) xs
met_any x [] = refl
met_any x (y ∷ ys) = ap (λ b. eqb x y || b) (met_any x ys)

unmet : (x : ℕ) (xs : List ℕ) → met x xs ≡ false → All (λ y. eqb x y ≡ false) xs
unmet x [] h = tt
unmet x (y ∷ ys) h = let p = or_parts (eqb x y) (met x ys) h in (p.0, unmet x ys p.1)

distinct_is : (xs : List ℕ) → Distinct xs → IsDistinct eqb xs
unfolding IsDistinct
distinct_is [] d = tt
distinct_is (x ∷ xs) d = (unmet x xs d.0, distinct_is xs d.1)

-- a number has one place in a list that has none twice
pub distinct_at : (xs : List ℕ) → Distinct xs → (a b : ℕ) → a < length xs → b < length xs → get_or xs a 0 ≡ get_or xs b 0 → a ≡ b
distinct_at xs d a b la lb e = elim (cases_order a b) [
  | inl same ↦ same
  | inr (inl lt) ↦ absurd (eqb-false _ _ (apart_from_distinct eqb xs a b 0 (distinct_is xs d) lt lb) e)
  | inr (inr gt) ↦ absurd (eqb-false _ _ (apart_from_distinct eqb xs b a 0 (distinct_is xs d) gt la) (sym e))
]

-- each number of the list is below n
abbrev pub Below : ℕ → List ℕ → Type 0
Below n xs = (y : ℕ) → met y xs ≡ true → y < n

-- the pigeonhole principle: a list of numbers below n that has none twice is no longer than n
pub distinct_short : (n : ℕ) (xs : List ℕ) → Distinct xs → Below n xs → length xs ≤ n
distinct_short n xs d below = length-le_from_distinct_below xs n (distinct_is xs d) (λ y h. below y (met_any y xs ∙ h))

-- and if it has n of them, it has all
pub full : (n : ℕ) (xs : List ℕ) → Distinct xs → Below n xs → n ≤ length xs → (y : ℕ) → y < n → met y xs ≡ true
full n xs d below h y lt = elim (cases_Bool (met y xs)) [
  | inl e ↦ e
  | inr e ↦
      let short : length (y ∷ xs) ≤ n = distinct_short n (y ∷ xs) (e, d) (λ z m. grind (arith, nat_tests, below)) in
      absurd (omega arith)
]

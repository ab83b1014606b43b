-- Where two lists that follow the links come together, and the path that joins them there. Assumes nothing.
use Rattle.std.proofs.Common.{◌≡◌, ℕ, ◌+◌, ◌-◌, true, false, List, [], ◌∷◌, ◌++◌, map, reverse, length, take, Some, sym, refl, ap, ◌∙◌, subst, inl, inr, append_assoc, arith}
use Rattle.std.proofs.lemmas.List.{reverse-append, length-reverse, length-append, take_at}
use Rattle.std.proofs.lemmas.Bool.{cases_Bool}
use Rattle.std.proofs.lemmas.Bool.Decides.{nat_tests}
use Rattle.model.specs.Records.{turned}
use Rattle.model.specs.Walks.{Links, met, Distinct, last}
use Rattle.model.specs.Paths.{Path, common, shared, without_last, up, join}
use Rattle.model.proofs.Members.{Apart, apart_sym, met_head, met_last, met_append, met_reverse, split, last_append, distinct_parts}
use Rattle.model.proofs.Walks.{Follows, follows_head, follows_from}

-- both lists end alike, from the top on, and before it they have nothing in common
pub record Confluent (f t : List ℕ) : Type 0 where
  pub rising : List ℕ
  pub falling : List ℕ
  pub top : ℕ
  pub tail : List ℕ
  pub first_is : f ≡ rising ++ (top ∷ tail)
  pub second_is : t ≡ falling ++ (top ∷ tail)
  pub apart : Apart rising falling

abbrev pub confluent_sym : {f t : List ℕ} → Confluent f t → Confluent t f
confluent_sym m = record {
  rising = m.falling;
  falling = m.rising;
  top = m.top;
  tail = m.tail;
  first_is = m.second_is;
  second_is = m.first_is;
  apart = apart_sym m.rising m.falling m.apart;
}

-- two ways along the links from one enode to another are one
same_way_on : (next : Links) (e : ℕ) (xs ys : List ℕ) → Follows next e (e ∷ xs) → Follows next e (e ∷ ys) → Distinct (e ∷ xs) → Distinct (e ∷ ys) → last e xs ≡ last e ys → xs ≡ ys
same_way_on next e [] [] f g d c h = refl
same_way_on next e [] (y ∷ ys) f g d c h = let m = met_last y ys in absurd (grind (arith, nat_tests))
same_way_on next e (x ∷ xs) [] f g d c h = let m = met_last x xs in absurd (grind (arith, nat_tests))
same_way_on next e (x ∷ xs) (y ∷ ys) (l, p, _, f) (k, q, _, g) d c h =
    let one : Some l ≡ Some k = sym p ∙ q in
    let x_is : x ≡ l.to = follows_head next l.to x xs f in
    let y_is : y ≡ k.to = follows_head next k.to y ys g in
    let same : y ≡ x = cc in
    let g' : Follows next x (x ∷ ys) = subst (λ z. Follows next z (z ∷ ys)) same (follows_from next k.to y [] ys g) in
    let c' : Distinct (x ∷ ys) = subst (λ z. Distinct (z ∷ ys)) same c.1 in
    let ih : xs ≡ ys = same_way_on next x xs ys (follows_from next l.to x [] xs f) g' d.1 c' (h ∙ ap (λ z. last z ys) same) in
    cc

module _ (next : Links) (b : ℕ) (t : List ℕ) (from_b : Follows next b t) (once : Distinct t) where
  met_there : (a x : ℕ) (xs : List ℕ) → Follows next a (x ∷ xs) → Distinct (x ∷ xs) → last x xs ≡ last b t → met x t ≡ true → Confluent (x ∷ xs) t
  met_there a x xs from_a d ends here =
      let s = split x t here in
      let parts = distinct_parts s.front (x ∷ s.back) (rw s.is at once) in
      let back : Follows next x (x ∷ s.back) = follows_from next b x s.front s.back (rw s.is at from_b) in
      let alike : last x xs ≡ last x s.back = ends ∙ ap (last b) s.is ∙ last_append b x s.front s.back in
      let same : xs ≡ s.back = same_way_on next x xs s.back (follows_from next a x [] xs from_a) back d parts.1 alike in
      record { rising = []; falling = s.front; top = x; tail = s.back; first_is = ap (λ r. x ∷ r) same; second_is = s.is; apart = λ z h. grind arith }

  not_yet : (x : ℕ) (xs : List ℕ) → met x t ≡ false → Confluent xs t → Confluent (x ∷ xs) t
  not_yet x xs ne m =
      let there = met_append x m.falling (m.top ∷ m.tail) in
      let elsewhere : met x (m.falling ++ (m.top ∷ m.tail)) ≡ false = rw m.second_is at ne in
      record {
        rising = x ∷ m.rising;
        falling = m.falling;
        top = m.top;
        tail = m.tail;
        first_is = ap (λ r. x ∷ r) m.first_is;
        second_is = m.second_is;
        apart = λ z h. grind (arith, nat_tests, m.apart z);
      }

  -- lists that follow the links, have no enode twice and end alike are confluent
  pub confluent : (a x : ℕ) (xs : List ℕ) → Follows next a (x ∷ xs) → Distinct (x ∷ xs) → last x xs ≡ last b t → met (last x xs) t ≡ true → Confluent (x ∷ xs) t
  confluent a x [] from_a d ends shares = met_there a x [] from_a d ends shares
  confluent a x (y ∷ ys) from_a d ends shares = elim (cases_Bool (met x t)) [
    | inl here ↦ met_there a x (y ∷ ys) from_a d ends here
    | inr ne ↦ not_yet x (y ∷ ys) ne (confluent from_a.0.to y ys from_a.3 d.1 ends shares)
  ]

-- the common tail of confluent lists
common_append : (xs ys zs : List ℕ) → common (xs ++ ys) (xs ++ zs) ≡ length xs + common ys zs
common_append [] ys zs = omega arith
common_append (x ∷ xs) ys zs = grind (arith, nat_tests, common_append xs ys zs)

common_apart : (xs ys : List ℕ) → Apart xs ys → common xs ys ≡ 0
common_apart [] ys apart = refl
common_apart (x ∷ xs) [] apart = refl
common_apart (x ∷ xs) (y ∷ ys) apart = grind (arith, nat_tests, apart x (met_head x xs))

shared_tail : (rising falling tail : List ℕ) → Apart rising falling → shared (rising ++ tail) (falling ++ tail) ≡ length tail
shared_tail rising falling tail apart =
    rw (reverse-append rising tail, reverse-append falling tail, common_append (reverse tail) (reverse rising) (reverse falling))
    (let none : common (reverse rising) (reverse falling) ≡ 0 = common_apart (reverse rising) (reverse falling) (λ z h. grind (arith, met_reverse z rising, met_reverse z falling, apart z)) in
    omega (arith, length-reverse tail))

without_tail : (front tail : List ℕ) → without_last (length tail) (front ++ tail) ≡ front
without_tail front tail = take_at front tail (length (front ++ tail) - length tail) (omega (arith, length-append front tail))

up_to_top : (front tail : List ℕ) (top : ℕ) → take (length (front ++ (top ∷ tail)) + 1 - length (top ∷ tail)) (front ++ (top ∷ tail)) ≡ front ++ (top ∷ [])
up_to_top front tail top =
    ap (take (length (front ++ (top ∷ tail)) + 1 - length (top ∷ tail))) (sym (append_assoc front (top ∷ []) tail))
    ∙ take_at (front ++ (top ∷ [])) tail _ (omega (arith, length-append front (top ∷ tail), length-append front (top ∷ [])))

-- up to the top, and then down
abbrev pub over : Links → List ℕ → ℕ → List ℕ → Path
over next rising top falling = record {
  enodes = (rising ++ (top ∷ [])) ++ reverse falling;
  steps = map (up next) rising ++ turned (map (up next) falling);
}

join_parts : (next : Links) (rising falling tail : List ℕ) (top : ℕ) → Apart rising falling → join next (rising ++ (top ∷ tail)) (falling ++ (top ∷ tail)) ≡ over next rising top falling
join_parts next rising falling tail top apart =
    simp (shared_tail rising falling (top ∷ tail) apart, without_tail rising (top ∷ tail), without_tail falling (top ∷ tail), up_to_top rising tail top)

-- the path that joins confluent lists is over their top
pub join_over : (next : Links) {f t : List ℕ} (m : Confluent f t) → join next f t ≡ over next m.rising m.top m.falling
join_over next m = (λ i. join next (m.first_is i) (m.second_is i)) ∙ join_parts next m.rising m.falling m.tail m.top m.apart

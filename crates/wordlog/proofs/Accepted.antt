-- What is read is allowed, and stands there word for word.
use Rattle.std.proofs.Common.{◌≡◌, ℕ, suc, ◌+◌, ◌/◌, ◌%◌, ◌^◌, ◌<◌, ◌≤◌, cond, ◌&&◌, eqb, ltb, leb, List, [], ◌∷◌, length, take, Some, None, Option, sym, refl, ap, subst, add-one, arith}
use Rattle.std.proofs.lemmas.List.{length-take-le}
use Rattle.std.proofs.lemmas.Nat.{shr_split, mod_below}
use Rattle.std.proofs.lemmas.Bool.{ltb-true, leb-true, eqb-true, and_parts, cond_both}
use Rattle.model.specs.Records.{Kind, Literal, Theory, Unknown}
use Rattle.model.specs.Format.{Call, given, open_frame, close_frame, pair_words, head, given_head, words, Plain, AllPlain, Allowed}
use Rattle.model.specs.Explanations.{pairs_of}
use Rattle.wordlog.specs.Reading.{Front, plain, some_if, all_plain, root_from, axiom_from, number_from, congruence_from, given_from, taking, given_front, ask_front, front_of, front, Accepts}
use Rattle.wordlog.proofs.Plain.{plain_fact}
use Rattle.wordlog.proofs.PairWords.{pair_words_length, words_of_pairs}

-- a choice by a kind's number
by_kind : (kind n : ℕ) {A : Type 0} (P : ℕ → A → Type 0) (x y : A) → P n x → P kind y → P kind (cond (eqb kind n) x y)
by_kind kind n P x y p q = cond_both (eqb kind n) x y (P kind) (λ e. subst (λ k. P k x) (sym (eqb-true kind n e)) p) (λ e. q)

-- the given that is read of these plain words is allowed, and written as them
abbrev Stands : ℕ → List ℕ → Option Call → Type 0
Stands kind us None = Unit {0}
Stands kind us (Some c) = Allowed c × (given_head kind (length us) ∷ us ≡ words c)

root_stands : (us : List ℕ) → AllPlain us → Stands 0 us (root_from us)
root_stands [] p = tt
root_stands (e ∷ []) p = ((p.0, refl), refl)
root_stands (e ∷ w ∷ us) p = tt

axiom_stands : (us : List ℕ) → AllPlain us → Stands 4 us (axiom_from us)
axiom_stands [] p = tt
axiom_stands (a ∷ []) p = tt
axiom_stands (a ∷ b ∷ []) p = ((p.0, p.1.0), refl)
axiom_stands (a ∷ b ∷ w ∷ us) p = tt

-- each kind with one number is allowed and written alike
number_stands : (kind : ℕ) (k : ℕ → Kind) → ((a b n : ℕ) → Plain a × Plain b × Plain n → Stands kind (a ∷ b ∷ n ∷ []) (Some (given a b (k n)))) → (us : List ℕ) → AllPlain us → Stands kind us (number_from k us)
number_stands kind k alike [] p = tt
number_stands kind k alike (a ∷ []) p = tt
number_stands kind k alike (a ∷ b ∷ []) p = tt
number_stands kind k alike (a ∷ b ∷ n ∷ []) p = alike a b n (p.0, p.1.0, p.1.1.0)
number_stands kind k alike (a ∷ b ∷ n ∷ w ∷ us) p = tt

congruence_stands : (us : List ℕ) → length us < 2 ^ 24 → AllPlain us → Stands 2 us (congruence_from us)
congruence_stands [] l p = tt
congruence_stands (a ∷ []) l p = tt
congruence_stands (a ∷ b ∷ us) l p =
    cond_both (ltb 0 (length us) && eqb (length us % 2) 0) _ None (Stands 2 (a ∷ b ∷ us))
    (λ e.
    let both = and_parts _ _ e in
    let w = words_of_pairs us (eqb-true (length us % 2) 0 both.1) in
    let n = pair_words_length (pairs_of us) in
    let some = ltb-true 0 (length us) both.0 in
    let count = ap length w in
    let head : suc (suc (length us)) ≡ 2 + length (pair_words (pairs_of us)) = omega arith in
    ((p.0, p.1.0, subst AllPlain (sym w) p.1.1, omega arith, omega arith), cc))
    (λ e. tt)

given_stands : (kind : ℕ) (us : List ℕ) → length us < 2 ^ 24 → AllPlain us → Stands kind us (given_from kind us)
given_stands kind us l p =
    let P : ℕ → Option Call → Type 0 = λ k o. Stands k us o in
    by_kind kind 0 P _ _ (root_stands us p)
    (by_kind kind 1 P _ _ (number_stands 1 Literal (λ a b n q. (q, refl)) us p)
    (by_kind kind 2 P _ _ (congruence_stands us l p)
    (by_kind kind 3 P _ _ (number_stands 3 Theory (λ a b n q. (q, refl)) us p)
    (by_kind kind 4 P _ _ (axiom_stands us p)
    (by_kind kind 5 P _ None (number_stands 5 Unknown (λ a b n q. (q, refl)) us p) tt)))))

taking_accepted : (kind count w : ℕ) (ws : List ℕ) (o : Option Call) → w ≡ given_head kind count → count ≤ length ws → Stands kind (take count ws) o → Accepts (w ∷ ws) (taking (count + 1) o)
taking_accepted kind count w ws None h l s = tt
taking_accepted kind count w ws (Some c) h l s =
    let n = length-take-le count ws l in
    let t : take (count + 1) (w ∷ ws) ≡ w ∷ take count ws = rw add-one in
    (s.0, omega arith, cc s.1)

given_accepted : (kind count w : ℕ) (ws : List ℕ) → w ≡ given_head kind count → count < 2 ^ 24 → Accepts (w ∷ ws) (given_front kind count ws)
given_accepted kind count w ws h l =
    cond_both (leb count (length ws) && all_plain (take count ws)) _ None (Accepts (w ∷ ws))
    (λ e.
    let both = and_parts _ _ e in
    let fits = leb-true count (length ws) both.0 in
    let short : length (take count ws) < 2 ^ 24 = omega (arith, length-take-le count ws fits) in
    taking_accepted kind count w ws _ h fits (given_stands kind (take count ws) short (plain_fact (take count ws) both.1)))
    (λ e. tt)

ask_accepted : (may w : ℕ) (ws : List ℕ) → w ≡ head 5 may → Accepts (w ∷ ws) (ask_front may ws)
ask_accepted may w [] h = tt
ask_accepted may w (a ∷ []) h = tt
ask_accepted may w (a ∷ b ∷ ws) h =
    cond_both (ltb may 4 && (plain a && plain b)) _ None (Accepts (w ∷ a ∷ b ∷ ws))
    (λ e.
    let both = and_parts _ _ e in
    let ends = and_parts _ _ both.1 in
    ((ltb-true may 4 both.0, ltb-true a _ ends.0, ltb-true b _ ends.1), omega arith, cc))
    (λ e. tt)

bare_accepted : (kind payload w : ℕ) (ws : List ℕ) (c : Call) → w ≡ head kind payload → Allowed c → words c ≡ head kind 0 ∷ [] → Accepts (w ∷ ws) (some_if (eqb payload 0) (c, 1))
bare_accepted kind payload w ws c h p e =
    cond_both (eqb payload 0) _ None (Accepts (w ∷ ws))
    (λ z. let zero_is = eqb-true payload 0 z in (p, omega arith, cc))
    (λ z. tt)

head_accepted : (kind payload w : ℕ) (ws : List ℕ) → payload < 2 ^ 28 → w ≡ head kind payload → Accepts (w ∷ ws) (front_of kind payload ws)
head_accepted kind payload w ws l =
    let P : ℕ → Front → Type 0 = λ k r. w ≡ head k payload → Accepts (w ∷ ws) r in
    by_kind kind 1 P _ _ (λ h. (l, omega arith, cc))
    (by_kind kind 2 P _ _ (λ h. given_accepted (payload / 2 ^ 24) (payload % 2 ^ 24) w ws (omega (arith, shr_split payload 24)) (mod_below payload (2 ^ 24) (omega arith)))
    (by_kind kind 3 P _ _ (λ h. bare_accepted 3 payload w ws open_frame h tt refl)
    (by_kind kind 4 P _ _ (λ h. bare_accepted 4 payload w ws close_frame h tt refl)
    (by_kind kind 5 P _ None (ask_accepted payload w ws) (λ h. tt)))))

pub front_accepted : (ws : List ℕ) → Accepts ws (front ws)
front_accepted [] = tt
front_accepted (w ∷ ws) = head_accepted (w / 2 ^ 28) (w % 2 ^ 28) w ws (mod_below w (2 ^ 28) (omega arith)) (sym (shr_split w 28))

-- Writing into the places of a list, one after another. Assumes nothing.
use Rattle.std.proofs.Common.{◌≡◌, ℕ, suc, ◌+◌, ◌<◌, ◌≤◌, List, [], ◌∷◌, ◌++◌, length, get_or, take, drop, set, sym, ap, ◌∙◌, append_assoc, add-zero, zero-add, arith, length-append, length-drop, length-set, drop-cons}
use lib.Seq.{take-set-lt}
use Rattle.std.proofs.lemmas.List.{take_more_set, take-append-drop, set_at, length_push, length-take-le, take_all, drop_all, drop-drop, append-nil}
use Rattle.model.specs.WalkCalls.{placed}

-- of a write within the first n elements of a list
pub ruleset filing = (take-set-lt, take_more_set, length-set)

module _ {T : Type 0} where
  pub placed_none : (base : ℕ) (out : List T) → placed base [] out ≡ out
  placed_none base out = ap (λ n. take base out ++ drop n out) (add-zero base) ∙ take-append-drop base out

  pub placed_length : (base : ℕ) (xs out : List T) → base + length xs ≤ length out → length (placed base xs out) ≡ length out
  placed_length base xs out fits =
      let front = length-append (take base out) (xs ++ drop (base + length xs) out) in
      let back = length-append xs (drop (base + length xs) out) in
      omega (arith, front, back, length-take-le base out (omega arith), length-drop (base + length xs) out)

  -- one more
  pub placed_push : (base : ℕ) (xs out : List T) (y : T) → base + length xs < length out → set (placed base xs out) (base + length xs) y ≡ placed base (xs ++ (y ∷ [])) out
  placed_push base xs out y lt =
      let n = base + length xs in
      let front = take base out ++ xs in
      let here : length front ≡ n = length-append (take base out) xs ∙ ap (λ k. k + length xs) (length-take-le base out (omega arith)) in
      let split : placed base xs out ≡ front ++ (get_or out n y ∷ drop (suc n) out) =
      sym (append_assoc (take base out) xs (drop n out)) ∙ ap (λ r. front ++ r) (drop-cons out n y lt) in
      let next : suc n ≡ base + length (xs ++ (y ∷ [])) = omega (arith, length_push xs y) in
      ap (λ r. set r n y) split
      ∙ set_at front (get_or out n y) (drop (suc n) out) y n here
      ∙ append_assoc (take base out) xs (y ∷ drop (suc n) out)
      ∙ ap (λ r. take base out ++ r) (sym (append_assoc xs (y ∷ []) (drop (suc n) out)))
      ∙ ap (λ k. take base out ++ ((xs ++ (y ∷ [])) ++ drop k out)) next

  -- from the place n on, in the part of the list that begins there
  pub placed_behind : (n k : ℕ) (xs part out : List T) → n + k ≡ length out → part ≡ placed 0 xs (take k (drop n out)) → take n out ++ (part ++ drop k (drop n out)) ≡ placed n xs out
  placed_behind n k xs part out fits is =
      let whole : take k (drop n out) ≡ drop n out = take_all k (drop n out) (omega (arith, length-drop n out)) in
      let none : drop k (drop n out) ≡ [] = drop_all k (drop n out) (omega (arith, length-drop n out)) in
      let there : part ≡ xs ++ drop (n + length xs) out =
      is ∙ ap (placed 0 xs) whole ∙ ap (λ r. xs ++ r) (drop-drop (0 + length xs) n out ∙ ap (λ m. drop (n + m) out) (zero-add (length xs))) in
      ap (λ r. take n out ++ (part ++ r)) none ∙ ap (λ r. take n out ++ r) (append-nil part ∙ there)

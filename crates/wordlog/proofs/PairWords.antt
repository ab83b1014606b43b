-- Argument pairs and their words.
use Rattle.std.proofs.Common.{◌≡◌, ℕ, suc, ◌*◌, ◌/◌, ◌%◌, List, [], ◌∷◌, length, take, refl, ap, ◌∙◌, arith}
use Rattle.model.specs.declared.items.Pair.{Pair}
use Rattle.model.specs.Format.{pair_words}
use Rattle.model.specs.Explanations.{pairs_of}

pub pair_words_length : (ps : List Pair) → length (pair_words ps) ≡ 2 * length ps
pair_words_length [] = refl
pair_words_length (p ∷ ps) = let ih = pair_words_length ps in omega arith

pub pairs_of_words : (ps : List Pair) → pairs_of (pair_words ps) ≡ ps
pairs_of_words [] = refl
pairs_of_words (p ∷ ps) = ap (λ qs. p ∷ qs) (pairs_of_words ps)

pub words_of_pairs : (ws : List ℕ) → length ws % 2 ≡ 0 → pair_words (pairs_of ws) ≡ ws
words_of_pairs [] e = refl
words_of_pairs (a ∷ []) e = absurd (omega arith)
words_of_pairs (a ∷ b ∷ ws) e = ap (λ us. a ∷ b ∷ us) (words_of_pairs ws (omega arith))

-- the pairs are of all the words but an odd last one
pub words_in_pairs : (ws : List ℕ) → pair_words (pairs_of ws) ≡ take (length ws / 2 * 2) ws
words_in_pairs [] = refl
words_in_pairs (a ∷ []) = refl
words_in_pairs (a ∷ b ∷ ws) =
    let two : suc (suc (length ws / 2 * 2)) ≡ length (a ∷ b ∷ ws) / 2 * 2 = omega arith in
    ap (λ us. a ∷ b ∷ us) (words_in_pairs ws) ∙ ap (λ n. take n (a ∷ b ∷ ws)) two

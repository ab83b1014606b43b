-- The words in some bytes by their places, and a list filled with them.
use Rattle.std.proofs.Common.{◌≡◌, ℕ, zero, suc, ◌+◌, ◌*◌, ◌/◌, ◌<◌, List, [], ◌∷◌, ◌++◌, length, get_or, take, drop, set, sym, refl, ap, ◌∙◌, arith}
use Rattle.std.proofs.lemmas.List.{append_assoc, length-take-le, set_at, take_more, drop_more}
use Rattle.std.specs.Simd.{first_chunks}
use Rattle.wordlog.specs.Bytes.{word_from, words_in}

pub words_in_length : (bs : List ℕ) → length (words_in bs) ≡ length bs / 4
words_in_length [] = refl
words_in_length (a ∷ []) = refl
words_in_length (a ∷ b ∷ []) = refl
words_in_length (a ∷ b ∷ c ∷ []) = refl
words_in_length (a ∷ b ∷ c ∷ d ∷ bs) = let ih = words_in_length bs in omega arith

word_further : (a b c d n : ℕ) (bs : List ℕ) → word_from bs n ≡ word_from (a ∷ b ∷ c ∷ d ∷ bs) (suc (suc (suc (suc n))))
word_further a b c d n bs =
    let on : (k : ℕ) → suc (suc (suc (suc n))) + k ≡ suc (suc (suc (suc (n + k)))) = λ k. omega arith in
    simp (on 1, on 2, on 3)

pub words_in_at : (bs : List ℕ) (i : ℕ) → i < length bs / 4 → word_from bs (4 * i) ≡ get_or (words_in bs) i 0
words_in_at [] i l = absurd (omega arith)
words_in_at (a ∷ []) i l = absurd (omega arith)
words_in_at (a ∷ b ∷ []) i l = absurd (omega arith)
words_in_at (a ∷ b ∷ c ∷ []) i l = absurd (omega arith)
words_in_at (a ∷ b ∷ c ∷ d ∷ bs) zero l = refl
words_in_at (a ∷ b ∷ c ∷ d ∷ bs) (suc i) l =
    let n : 4 * suc i ≡ suc (suc (suc (suc (4 * i)))) = omega arith in
    ap (word_from (a ∷ b ∷ c ∷ d ∷ bs)) n
    ∙ sym (word_further a b c d (4 * i) bs)
    ∙ words_in_at bs i (omega arith)

-- the bytes in fours
pub chunk_word : (k i : ℕ) (bs : List ℕ) (d : List ℕ) → k ≡ length bs / 4 → i < k → word_from (get_or (first_chunks 4 k bs) i d) 0 ≡ get_or (words_in bs) i 0
chunk_word zero i bs d e l = absurd (omega arith)
chunk_word (suc k) i [] d e l = absurd (omega arith)
chunk_word (suc k) i (a ∷ []) d e l = absurd (omega arith)
chunk_word (suc k) i (a ∷ b ∷ []) d e l = absurd (omega arith)
chunk_word (suc k) i (a ∷ b ∷ c ∷ []) d e l = absurd (omega arith)
chunk_word (suc k) zero (a ∷ b ∷ c ∷ e ∷ bs) d n l = refl
chunk_word (suc k) (suc i) (a ∷ b ∷ c ∷ e ∷ bs) d n l = chunk_word k i bs d (omega arith) (omega arith)

-- one word more
pub filled_more : (ws out : List ℕ) (i w : ℕ) → i < length ws → i < length out → w ≡ get_or ws i 0 → set (take i ws ++ drop i out) i w ≡ take (i + 1) ws ++ drop (i + 1) out
filled_more ws out i w l m e =
    ap (λ os. set (take i ws ++ os) i w) (drop_more out i 0 m)
    ∙ set_at (take i ws) (get_or out i 0) (drop (i + 1) out) w i (length-take-le i ws (omega arith))
    ∙ sym (append_assoc (take i ws) (w ∷ []) (drop (i + 1) out))
    ∙ ap (λ us. us ++ drop (i + 1) out) (ap (λ x. take i ws ++ x ∷ []) e ∙ sym (take_more ws i 0 l))

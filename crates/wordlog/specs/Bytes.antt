-- The words in a log's bytes. Assumes nothing.
use Rattle.std.specs.Prelude.{ℕ, ◌+◌, ◌*◌, min, List, [], ◌∷◌, ◌++◌, length, take, drop, slice_index}

-- the lowest byte stands first
abbrev pub word : ℕ → ℕ → ℕ → ℕ → ℕ
word a b c d = a + b * 256 + c * 65536 + d * 16777216

-- the word whose first byte is at n
abbrev pub word_from : List ℕ → ℕ → ℕ
word_from bs n = word (slice_index bs n) (slice_index bs (n + 1)) (slice_index bs (n + 2)) (slice_index bs (n + 3))

-- one to three bytes left over are in no word
abbrev pub words_in : List ℕ → List ℕ
words_in [] = []
words_in (a ∷ []) = []
words_in (a ∷ b ∷ []) = []
words_in (a ∷ b ∷ c ∷ []) = []
words_in (a ∷ b ∷ c ∷ d ∷ bs) = word a b c d ∷ words_in bs

-- as many words as have a place
abbrev pub fitting : List ℕ → List ℕ → ℕ
fitting ws out = min (length ws) (length out)

-- they stand in front of what was there
abbrev pub filled : List ℕ → List ℕ → List ℕ
filled ws out = take (fitting ws out) ws ++ drop (fitting ws out) out

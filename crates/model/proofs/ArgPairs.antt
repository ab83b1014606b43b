-- Words read two by two. Assumes nothing.
use Rattle.std.proofs.Common.{◌≡◌, ℕ, ◌/◌, List, [], ◌∷◌, length, refl, arith}
use Rattle.model.specs.Explanations.{pairs_of}

pub pairs_length : (ws : List ℕ) → length ws / 2 ≡ length (pairs_of ws)
pairs_length [] = refl
pairs_length (a ∷ []) = refl
pairs_length (a ∷ b ∷ ws) = let ih = pairs_length ws in omega arith

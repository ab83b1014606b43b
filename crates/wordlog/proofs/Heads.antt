-- A head word taken apart again.
use Rattle.std.proofs.Common.{◌≡◌, ℕ, ◌+◌, ◌*◌, ◌^◌, ◌<◌, List, ◌∷◌, ◌∙◌, arith}
use Rattle.std.proofs.lemmas.Nat.{shr_high, mod_low}
use Rattle.model.specs.Format.{head, given_head}
use Rattle.wordlog.specs.Reading.{front, front_of, given_front}

pub front_at : (kind payload : ℕ) (ws : List ℕ) → payload < 2 ^ 28 → front (head kind payload ∷ ws) ≡ front_of kind payload ws
front_at kind payload ws l = cc (shr_high kind 28 payload l, mod_low kind 28 payload l)

pub given_at : (kind count : ℕ) (ws : List ℕ) → kind < 16 → count < 2 ^ 24 → front (given_head kind count ∷ ws) ≡ given_front kind count ws
given_at kind count ws k l =
    front_at 2 (kind * 2 ^ 24 + count) ws (omega arith)
    ∙ cc (shr_high kind 24 count l, mod_low kind 24 count l)

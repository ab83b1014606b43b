-- What a call writes at the front of some places. Assumes nothing.
use Rattle.std.specs.Prelude.{◌≡◌, ℕ, ◌<◌, ◌≤◌, ◌^◌, List, ◌∷◌, ◌++◌, length, drop, Some, None, Option}
use Rattle.model.specs.Format.{Call, given_head, words, AllPlain, Allowed}

-- the words stand in front of what was there, if P holds and there are places enough; else nothing is written
abbrev pub Puts : Type 0 → List ℕ → List ℕ → Option ℕ → List ℕ → Type 0
Puts P ws before (Some n) after = P × (n ≡ length ws) × (n ≤ length before) × (after ≡ ws ++ drop n before)
Puts P ws before None after = (after ≡ before) × (P → length before < length ws)

-- plain words behind a given's head, which counts them
abbrev pub PutsGiven : ℕ → List ℕ → List ℕ → Option ℕ → List ℕ → Type 0
PutsGiven kind ws before r after = Puts (AllPlain ws × (length ws < 2 ^ 24)) (given_head kind (length ws) ∷ ws) before r after

-- an allowed call is written by its words
abbrev pub Writes : Call → List ℕ → Option ℕ → List ℕ → Type 0
Writes c before r after = Puts (Allowed c) (words c) before r after

-- what is read back is the call, unless nothing was written
abbrev pub ReadsBack : Call → ℕ → Option Call → Type 0
ReadsBack c places (Some back) = Allowed c × (length (words c) ≤ places) × (back ≡ c)
ReadsBack c places None = Allowed c → places < length (words c)

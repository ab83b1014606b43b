-- Links and root walks. Assumes nothing.
use Rattle.std.specs.Prelude.{◌≡◌, ℕ, zero, suc, Bool, true, false, ◌&&◌, ◌||◌, List, [], ◌∷◌, length, Some, None, Option, ◌==◌}
use Rattle.model.specs.declared.items.Link.{Link}
use Rattle.model.specs.Records.{Given, given_at, newest}

abbrev pub Links : Type 0
Links = ℕ → Option Link

abbrev pub as_link : List Given → Option ℕ → Option Link
as_link gs None = None
as_link gs (Some n) = Some (record { given = n; to = (given_at gs n).to })

abbrev pub counting : (ℕ → Bool) → ℕ → Given → Bool
counting counts e g = g.from == e && counts g.frame

-- an enode's link: its newest given whose frame counts
abbrev pub links : (ℕ → Bool) → List Given → Links
links counts gs e = as_link gs (newest (counting counts e) gs (length gs))

abbrev pub met : ℕ → List ℕ → Bool
met e [] = false
met e (x ∷ xs) = e == x || met e xs

-- no enode is met twice
abbrev pub Distinct : List ℕ → Type 0
Distinct [] = Unit {0}
Distinct (x ∷ xs) = (met x xs ≡ false) × Distinct xs

-- how a walk ended: at an enode with no link, before an enode met again, or at the root that it was told
pub data Ending : Type 0 where
  no_link : Ending
  again : ℕ → Ending
  at_root : ℕ → Ending

pub record Walk : Type 0 where
  pub enodes : List ℕ
  pub ending : Ending

-- the enode that a walk tells: the one met again, or the root
abbrev pub tells : Ending → Option ℕ
tells no_link = None
tells (again e) = Some e
tells (at_root e) = Some e

abbrev pub is_root : Option ℕ → ℕ → Bool
is_root None e = false
is_root (Some r) e = r == e

-- e, and then the walk `on` from the enode that it links to
abbrev pub through : ℕ → (ℕ → Walk) → Option Link → Walk
through e on None = record { enodes = e ∷ []; ending = no_link }
through e on (Some l) = let w = on l.to in record { enodes = e ∷ w.enodes; ending = w.ending }

-- is e met again? is it the root? and its link
abbrev pub visit : ℕ → (ℕ → Walk) → Bool → Bool → Option Link → Walk
visit e on true root l = record { enodes = []; ending = again e }
visit e on false true l = record { enodes = e ∷ []; ending = at_root e }
visit e on false false l = through e on l

-- the walk from e that has met `seen`, newest first. No walk meets more enodes than there are, so with `room` for those not met yet the first clause is reached only at an enode met again
abbrev pub walk : Links → Option ℕ → ℕ → List ℕ → ℕ → Walk
walk next root zero seen e = record { enodes = []; ending = again e }
walk next root (suc room) seen e = visit e (λ x. walk next root room (e ∷ seen) x) (met e seen) (is_root root e) (next e)

-- the root walk from e, among that many enodes
abbrev pub root_walk : Links → ℕ → Option ℕ → ℕ → Walk
root_walk next size root e = walk next root size [] e

-- an enode is in both lists
abbrev pub shares : List ℕ → List ℕ → Bool
shares [] ys = false
shares (x ∷ xs) ys = met x ys || shares xs ys

-- the walks of two enodes share one
abbrev pub check_eq : Links → ℕ → ℕ → ℕ → Bool
check_eq next size a b = shares (root_walk next size None a).enodes (root_walk next size None b).enodes

abbrev pub last : ℕ → List ℕ → ℕ
last d [] = d
last d (x ∷ xs) = last x xs

-- a walk with no circle of two or more enodes: one that it met again is its last
abbrev pub NoCircle : ℕ → Walk → Type 0
NoCircle e w = elim w.ending [ no_link ↦ Unit {0} | again x ↦ x ≡ last e w.enodes | at_root x ↦ Unit {0} ]

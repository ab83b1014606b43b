-- Walks with room for the enodes not seen yet: how one goes on, and what its enodes link to. Assumes nothing.
use Rattle.std.proofs.Common.{◌≡◌, ℕ, zero, suc, ◌+◌, ◌-◌, ◌<◌, ◌≤◌, true, false, ◌||◌, List, [], ◌∷◌, length, Some, Option, sym, ap, ◌∙◌, subst, arith}
use Rattle.std.proofs.lemmas.Bool.Decides.{nat_tests}
use Rattle.model.specs.declared.items.Link.{Link}
use Rattle.model.specs.Walks.{Links, met, Distinct, is_root, visit, walk, root_walk}
use Rattle.model.proofs.Members.{Below, distinct_short, full}
use Rattle.model.proofs.Walks.{Within, visit_same, walk_again}

-- room for the enodes that are not seen yet, of that many enodes
pub record Room (size room : ℕ) (seen : List ℕ) : Type 0 where
  pub distinct : Distinct seen
  pub below : Below size seen
  pub enough : size ≤ length seen + room

pub room_start : (size room : ℕ) → size ≤ room → Room size room []
room_start size room le = record { distinct = tt; below = λ y m. grind arith; enough = omega arith }

pub room_less : {size room : ℕ} {seen : List ℕ} (e : ℕ) → Room size room seen → e < size → met e seen ≡ false → Room size (room - 1) (e ∷ seen)
room_less {size} {room} {seen} e r lt new =
    let below : Below size (e ∷ seen) = λ y m. grind (arith, nat_tests, r.below) in
    let short : length (e ∷ seen) ≤ size = distinct_short size (e ∷ seen) (new, r.distinct) below in
    record { distinct = (new, r.distinct); below = below; enough = omega (arith, r.enough) }

room_suc : {size room : ℕ} {seen : List ℕ} (e : ℕ) → Room size (suc room) seen → e < size → met e seen ≡ false → Room size room (e ∷ seen)
room_suc {size} {room} {seen} e r lt new =
    let less : suc room - 1 ≡ room = omega arith in
    subst (λ n. Room size n (e ∷ seen)) less (room_less e r lt new)

-- where no room is left, every enode is seen
pub room_none : {size : ℕ} {seen : List ℕ} (e : ℕ) → Room size 0 seen → e < size → met e seen ≡ true
room_none {size} {seen} e r lt = full size seen r.distinct r.below (omega (arith, r.enough)) e lt

-- the enodes that the list's enodes link to are in it
abbrev pub Closed : Links → List ℕ → Type 0
Closed next w = (x : ℕ) (l : Link) → met x w ≡ true → next x ≡ Some l → met l.to w ≡ true

module _ (next : Links) (root : Option ℕ) (size : ℕ) where
  -- with enough room, a walk ends only as a visit of its enode says
  pub walk_visit : (room : ℕ) (seen : List ℕ) (e : ℕ) → Room size room seen → e < size → walk next root room seen e ≡ visit e (λ x. walk next root (room - 1) (e ∷ seen) x) (met e seen) (is_root root e) (next e)
  walk_visit zero seen e r lt = let m = room_none e r lt in rw m
  walk_visit (suc room) seen e r lt =
      let less : room ≡ suc room - 1 = omega arith in
      ap (λ n. visit e (λ x. walk next root n (e ∷ seen) x) (met e seen) (is_root root e) (next e)) less

  module _ (within : Within next size) where
    -- more room than enough changes nothing
    pub walk_same_room : (m n : ℕ) (seen : List ℕ) (e : ℕ) → Room size m seen → Room size n seen → e < size → walk next root m seen e ≡ walk next root n seen e
    walk_same_room zero n seen e r r' lt =
        sym (walk_again next root n seen e (room_none e r lt))
    walk_same_room (suc m) n seen e r r' lt =
        visit_same e (λ x. walk next root m (e ∷ seen) x) (λ x. walk next root (n - 1) (e ∷ seen) x) (met e seen) (is_root root e) (next e)
        (λ l new h. walk_same_room m (n - 1) (e ∷ seen) l.to (room_suc e r lt new) (room_less e r' lt new) (within e l h))
        ∙ sym (walk_visit n seen e r' lt)

    begins : (room : ℕ) (seen : List ℕ) (e : ℕ) → Room size room seen → e < size → (met e (walk next root room seen e).enodes || met e seen) ≡ true
    begins zero seen e r lt = room_none e r lt
    begins (suc room) seen e r lt = grind (arith, nat_tests)

    leads_on : (room : ℕ) (seen : List ℕ) (e : ℕ) → Room size room seen → e < size → (x : ℕ) (l : Link) → met x (walk next root room seen e).enodes ≡ true → next x ≡ Some l → is_root root x ≡ false → (met l.to (walk next root room seen e).enodes || met l.to seen) ≡ true
    leads_on zero seen e r lt x l h n nr = grind arith
    leads_on (suc room) seen e r lt x l h n nr =
        let rest = room_suc e r lt in
        let ih : (k : Link) → next e ≡ Some k → met e seen ≡ false → met x (walk next root room (e ∷ seen) k.to).enodes ≡ true → (met l.to (walk next root room (e ∷ seen) k.to).enodes || met l.to (e ∷ seen)) ≡ true = λ k q s m. leads_on room (e ∷ seen) k.to (rest s) (within e k q) x l m n nr in
        let bg : (k : Link) → next e ≡ Some k → met e seen ≡ false → (met k.to (walk next root room (e ∷ seen) k.to).enodes || met k.to (e ∷ seen)) ≡ true = λ k q s. begins room (e ∷ seen) k.to (rest s) (within e k q) in
        grind (arith, nat_tests, ih, bg)

    -- a root walk that does not come to its root is closed
    pub walk_closed : (e : ℕ) → e < size → ((x : ℕ) → met x (root_walk next size root e).enodes ≡ true → is_root root x ≡ false) → Closed next (root_walk next size root e).enodes
    walk_closed e lt rootless x l h n = grind (arith, leads_on size [] e (room_start size size (omega arith)) lt x l h n (rootless x h))

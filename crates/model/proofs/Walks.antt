-- What a walk meets, by the links that it follows. Assumes nothing.
use Rattle.std.proofs.Common.{◌≡◌, ℕ, zero, suc, ◌<◌, ◌≤◌, Bool, true, false, ◌||◌, eqb, List, [], ◌∷◌, ◌++◌, length, Some, None, Option, refl, ap, ◌∙◌, arith}
use Rattle.std.proofs.lemmas.Bool.Decides.{nat_tests}
use Rattle.model.specs.declared.items.Link.{Link}
use Rattle.model.specs.Walks.{Links, Walk, again, met, Distinct, is_root, visit, walk, root_walk, last}
use Rattle.model.proofs.Members.{Below, met_head, met_last}

-- the list is empty, or begins with e, and each enode links to the one after it
abbrev pub Follows : Links → ℕ → List ℕ → Type 0
Follows next e [] = Unit {0}
Follows next e (x ∷ []) = x ≡ e
Follows next e (x ∷ y ∷ ys) = (l : Link) × (next e ≡ Some l) × (x ≡ e) × Follows next l.to (y ∷ ys)

module _ (next : Links) where
  pub follows_head : (e x : ℕ) (xs : List ℕ) → Follows next e (x ∷ xs) → x ≡ e
  follows_head e x [] f = f
  follows_head e x (y ∷ ys) f = f.2

  follows_cons : (e : ℕ) (l : Link) (xs : List ℕ) → next e ≡ Some l → Follows next l.to xs → Follows next e (e ∷ xs)
  follows_cons e l [] h f = refl
  follows_cons e l (x ∷ xs) h f = (l, h, refl, f)

  -- an enode with one after it links to the next
  pub follows_on : (e x y : ℕ) (xs ys : List ℕ) → Follows next e (x ∷ (xs ++ (y ∷ ys))) → (l : Link) × (next e ≡ Some l) × (x ≡ e) × Follows next l.to (xs ++ (y ∷ ys))
  follows_on e x y [] ys f = f
  follows_on e x y (z ∷ zs) ys f = f

  -- what is left of it from an enode on
  pub follows_from : (e x : ℕ) (front back : List ℕ) → Follows next e (front ++ (x ∷ back)) → Follows next x (x ∷ back)
  follows_from e x [] [] f = refl
  follows_from e x [] (y ∷ ys) (l, h, same, more) = (l, rw same h, refl, more)
  follows_from e x (z ∷ zs) back f = let on = follows_on e z x zs back f in follows_from on.0.to x zs back on.3

-- the links' ends are below size
abbrev pub Within : Links → ℕ → Type 0
Within next size = (e : ℕ) (l : Link) → next e ≡ Some l → l.to < size

last_any : (x d d' : ℕ) (xs : List ℕ) → met x xs ≡ true → last d xs ≡ last d' xs
last_any x d d' [] h = grind arith
last_any x d d' (y ∷ ys) h = refl

-- two walks that go on alike from the link's end are alike
pub visit_same : (e : ℕ) (on on' : ℕ → Walk) (b r : Bool) (k : Option Link) → ((l : Link) → b ≡ false → k ≡ Some l → on l.to ≡ on' l.to) → visit e on b r k ≡ visit e on' b r k
visit_same e on on' b r k same = grind (arith, same)

module _ (next : Links) (root : Option ℕ) where
  abbrev walked : ℕ → List ℕ → ℕ → List ℕ
  walked room seen e = (walk next root room seen e).enodes

  -- what a walk meets, it had not seen
  pub walk_unseen : (room : ℕ) (seen : List ℕ) (e x : ℕ) → met x (walked room seen e) ≡ true → met x seen ≡ false
  walk_unseen zero seen e x h = grind arith
  walk_unseen (suc room) seen e x h = grind (arith, nat_tests, walk_unseen room (e ∷ seen))

  pub walk_distinct : (room : ℕ) (seen : List ℕ) (e : ℕ) → Distinct (walked room seen e)
  walk_distinct zero seen e = tt
  walk_distinct (suc room) seen e = grind (arith, nat_tests, walk_distinct room (e ∷ seen), walk_unseen room (e ∷ seen))

  pub walk_short : (room : ℕ) (seen : List ℕ) (e : ℕ) → length (walked room seen e) ≤ room
  walk_short zero seen e = omega arith
  walk_short (suc room) seen e = grind (arith, walk_short room (e ∷ seen))

  pub walk_follows : (room : ℕ) (seen : List ℕ) (e : ℕ) → Follows next e (walked room seen e)
  walk_follows zero seen e = tt
  walk_follows (suc room) seen e =
      let on : (l : Link) → next e ≡ Some l → Follows next e (e ∷ walked room (e ∷ seen) l.to) = λ l h. follows_cons next e l _ h (walk_follows room (e ∷ seen) l.to) in
      grind (arith, nat_tests, on)

  -- a walk ends before an enode that it has seen
  pub walk_again : (room : ℕ) (seen : List ℕ) (e : ℕ) → met e seen ≡ true → walk next root room seen e ≡ record { enodes = []; ending = again e }
  walk_again zero seen e h = refl
  walk_again (suc room) seen e h = rw h

  pub walk_below : (size room : ℕ) (seen : List ℕ) (e : ℕ) → Within next size → e < size → Below size (walked room seen e)
  walk_below size zero seen e within lt y h = grind arith
  walk_below size (suc room) seen e within lt y h =
      let ih : (l : Link) → next e ≡ Some l → met y (walked room (e ∷ seen) l.to) ≡ true → y < size = λ l k. walk_below size room (e ∷ seen) l.to within (within e l k) y in
      grind (arith, nat_tests, ih)

  -- the root is a walk's last enode
  pub root_last : (room : ℕ) (seen : List ℕ) (e x : ℕ) → met x (walked room seen e) ≡ true → is_root root x ≡ true → x ≡ last e (walked room seen e)
  root_last zero seen e x h r = grind arith
  root_last (suc room) seen e x h r =
      let any : (y : ℕ) → met x (walked room (e ∷ seen) y) ≡ true → last e (walked room (e ∷ seen) y) ≡ last y (walked room (e ∷ seen) y) = λ y. last_any x e y _ in
      grind (arith, nat_tests, root_last room (e ∷ seen), any)

  -- of what it has seen a walk knows only which enodes it has met
  pub walk_same_seen : (room : ℕ) (seen seen' : List ℕ) (e : ℕ) → ((x : ℕ) → met x seen ≡ met x seen') → walk next root room seen e ≡ walk next root room seen' e
  walk_same_seen zero seen seen' e same = refl
  walk_same_seen (suc room) seen seen' e same =
      let ih : (y : ℕ) → walk next root room (e ∷ seen) y ≡ walk next root room (e ∷ seen') y = λ y. walk_same_seen room (e ∷ seen) (e ∷ seen') y (λ x. ap (λ b. eqb x e || b) (same x)) in
      ap (λ b. visit e (λ x. walk next root room (e ∷ seen) x) b (is_root root e) (next e)) (same e)
      ∙ visit_same e (λ x. walk next root room (e ∷ seen) x) (λ x. walk next root room (e ∷ seen') x) (met e seen') (is_root root e) (next e) (λ l _ _. ih l.to)

  -- a root walk begins with its enode
  pub walk_begins : (size e : ℕ) → e < size → (xs : List ℕ) × ((root_walk next size root e).enodes ≡ e ∷ xs)
  walk_begins zero e lt = absurd (omega arith)
  walk_begins (suc room) e lt = go (is_root root e) (next e)
    where
      go : (r : Bool) (k : Option Link) → (xs : List ℕ) × ((visit e (λ x. walk next root room (e ∷ []) x) false r k).enodes ≡ e ∷ xs)
      go true k = ([], refl)
      go false None = ([], refl)
      go false (Some l) = ((walk next root room (e ∷ []) l.to).enodes, refl)

  pub walk_has_first : (size e : ℕ) → e < size → met e (root_walk next size root e).enodes ≡ true
  walk_has_first size e lt = let b = walk_begins size e lt in rw b.1 (met_head e b.0)

  pub walk_has_last : (size e : ℕ) → e < size → met (last e (root_walk next size root e).enodes) (root_walk next size root e).enodes ≡ true
  walk_has_last size e lt = let b = walk_begins size e lt in rw b.1 (met_last e b.0)

-- Ancestors, and the lists that have them. Assumes nothing.
use Rattle.std.proofs.Common.{◌≡◌, ℕ, true, List, [], ◌∷◌, sym, ◌∙◌, subst, inl, inr, arith}
use Rattle.std.proofs.lemmas.Bool.{cases_eq}
use Rattle.std.proofs.lemmas.Bool.Decides.{nat_tests}
use Rattle.model.specs.Walks.{Links, met, last}
use Rattle.model.specs.PathLaws.{Ancestor, itself, further}
use Rattle.model.proofs.Members.{met_last, split, last_append}
use Rattle.model.proofs.Walks.{Follows, follows_from}
use Rattle.model.proofs.Rooms.{Closed}

module _ (next : Links) where
  pub ancestor_trans : (x y z : ℕ) → Ancestor next x y → Ancestor next y z → Ancestor next x z
  ancestor_trans x y z (itself e) b = subst (λ u. Ancestor next u z) (sym e) b
  ancestor_trans x y z (further l h a) b = further l h (ancestor_trans l.to y z a b)

  -- a closed list has the ancestors of its enodes
  pub closed_ancestor : (w : List ℕ) → Closed next w → (x y : ℕ) → Ancestor next x y → met x w ≡ true → met y w ≡ true
  closed_ancestor w c x y (itself e) h = rw e at h
  closed_ancestor w c x y (further l k a) h = closed_ancestor w c l.to y a (c x l h k)

  -- what follows the links from e are ancestors of e
  pub follows_ancestor : (e x : ℕ) (xs : List ℕ) → Follows next e xs → met x xs ≡ true → Ancestor next e x
  follows_ancestor e x [] f h = absurd (grind arith)
  follows_ancestor e x (y ∷ []) f h = itself (grind (arith, nat_tests))
  follows_ancestor e x (y ∷ z ∷ zs) (l, k, same, more) h = elim (cases_eq x y) [
    | inl is ↦ itself (sym same ∙ sym is)
    | inr ne ↦ further l k (follows_ancestor l.to x (z ∷ zs) more (grind (arith, nat_tests)))
  ]

  -- and the last is an ancestor of each
  pub last_ancestor : (e x : ℕ) (xs : List ℕ) → Follows next e xs → met x xs ≡ true → Ancestor next x (last e xs)
  last_ancestor e x xs f h =
      let s = split x xs h in
      let on : Follows next x (x ∷ s.back) = follows_from next e x s.front s.back (rw s.is at f) in
      rw (s.is, last_append e x s.front s.back) (follows_ancestor x (last x s.back) (x ∷ s.back) on (met_last x s.back))

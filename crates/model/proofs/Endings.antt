-- Where a walk ends, and walks that are told their end. Assumes nothing.
use Rattle.std.proofs.Common.{◌≡◌, ℕ, zero, suc, ◌<◌, Bool, true, false, List, [], ◌∷◌, Some, None, Option, refl, ap, ◌∙◌, arith}
use Rattle.std.proofs.lemmas.Bool.Decides.{nat_tests}
use Rattle.model.specs.declared.items.Link.{Link}
use Rattle.model.specs.Walks.{Links, Walk, Ending, no_link, again, at_root, met, visit, walk, root_walk, last, NoCircle}
use Rattle.model.proofs.Walks.{walk_again}

-- the enode has no link, or one to itself
abbrev pub Terminal : Links → ℕ → Type 0
Terminal next r = (l : Link) → next r ≡ Some l → l.to ≡ r

-- what an ending says of the last enode's link
abbrev says : Ending → Option Link → Type 0
says no_link k = k ≡ None
says (again x) k = (l : Link) → k ≡ Some l → l.to ≡ x
says (at_root x) k = ⊥

module _ (next : Links) where
  abbrev SaysLast : ℕ → Walk → Type 0
  SaysLast p w = says w.ending (next (last p w.enodes))

  ending_says : (room : ℕ) (seen : List ℕ) (p : ℕ) (l : Link) → next p ≡ Some l → SaysLast p (walk next None room seen l.to)
  ending_says zero seen p l h = λ k q. cc
  ending_says (suc room) seen p l h = go (met l.to seen) (next l.to) refl (ending_says room (l.to ∷ seen) l.to)
    where
      go : (b : Bool) (k : Option Link) → next l.to ≡ k → ((j : Link) → next l.to ≡ Some j → SaysLast l.to (walk next None room (l.to ∷ seen) j.to)) →
          SaysLast p (visit l.to (λ x. walk next None room (l.to ∷ seen) x) b false k)
      go true k q ih = λ j r. cc
      go false None q ih = q
      go false (Some j) q ih = ih j q

  -- a walk without a circle ends at an enode that has no link, or one to itself
  pub walk_terminal : (size a : ℕ) → a < size → NoCircle a (root_walk next size None a) → Terminal next (last a (root_walk next size None a).enodes)
  walk_terminal zero a lt n = absurd (omega arith)
  walk_terminal (suc room) a lt n = go (next a) refl n
    where
      here : (o : Ending) (w : List ℕ) → says o (next (last a w)) → NoCircle a (record { enodes = a ∷ w; ending = o }) → Terminal next (last a w)
      here no_link w s n l q = absurd (cc)
      here (again x) w s n l q = s l q ∙ n
      here (at_root x) w s n l q = absurd s

      go : (k : Option Link) → next a ≡ k → NoCircle a (visit a (λ x. walk next None room (a ∷ []) x) false false k) → Terminal next (last a (visit a (λ x. walk next None room (a ∷ []) x) false false k).enodes)
      go None q n = λ l e. absurd (cc)
      go (Some l) q n = here (walk next None room (a ∷ []) l.to).ending (walk next None room (a ∷ []) l.to).enodes (ending_says room (a ∷ []) a l q) n

  -- a walk that is told such an enode as root meets the same
  pub walk_told : (r : ℕ) → Terminal next r → (room : ℕ) (seen : List ℕ) (e : ℕ) → (walk next (Some r) room seen e).enodes ≡ (walk next None room seen e).enodes
  walk_told r t zero seen e = refl
  walk_told r t (suc room) seen e =
      let ag : (y : ℕ) → met y (e ∷ seen) ≡ true → (walk next None room (e ∷ seen) y).enodes ≡ [] = λ y h. ap (λ (w : Walk). w.enodes) (walk_again next None room (e ∷ seen) y h) in
      grind (arith, nat_tests, walk_told r t room (e ∷ seen), ag, t)

-- A walk that has met some enodes and comes to the next: the four ways in which it goes on. Assumes nothing.
use Rattle.std.proofs.Common.{◌≡◌, ℕ, ◌-◌, ◌<◌, true, false, List, [], ◌∷◌, ◌++◌, reverse, length, Some, None, Option, sym, refl, ap, ◌∙◌, append_assoc, append-nil, arith}
use Rattle.std.proofs.lemmas.List.{reverse-append, length-reverse, length_push}
use Rattle.std.proofs.lemmas.Bool.Decides.{nat_tests}
use Rattle.model.specs.declared.items.Link.{Link}
use Rattle.model.specs.Walks.{Links, Walk, no_link, again, at_root, met, Distinct, is_root, visit, walk, root_walk}
use Rattle.model.proofs.Members.{Below, met_append, met_reverse, distinct_append, distinct_reverse}
use Rattle.model.proofs.Walks.{walk_again}
use Rattle.model.proofs.Rooms.{Room, walk_visit}

-- those enodes, and then the walk
abbrev pub after : List ℕ → Walk → Walk
after done w = record { enodes = done ++ w.enodes; ending = w.ending }

after_cons : (done : List ℕ) (e : ℕ) (w : Walk) → after done (record { enodes = e ∷ w.enodes; ending = w.ending }) ≡ after (done ++ (e ∷ [])) w
after_cons done e w = ap (λ xs. record { enodes = xs; ending = w.ending }) (sym (append_assoc done (e ∷ []) w.enodes))

-- the whole walk, where it has met `done`, oldest first, and comes to e
abbrev pub resume : Links → Option ℕ → ℕ → List ℕ → ℕ → Walk
resume next root size done e = after done (walk next root (size - length done) (reverse done) e)

-- the enodes that a walk has met: none twice, and each below size
pub record Partway (size : ℕ) (done : List ℕ) : Type 0 where
  pub distinct : Distinct done
  pub below : Below size done

pub partway_start : (size : ℕ) → Partway size []
partway_start size = record { distinct = tt; below = λ y m. grind arith }

pub partway_more : (size : ℕ) (done : List ℕ) (e : ℕ) → Partway size done → e < size → met e done ≡ false → Partway size (done ++ (e ∷ []))
partway_more size done e p lt new = record {
  distinct = distinct_append done (e ∷ []) p.distinct (refl, tt) (λ z h. grind (arith, nat_tests));
  below = λ y m. grind (arith, nat_tests, met_append y done (e ∷ []), p.below y);
}

partway_room : (size : ℕ) (done : List ℕ) → Partway size done → Room size (size - length done) (reverse done)
partway_room size done p = record {
  distinct = distinct_reverse done p.distinct;
  below = λ y m. p.below y (sym (met_reverse y done) ∙ m);
  enough = omega (arith, length-reverse done);
}

module _ (next : Links) (root : Option ℕ) (size : ℕ) where
  pub resume_start : (e : ℕ) → resume next root size [] e ≡ root_walk next size root e
  resume_start e = let none : size - 0 ≡ size = omega arith in ap (λ n. walk next root n [] e) none

  module _ (done : List ℕ) (e : ℕ) where
    pub resume_again : met e done ≡ true → resume next root size done e ≡ record { enodes = done; ending = again e }
    resume_again h =
        ap (after done) (walk_again next root (size - length done) (reverse done) e (met_reverse e done ∙ h))
        ∙ ap (λ xs. record { enodes = xs; ending = again e }) (append-nil done)

    module _ (p : Partway size done) (lt : e < size) (new : met e done ≡ false) where
      visited : walk next root (size - length done) (reverse done) e ≡ visit e (λ x. walk next root (size - length done - 1) (e ∷ reverse done) x) false (is_root root e) (next e)
      visited = walk_visit next root size (size - length done) (reverse done) e (partway_room size done p) lt ∙ rw (met_reverse e done, new)

      pub resume_stops : is_root root e ≡ true → resume next root size done e ≡ record { enodes = done ++ (e ∷ []); ending = at_root e }
      resume_stops h = ap (after done) (visited ∙ rw h)

      pub resume_ends : is_root root e ≡ false → next e ≡ None → resume next root size done e ≡ record { enodes = done ++ (e ∷ []); ending = no_link }
      resume_ends h k = ap (after done) (visited ∙ rw (h, k))

      pub resume_goes_on : (l : Link) → is_root root e ≡ false → next e ≡ Some l → resume next root size done e ≡ resume next root size (done ++ (e ∷ [])) l.to
      resume_goes_on l h k =
          let less : size - length done - 1 ≡ size - length (done ++ (e ∷ [])) = omega (arith, length_push done e) in
          ap (after done) (visited ∙ rw (h, k))
          ∙ after_cons done e (walk next root (size - length done - 1) (e ∷ reverse done) l.to)
          ∙ (λ i. after (done ++ (e ∷ [])) (walk next root (less i) (sym (reverse-append done (e ∷ [])) i) l.to))

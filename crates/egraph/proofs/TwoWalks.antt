-- The two walks of a pair, one behind the other in the scratch. Assumes nothing.
use Rattle.std.proofs.Common.{◌≡◌, ℕ, ◌+◌, ◌-◌, ◌*◌, ◌<◌, ◌≤◌, List, [], ◌∷◌, ◌++◌, length, get_or, take, drop, Some, None, Option, sym, refl, ap, ◌∙◌, subst, zero-add, arith}
use lib.Seq.{take-append_seam, drop-append_seam}
use Rattle.std.proofs.lemmas.List.{get_or_append_left, get_or-append-add, length-take-le}
use Rattle.std.proofs.lemmas.Bool.{eq-eqb, ne_eqb}
use Rattle.model.specs.declared.items.Pair.{Pair}
use Rattle.model.specs.Walks.{Links, root_walk, last}
use Rattle.model.specs.Paths.{path, join, some_if, shared}
use Rattle.model.specs.WalkCalls.{placed}
use Rattle.model.proofs.Walks.{walk_short, walk_begins}
use Rattle.egraph.specs.declared.simple_path.SimplePath.{SimplePath}
use Rattle.egraph.specs.SimplePath.{first_part, second_part, walk_from, walk_to, FoundPath}
use Rattle.egraph.proofs.Places.{placed_length}

last_at : (x : ℕ) (xs : List ℕ) → get_or (x ∷ xs) (length xs) 0 ≡ last x xs
last_at x [] = refl
last_at x (y ∷ ys) = last_at y ys

-- the last of a list is behind all others
end_at : (e : ℕ) (xs ys : List ℕ) → xs ≡ e ∷ ys → get_or xs (length xs - 1) 0 ≡ last e xs
end_at e xs ys is =
    let place : length xs - 1 ≡ length ys = omega (arith, ap length is) in
    (λ i. get_or (is i) (place i) 0) ∙ last_at e ys ∙ ap (last e) (sym is)

module _ (next : Links) (size : ℕ) (root : Option ℕ) (e : ℕ) (low : e < size) where
  abbrev W : List ℕ
  W = (root_walk next size root e).enodes

  pub walk_some : 0 < length W
  walk_some = let b = walk_begins next root size e low in omega (arith, ap length b.1)

  pub walk_few : length W ≤ size
  walk_few = walk_short next root size [] e

  walk_end : get_or W (length W - 1) 0 ≡ last e W
  walk_end = let b = walk_begins next root size e low in end_at e W b.0 b.1

  -- a walk written from `base` on
  module _ (base : ℕ) (out : List ℕ) (fits : base + size ≤ length out) where
    front : take base (placed base W out) ≡ take base out
    front =
        let long = length-take-le base out (omega arith) in
        ap (λ n. take n (placed base W out)) (sym long) ∙ take-append_seam (take base out) (W ++ drop (base + length W) out)

    behind : drop base (placed base W out) ≡ W ++ drop (base + length W) out
    behind =
        let long = length-take-le base out (omega arith) in
        ap (λ n. drop n (placed base W out)) (sym long) ∙ drop-append_seam (take base out) (W ++ drop (base + length W) out)

    pub written_part : second_part base (length W) (placed base W out) ≡ W
    written_part = ap (take (length W)) behind ∙ take-append_seam W (drop (base + length W) out)

    pub written_end : get_or (placed base W out) (base + (length W - 1)) 0 ≡ last e W
    written_end =
        let long = length-take-le base out (omega arith) in
        ap (λ n. get_or (placed base W out) (n + (length W - 1)) 0) (sym long)
        ∙ get_or-append-add (take base out) (W ++ drop (base + length W) out) (length W - 1) 0
        ∙ get_or_append_left W (drop (base + length W) out) 0 (length W - 1) (omega (arith, walk_some))
        ∙ walk_end

    pub written_front : first_part base (placed base W out) ≡ first_part base out
    written_front = front

    pub written_length : length (placed base W out) ≡ length out
    written_length = placed_length base W out (omega (arith, walk_few))

module _ (next : Links) (size : ℕ) (p : Pair) (in_f : p.from < size) (in_t : p.to < size) (before : List ℕ) (fits : 2 * size ≤ length before) where
  abbrev F : List ℕ
  F = walk_from next size p

  abbrev T : List ℕ
  T = walk_to next size p

  abbrev once : List ℕ
  once = placed 0 F before

  abbrev twice : List ℕ
  twice = placed (length F) T once

  first_fits : 0 + size ≤ length before
  first_fits = omega arith

  once_long : length once ≡ length before
  once_long = written_length next size None p.from in_f 0 before first_fits

  second_fits : length F + size ≤ length once
  second_fits = omega (arith, once_long, walk_few next size None p.from in_f)

  -- where the first walk ends
  pub first_end : get_or once (length F - 1) 0 ≡ last p.from F
  first_end = ap (λ n. get_or once n 0) (sym (zero-add (length F - 1))) ∙ written_end next size None p.from in_f 0 before first_fits

  pub first_stands : first_part (length F) twice ≡ F
  first_stands = written_front next size (Some (last p.from F)) p.to in_t (length F) once second_fits ∙ written_part next size None p.from in_f 0 before first_fits

  pub second_stands : second_part (length F) (length T) twice ≡ T
  second_stands = written_part next size (Some (last p.from F)) p.to in_t (length F) once second_fits

  pub second_end : get_or twice (length F + length T - 1) 0 ≡ last p.to T
  second_end =
      let place : length F + length T - 1 ≡ length F + (length T - 1) = omega (arith, walk_some next size (Some (last p.from F)) p.to in_t) in
      ap (λ n. get_or twice n 0) place ∙ written_end next size (Some (last p.from F)) p.to in_t (length F) once second_fits

  pub twice_long : length twice ≡ length before
  twice_long = written_length next size (Some (last p.from F)) p.to in_t (length F) once second_fits ∙ once_long

  pub both_fit : length F + length T ≤ length twice
  both_fit = omega (arith, twice_long, walk_few next size None p.from in_f, walk_few next size (Some (last p.from F)) p.to in_t)

  pub no_path : (last p.to T ≡ last p.from F → ⊥) → path next size p.from p.to ≡ None
  no_path other = ap (λ b. some_if b (join next F T)) (ne_eqb (last p.from F) (last p.to T) (λ q. other (sym q)))

  pub path_stands : last p.to T ≡ last p.from F → (s : SimplePath) → s.from_to_root ≡ length F → s.to_to_root ≡ length T → s.shared ≡ shared (first_part (length F) twice) (second_part (length F) (length T) twice) → FoundPath next size p twice s
  path_stands same s f t n = record {
    within = omega (arith, both_fit);
    first = ap (λ k. first_part k twice) f ∙ first_stands;
    second = (λ i. second_part (f i) (t i) twice) ∙ second_stands;
    tail = n ∙ (λ i. shared (first_stands i) (second_stands i));
    is = ap (λ b. some_if b (join next F T)) (eq-eqb (last p.from F) (last p.to T) (sym same));
  }

  -- the same of what the code holds after the first walk
  module _ (n : ℕ) (out : List ℕ) (is : n ≡ length F) (wrote : out ≡ once) where
    pub root_is : get_or out (n - 1) 0 ≡ last p.from F
    root_is = (λ i. get_or (wrote i) (is i - 1) 0) ∙ first_end

    -- and after the second
    module _ (m : ℕ) (out' : List ℕ) (is' : m ≡ length (root_walk next size (Some (get_or out (n - 1) 0)) p.to).enodes) (wrote' : out' ≡ placed n (root_walk next size (Some (get_or out (n - 1) 0)) p.to).enodes out) where
      second_is : m ≡ length T
      second_is = is' ∙ ap (λ r. length (root_walk next size (Some r) p.to).enodes) root_is

      second_wrote : out' ≡ twice
      second_wrote = wrote' ∙ (λ i. placed (is i) (root_walk next size (Some (root_is i)) p.to).enodes (wrote i))

      end_is : get_or out' (n + m - 1) 0 ≡ last p.to T
      end_is = (λ i. get_or (second_wrote i) (is i + second_is i - 1) 0) ∙ second_end

      pub roots_differ : (get_or out' (n + m - 1) 0 ≡ get_or out (n - 1) 0 → ⊥) → path next size p.from p.to ≡ None
      roots_differ other = no_path (λ q. other (end_is ∙ q ∙ sym root_is))

      pub roots_meet : get_or out' (n + m - 1) 0 ≡ get_or out (n - 1) 0 → (s : SimplePath) → s.from_to_root ≡ n → s.to_to_root ≡ m → s.shared ≡ shared (first_part n out') (second_part n m out') → FoundPath next size p out' s
      roots_meet same s f t tail =
          let stands = path_stands (sym end_is ∙ same ∙ root_is) s (f ∙ is) (t ∙ second_is)
          (tail ∙ (λ i. shared (first_part (is i) (second_wrote i)) (second_part (is i) (second_is i) (second_wrote i)))) in
          subst (λ w. FoundPath next size p w s) (sym second_wrote) stands

-- A path that was found over two walks, step by step. Assumes nothing.
use Rattle.std.proofs.Common.{◌≡◌, ℕ, ◌+◌, ◌-◌, ◌<◌, ◌≤◌, Bool, List, [], ◌++◌, length, take, drop, Some, None, Option, sym, refl, ap, ◌∙◌, arith}
use Rattle.std.proofs.lemmas.List.{length-append, length-take-le, length-drop, take-take, get_or-take}
use Rattle.model.specs.declared.items.Pair.{Pair}
use Rattle.model.specs.declared.items.Step.{Step}
use Rattle.model.specs.Walks.{Links, links, last}
use Rattle.model.specs.Paths.{path, join, shared, without_last}
use Rattle.model.specs.WalkCalls.{placed, told_path}
use Rattle.model.specs.Records.{Given}
use Rattle.model.specs.PathLaws.{EndsKnown}
use Rattle.model.proofs.Members.{Below}
use Rattle.model.proofs.Links.{link_within}
use Rattle.model.proofs.Walks.{Within, walk_below}
use Rattle.model.proofs.PathLaws.{walks_lawful}
use Rattle.egraph.specs.declared.simple_path.SimplePath.{SimplePath}
use Rattle.egraph.specs.SimplePath.{walk_from, walk_to, FoundPath, AllBelow, rising_steps, falling_steps}
use Rattle.egraph.proofs.PathSteps.{path_short, placed_twice, below_at}
use Rattle.egraph.proofs.StepPlaces.{rising_long, falling_long}

module _ (next : Links) (size : ℕ) (p : Pair) (walks : List ℕ) (s : SimplePath) (f : FoundPath next size p walks s) where
  abbrev F : List ℕ
  F = walk_from next size p

  abbrev T : List ℕ
  T = walk_to next size p

  first_long : length F ≡ s.from_to_root
  first_long = ap length (sym f.first) ∙ length-take-le s.from_to_root walks (omega (arith, f.within))

  second_long : length T ≡ s.to_to_root
  second_long = ap length (sym f.second) ∙ length-take-le s.to_to_root (drop s.from_to_root walks) (omega (arith, f.within, length-drop s.from_to_root walks))

  module _ (n m : ℕ) (up_is : n ≡ s.from_to_root - s.shared) (down_is : m ≡ s.to_to_root - s.shared) where
    -- the enodes that the path leaves on its way up
    rising_part : take n walks ≡ without_last (shared F T) F
    rising_part =
        let count : n ≡ length F - shared F T = omega (arith, first_long, f.tail) in
        sym (take-take n s.from_to_root walks (omega arith)) ∙ ap (take n) f.first ∙ ap (λ k. take k F) count

    -- and those that it comes to on its way down
    falling_part : take m (drop s.from_to_root walks) ≡ without_last (shared F T) T
    falling_part =
        let count : m ≡ length T - shared F T = omega (arith, second_long, f.tail) in
        sym (take-take m s.to_to_root (drop s.from_to_root walks) (omega arith)) ∙ ap (take m) f.second ∙ ap (λ k. take k T) count

    rising_known : Below size F → AllBelow size (take n walks)
    rising_known below k lt =
        let short = length-take-le n F (omega (arith, first_long)) in
        let same : take n walks ≡ take n F = sym (take-take n s.from_to_root walks (omega arith)) ∙ ap (take n) f.first in
        let low : k < n = omega (arith, ap length same) in
        rw (same, get_or-take n F k 0 low) (below_at size F below k (omega (arith, first_long)))

    falling_known : Below size T → AllBelow size (take m (drop s.from_to_root walks))
    falling_known below k lt =
        let short = length-take-le m T (omega (arith, second_long)) in
        let same : take m (drop s.from_to_root walks) ≡ take m T = sym (take-take m s.to_to_root (drop s.from_to_root walks) (omega arith)) ∙ ap (take m) f.second in
        let low : k < m = omega (arith, ap length same) in
        rw (same, get_or-take m T k 0 low) (below_at size T below k (omega (arith, second_long)))

    rising_count : length (take n walks) ≡ n
    rising_count = length-take-le n walks (omega (arith, f.within))

    falling_count : length (take m (drop s.from_to_root walks)) ≡ m
    falling_count = length-take-le m (drop s.from_to_root walks) (omega (arith, f.within, length-drop s.from_to_root walks))

    steps_are : rising_steps next (take n walks) ++ falling_steps next (take m (drop s.from_to_root walks)) ≡ (join next F T).steps
    steps_are = (λ i. rising_steps next (rising_part i) ++ falling_steps next (falling_part i))

    steps_long : length (join next F T).steps ≡ n + m
    steps_long =
        ap length (sym steps_are) ∙ length-append (rising_steps next (take n walks)) _
        ∙ (λ i. (rising_long next (take n walks) ∙ rising_count) i + (falling_long next (take m (drop s.from_to_root walks)) ∙ falling_count) i)

    steps_written : (base count : ℕ) → base ≡ n → count ≡ n + m → (out once twice : List Step) → n + m ≤ length out → once ≡ placed 0 (rising_steps next (take n walks)) out → twice ≡ placed base (falling_steps next (take m (drop s.from_to_root walks))) once →
        ◌≡◌ {A = Option ℕ × List Step} (Some count, twice) (told_path (path next size p.from p.to) out)
    steps_written base count at is out once twice fits first second =
        let R = rising_steps next (take n walks) in
        let L = falling_steps next (take m (drop s.from_to_root walks)) in
        let r_long = rising_long next (take n walks) ∙ rising_count in
        let l_long = falling_long next (take m (drop s.from_to_root walks)) ∙ falling_count in
        let all : twice ≡ placed 0 (join next F T).steps out =
        second ∙ ap (placed base L) first ∙ placed_twice R L out base (at ∙ sym r_long) (omega arith) ∙ ap (λ ss. placed 0 ss out) steps_are in
        let long : count ≡ length (join next F T).steps = is ∙ sym steps_long in
        (λ i. (Some (long i), all i)) ∙ ap (λ o. told_path o out) (sym f.is)

-- the same over the links of givens whose ends are on the books
module _ (counts : ℕ → Bool) (gs : List Given) (size : ℕ) (known : EndsKnown gs size) (p : Pair) (in_f : p.from < size) (in_t : p.to < size) (walks : List ℕ) (s : SimplePath) (f : FoundPath (links counts gs) size p walks s) (n m : ℕ) (up_is : n ≡ s.from_to_root - s.shared) (down_is : m ≡ s.to_to_root - s.shared) where
  within : Within (links counts gs) size
  within e l h = link_within counts gs e l h size known

  few_steps : n + m < size
  few_steps =
      let laws = walks_lawful counts gs size known in
      omega (arith, path_short counts gs size laws known p.from p.to in_f in_t _ f.is, steps_long (links counts gs) size p walks s f n m up_is down_is)

  -- what the two parts are that the path's steps are written from, and that they are the path's
  pub record Parts : Type 0 where
    pub up_known : AllBelow size (take n walks)
    pub up_few : length (take n walks) < size
    pub down_known : AllBelow size (take m (drop s.from_to_root walks))
    pub down_few : n + length (take m (drop s.from_to_root walks)) < size
    pub written : (count : ℕ) → count ≡ n + m → (out once twice : List Step) → size ≤ length out → once ≡ placed 0 (rising_steps (links counts gs) (take n walks)) out → twice ≡ placed n (falling_steps (links counts gs) (take m (drop s.from_to_root walks))) once →
        ◌≡◌ {A = Option ℕ × List Step} (Some count, twice) (told_path (path (links counts gs) size p.from p.to) out)

  pub path_parts : Parts
  path_parts = record {
    up_known = rising_known (links counts gs) size p walks s f n m up_is down_is (walk_below (links counts gs) None size size [] p.from within in_f);
    up_few = omega (arith, few_steps, rising_count (links counts gs) size p walks s f n m up_is down_is);
    down_known = falling_known (links counts gs) size p walks s f n m up_is down_is (walk_below (links counts gs) (Some (last p.from (walk_from (links counts gs) size p))) size size [] p.to within in_t);
    down_few = omega (arith, few_steps, falling_count (links counts gs) size p walks s f n m up_is down_is);
    written = λ count at out once twice fits. steps_written (links counts gs) size p walks s f n m up_is down_is n count refl at out once twice (omega (arith, few_steps));
  }

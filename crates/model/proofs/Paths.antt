-- The path that joins two lists that come together, and the path of a pair. Assumes nothing.
use Rattle.std.proofs.Common.{◌≡◌, ℕ, ◌<◌, List, [], ◌∷◌, ◌++◌, map, reverse, Some, None, Option, sym, ap, ◌∙◌, subst, append_assoc, arith}
use Rattle.std.proofs.lemmas.List.{map-append}
use Rattle.std.proofs.lemmas.Bool.{eq-eqb}
use Rattle.std.proofs.lemmas.Bool.Decides.{nat_tests}
use Rattle.model.specs.declared.items.Link.{Link}
use Rattle.model.specs.declared.items.Step.{Step}
use Rattle.model.specs.Records.{Given, turned}
use Rattle.model.specs.Walks.{Links, Distinct, root_walk, last}
use Rattle.model.specs.Paths.{Path, up, join, path}
use Rattle.model.specs.PathLaws.{arrival, Joins, meets, Climbs}
use Rattle.model.proofs.Members.{Apart, met_append, met_reverse, distinct_append, distinct_parts, distinct_reverse}
use Rattle.model.proofs.Links.{Linked}
use Rattle.model.proofs.Walks.{Follows, walk_follows, walk_distinct, walk_begins, walk_has_last}
use Rattle.model.proofs.Steps.{turned_append, turned_turned, joins_append, joins_turned, meets_arrivals, arrivals_turned, climb, climbs_join, climb_starts, climb_meets}
use Rattle.model.proofs.Strikes.{Reduced, reduce, reduce_reduced, reduce_append, reduce_back}
use Rattle.model.proofs.Confluence.{Confluent, confluent_sym, confluent, join_over}

-- two lists that follow the links from a and from b, have no enode twice and come together
pub record Meeting (next : Links) (a b : ℕ) (f t : List ℕ) : Type 0 where
  pub from_first : Follows next a f
  pub from_second : Follows next b t
  pub once_first : Distinct f
  pub once_second : Distinct t
  pub together : Confluent f t

-- the path back is the path read from its other end
pub join_turned : (next : Links) {f t : List ℕ} → Confluent f t → (join next t f).steps ≡ turned (join next f t).steps
join_turned next m =
    let rising = map (up next) m.rising in
    let falling = map (up next) m.falling in
    ap (λ (p : Path). p.steps) (join_over next (confluent_sym m))
    ∙ ap (λ r. r ++ turned rising) (sym (turned_turned falling))
    ∙ sym (turned_append rising (turned falling))
    ∙ ap (λ (p : Path). turned p.steps) (sym (join_over next m))

module _ {next : Links} {a b : ℕ} {f t : List ℕ} (m : Meeting next a b f t) where
  abbrev rising : List ℕ
  rising = m.together.rising

  abbrev falling : List ℕ
  falling = m.together.falling

  abbrev top : ℕ
  top = m.together.top

  abbrev tail : List ℕ
  tail = m.together.tail

  pub rising_follows : Follows next a (rising ++ (top ∷ tail))
  rising_follows = subst (Follows next a) m.together.first_is m.from_first

  pub falling_follows : Follows next b (falling ++ (top ∷ tail))
  falling_follows = subst (Follows next b) m.together.second_is m.from_second

  pub rises : Climbs next (map (up next) rising) a top
  rises = climb next a top rising tail rising_follows

  pub falls : Climbs next (map (up next) falling) b top
  falls = climb next b top falling tail falling_follows

  pub join_distinct : Distinct (join next f t).enodes
  join_distinct =
      let first : Distinct ((rising ++ (top ∷ [])) ++ tail) = subst Distinct (m.together.first_is ∙ sym (append_assoc rising (top ∷ []) tail)) m.once_first in
      let second = distinct_parts falling (top ∷ tail) (subst Distinct m.together.second_is m.once_second) in
      let apart : Apart (rising ++ (top ∷ [])) (reverse falling) = λ z h. grind (arith, nat_tests, met_append z rising (top ∷ []), met_reverse z falling, m.together.apart z, second.2 z) in
      subst (λ (p : Path). Distinct p.enodes) (sym (join_over next m.together))
      (distinct_append (rising ++ (top ∷ [])) (reverse falling) (distinct_parts (rising ++ (top ∷ [])) tail first).0 (distinct_reverse falling second.0) apart)

  -- as words, up the first list and down the second
  pub join_reduces : (w : List Step) → Reduced w → reduce (join next f t).steps w ≡ reduce (map (up next) f) (reduce (turned (map (up next) t)) w)
  join_reduces w c =
      let R = map (up next) rising in
      let L = map (up next) falling in
      let K = map (up next) (top ∷ tail) in
      let first : map (up next) f ≡ R ++ K = ap (map (up next)) m.together.first_is ∙ map-append (up next) rising (top ∷ tail) in
      let second : map (up next) t ≡ L ++ K = ap (map (up next)) m.together.second_is ∙ map-append (up next) falling (top ∷ tail) in
      let back = reduce (turned L) w in
      ap (λ (p : Path). reduce p.steps w) (join_over next m.together)
      ∙ reduce_append R (turned L) w
      ∙ ap (reduce R) (sym (reduce_back K back (reduce_reduced (turned L) w c)))
      ∙ sym (reduce_append R K (reduce (turned K) back))
      ∙ ap (reduce (R ++ K)) (sym (reduce_append (turned K) (turned L) w) ∙ ap (λ r. reduce r w) (sym (turned_append L K)))
      ∙ (λ i. reduce (sym first i) (reduce (turned (sym second i)) w))

  module _ (gs : List Given) (ok : (e : ℕ) (l : Link) → next e ≡ Some l → Linked gs e l) where
    pub join_joins : Joins gs (join next f t).steps a b
    join_joins =
        subst (λ (p : Path). Joins gs p.steps a b) (sym (join_over next m.together))
        (joins_append gs (map (up next) rising) (turned (map (up next) falling)) a top b (climbs_join next gs ok (map (up next) rising) a top rises)
        (joins_turned gs (map (up next) falling) b top (climbs_join next gs ok (map (up next) falling) b top falls)))

    pub join_meets : meets gs a (join next f t).steps ≡ (join next f t).enodes
    join_meets =
        let R = map (up next) rising in
        let L = map (up next) falling in
        ap (λ (p : Path). meets gs a p.steps) (join_over next m.together)
        ∙ meets_arrivals gs a (R ++ turned L)
        ∙ ap (λ r. a ∷ r) (map-append (arrival gs) R (turned L))
        ∙ ap (λ r. r ++ map (arrival gs) (turned L)) (sym (meets_arrivals gs a R) ∙ climb_meets next gs ok a top rising tail rising_follows)
        ∙ ap (λ r. (rising ++ (top ∷ [])) ++ r) (arrivals_turned gs L ∙ ap reverse (climb_starts next gs ok b top falling tail falling_follows))
        ∙ ap (λ (p : Path). p.enodes) (sym (join_over next m.together))

-- the walk with no root, and the one that is told its last enode as root
abbrev pub first_walk : Links → ℕ → ℕ → List ℕ
first_walk next size a = (root_walk next size None a).enodes

abbrev pub second_walk : Links → ℕ → ℕ → ℕ → List ℕ
second_walk next size a b = (root_walk next size (Some (last a (first_walk next size a))) b).enodes

-- a pair has a path exactly when these end alike
pub record Found (next : Links) (size a b : ℕ) (p : Path) : Type 0 where
  pub ends : last a (first_walk next size a) ≡ last b (second_walk next size a b)
  pub is : p ≡ join next (first_walk next size a) (second_walk next size a b)

pub path_found : (next : Links) (size a b : ℕ) (p : Path) → path next size a b ≡ Some p → Found next size a b p
path_found next size a b p h = record { ends = grind (arith, nat_tests); is = grind (arith, nat_tests) }

pub path_made : (next : Links) (size a b : ℕ) → last a (first_walk next size a) ≡ last b (second_walk next size a b) → path next size a b ≡ Some (join next (first_walk next size a) (second_walk next size a b))
path_made next size a b h = rw (eq-eqb _ _ h)

-- root walks of two enodes that end alike come together
pub walks_meet : (next : Links) (size : ℕ) (root root' : Option ℕ) (a b : ℕ) → a < size → b < size →
    last a (root_walk next size root a).enodes ≡ last b (root_walk next size root' b).enodes →
    Meeting next a b (root_walk next size root a).enodes (root_walk next size root' b).enodes
walks_meet next size root root' a b la lb ends =
    let f = (root_walk next size root a).enodes in
    let t = (root_walk next size root' b).enodes in
    let first = walk_begins next root size a la in
    let from_a = walk_follows next root size [] a in
    let from_b = walk_follows next root' size [] b in
    let once_a = walk_distinct next root size [] a in
    let once_b = walk_distinct next root' size [] b in
    let alike : last a first.0 ≡ last b t = ap (last a) (sym first.1) ∙ ends in
    record {
      from_first = from_a;
      from_second = from_b;
      once_first = once_a;
      once_second = once_b;
      together =
          subst (λ w. Confluent w t) (sym first.1)
          (confluent next b t from_b once_b a a first.0 (subst (Follows next a) first.1 from_a) (subst Distinct first.1 once_a) alike (rw alike (walk_has_last next root' size b lb)));
    }

-- the path of a pair joins it
pub path_joins : (next : Links) (size : ℕ) (gs : List Given) → ((e : ℕ) (l : Link) → next e ≡ Some l → Linked gs e l) → (a b : ℕ) → a < size → b < size → (p : Path) → path next size a b ≡ Some p →
    Joins gs p.steps a b × (meets gs a p.steps ≡ p.enodes) × Distinct p.enodes
path_joins next size gs ok a b la lb p h =
    let found = path_found next size a b p h in
    let m = walks_meet next size None (Some (last a (first_walk next size a))) a b la lb found.ends in
    subst (λ (q : Path). Joins gs q.steps a b × (meets gs a q.steps ≡ q.enodes) × Distinct q.enodes) (sym found.is)
    (join_joins m gs ok, join_meets m gs ok, join_distinct m)

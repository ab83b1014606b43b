-- Steps read from the other end, the enodes that steps meet, and steps that climb. Assumes nothing.
use Rattle.std.proofs.Common.{◌≡◌, ℕ, Bool, true, List, [], ◌∷◌, ◌++◌, map, reverse, Some, sym, refl, ap, ◌∙◌, subst, arith}
use mathlib.Core.List.{reverse-cons, reverse-append}
use Rattle.std.proofs.lemmas.List.{map-append}
use Rattle.model.specs.declared.items.Link.{Link}
use Rattle.model.specs.declared.items.Step.{Step}
use Rattle.model.specs.Records.{Given, turn_step, turned}
use Rattle.model.specs.Walks.{Links}
use Rattle.model.specs.Paths.{up, given_of}
use Rattle.model.specs.PathLaws.{start, arrival, Joins, meets, Climbs}
use Rattle.model.proofs.Links.{Linked}
use Rattle.model.proofs.Walks.{Follows, follows_head, follows_on}

abbrev pub step : ℕ → Bool → Step
step g way = record { given = g; forward = way }

pub turn_turn : (s : Step) → turn_step (turn_step s) ≡ s
turn_turn s = grind arith

pub turned_append : (xs ys : List Step) → turned (xs ++ ys) ≡ turned ys ++ turned xs
turned_append xs ys = rw (reverse-append, map-append)

pub turned_cons : (s : Step) (ss : List Step) → turned (s ∷ ss) ≡ turned ss ++ (turn_step s ∷ [])
turned_cons s ss = turned_append (s ∷ []) ss

pub turned_turned : (ss : List Step) → turned (turned ss) ≡ ss
turned_turned [] = refl
turned_turned (s ∷ ss) = ap turned (turned_cons s ss) ∙ turned_append (turned ss) (turn_step s ∷ []) ∙ cc (turn_turn s, turned_turned ss)

module _ (gs : List Given) where
  start_turn : (s : Step) → start gs (turn_step s) ≡ arrival gs s
  start_turn s = grind arith

  pub arrival_turn : (s : Step) → arrival gs (turn_step s) ≡ start gs s
  arrival_turn s = grind arith

  pub joins_append : (xs ys : List Step) (x y z : ℕ) → Joins gs xs x y → Joins gs ys y z → Joins gs (xs ++ ys) x z
  joins_append [] ys x y z h k = rw h k
  joins_append (s ∷ xs) ys x y z h k = (h.0, h.1, joins_append xs ys (arrival gs s) y z h.2 k)

  pub joins_turned : (ss : List Step) (x y : ℕ) → Joins gs ss x y → Joins gs (turned ss) y x
  joins_turned [] x y h = sym h
  joins_turned (s ∷ ss) x y h =
      rw turned_cons (joins_append (turned ss) (turn_step s ∷ []) y (arrival gs s) x (joins_turned ss (arrival gs s) y h.2) (h.0, start_turn s, arrival_turn s ∙ h.1))

  pub meets_arrivals : (x : ℕ) (ss : List Step) → meets gs x ss ≡ x ∷ map (arrival gs) ss
  meets_arrivals x [] = refl
  meets_arrivals x (s ∷ ss) = ap (λ r. x ∷ r) (meets_arrivals (arrival gs s) ss)

  -- read from the other end, steps arrive where they set out
  pub arrivals_turned : (ss : List Step) → map (arrival gs) (turned ss) ≡ reverse (map (start gs) ss)
  arrivals_turned [] = refl
  arrivals_turned (s ∷ ss) =
      ap (map (arrival gs)) (turned_cons s ss)
      ∙ map-append (arrival gs) (turned ss) (turn_step s ∷ [])
      ∙ cc (arrivals_turned ss, arrival_turn s)
      ∙ sym (reverse-cons (start gs s) (map (start gs) ss))

-- what follows the links is climbed step by step
pub climb : (next : Links) (e top : ℕ) (rising tail : List ℕ) → Follows next e (rising ++ (top ∷ tail)) → Climbs next (map (up next) rising) e top
climb next e top [] tail f = sym (follows_head next e top tail f)
climb next e top (x ∷ xs) tail f =
    let on = follows_on next e x top xs tail f in
    (on.0, on.1, ap (up next) on.2, climb next on.0.to top xs tail on.3)

module _ (next : Links) (gs : List Given) (ok : (e : ℕ) (l : Link) → next e ≡ Some l → Linked gs e l) where
  -- a step up is over the given of the enode's link
  up_over : (e : ℕ) (l : Link) → next e ≡ Some l → up next e ≡ step l.given true
  up_over e l h = ap (λ o. step (given_of o) true) h

  pub climbs_join : (ss : List Step) (x y : ℕ) → Climbs next ss x y → Joins gs ss x y
  climbs_join [] x y h = h
  climbs_join (s ∷ ss) x y (l, h, is, more) =
      let along = ok x l h in
      subst (λ t. Joins gs (t ∷ ss) x y) (sym (is ∙ up_over x l h))
      (along.on_file, along.begins, rw along.leads_to (climbs_join ss l.to y more))

  -- the steps that climb a list set out from its enodes
  pub climb_starts : (e top : ℕ) (rising tail : List ℕ) → Follows next e (rising ++ (top ∷ tail)) → map (start gs) (map (up next) rising) ≡ rising
  climb_starts e top [] tail f = refl
  climb_starts e top (x ∷ xs) tail f =
      let on = follows_on next e x top xs tail f in
      let here : start gs (up next x) ≡ x = ap (λ z. start gs (up next z)) on.2 ∙ ap (start gs) (up_over e on.0 on.1) ∙ (ok e on.0 on.1).begins ∙ sym on.2 in
      cc (here, climb_starts on.0.to top xs tail on.3)

  -- and meet them, up to the top
  pub climb_meets : (e top : ℕ) (rising tail : List ℕ) → Follows next e (rising ++ (top ∷ tail)) → meets gs e (map (up next) rising) ≡ rising ++ (top ∷ [])
  climb_meets e top [] tail f = ap (λ z. z ∷ []) (sym (follows_head next e top tail f))
  climb_meets e top (x ∷ xs) tail f =
      let on = follows_on next e x top xs tail f in
      let there : arrival gs (up next x) ≡ on.0.to = ap (λ z. arrival gs (up next z)) on.2 ∙ ap (arrival gs) (up_over e on.0 on.1) ∙ (ok e on.0 on.1).leads_to in
      cc (there, on.2, climb_meets on.0.to top xs tail on.3)

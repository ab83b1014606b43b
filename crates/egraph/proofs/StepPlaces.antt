-- The steps of a path, place by place. Assumes nothing.
use Rattle.std.proofs.Common.{◌≡◌, ℕ, ◌+◌, ◌-◌, ◌<◌, ◌≤◌, Bool, true, false, List, [], ◌∷◌, ◌++◌, map, reverse, length, get_or, take, drop, set, refl, sym, ap, ◌∙◌, arith}
use Rattle.std.proofs.lemmas.List.{get_or-map, length-map, length-reverse, map_push, reverse-append, take_at, drop_at, take_more, length-take-le}
use Rattle.model.specs.declared.items.Step.{Step}
use Rattle.model.specs.Records.{turn_step}
use Rattle.model.specs.Walks.{Links}
use Rattle.model.specs.Paths.{up, given_of}
use Rattle.model.specs.WalkCalls.{placed}
use Rattle.egraph.specs.SimplePath.{rising_steps, falling_steps}
use Rattle.egraph.proofs.Places.{placed_push}

-- the first n places, filled one after another
module _ {T : Type 0} (n : ℕ) (xs out : List T) (long : length xs ≡ n) where
  pub more_placed : n ≤ length out → (i : ℕ) (now : List T) (y : T) → i < n → now ≡ placed 0 (take i xs) out → get_or xs i y ≡ y → set now i y ≡ placed 0 (take (i + 1) xs) out
  more_placed fits i now y lt is at =
      let part : 0 + length (take i xs) ≡ i = omega (arith, length-take-le i xs (omega arith)) in
      ap (λ r. set r i y) is
      ∙ ap (λ k. set (placed 0 (take i xs) out) k y) (sym part)
      ∙ placed_push 0 (take i xs) out y (omega (arith, part))
      ∙ ap (λ z. placed 0 (take i xs ++ (z ∷ [])) out) (sym at)
      ∙ ap (λ zs. placed 0 zs out) (sym (take_more xs i y (omega arith)))

module _ (next : Links) where
  -- the steps over the links of some enodes, in their order
  abbrev pub steps_over : Bool → List ℕ → List Step
  steps_over b es = map (λ e. record { given = given_of (next e); forward = b }) es

  pub over_long : (b : Bool) (es : List ℕ) → length (steps_over b es) ≡ length es
  over_long b es = length-map es (λ e. record { given = given_of (next e); forward = b })

  pub over_at : (b : Bool) (es : List ℕ) (i g : ℕ) (d : Step) → i < length es → g ≡ given_of (next (get_or es i 0)) → get_or (steps_over b es) i d ≡ record { given = g; forward = b }
  over_at b es i g d lt is = get_or-map (λ e. record { given = given_of (next e); forward = b }) es i 0 d lt ∙ ap (λ x. record { given = x; forward = b }) (sym is)

  turned_each : (es : List ℕ) → map turn_step (reverse (map (up next) es)) ≡ reverse (steps_over false es)
  turned_each [] = refl
  turned_each (e ∷ es) =
      ap (map turn_step) (reverse-append (up next e ∷ []) (map (up next) es)) ∙ map_push turn_step (reverse (map (up next) es)) (up next e)
      ∙ ap (λ ss. ss ++ (turn_step (up next e) ∷ [])) (turned_each es) ∙ sym (reverse-append (turn_step (up next e) ∷ []) (steps_over false es))

  pub rising_long : (es : List ℕ) → length (rising_steps next es) ≡ length es
  rising_long es = length-map es (up next)

  pub falling_long : (es : List ℕ) → length (falling_steps next es) ≡ length es
  falling_long es = length-map (reverse (map (up next) es)) turn_step ∙ length-reverse (map (up next) es) ∙ rising_long es

  -- all of them stand there, and are turned
  pub turned_back : (es : List ℕ) (n : ℕ) (now out : List Step) → n ≡ length es → now ≡ placed 0 (steps_over false es) out → reverse (take n now) ++ drop n now ≡ placed 0 (falling_steps next es) out
  turned_back es n now out is w =
      let S = steps_over false es in
      let long : length S ≡ n = over_long false es ∙ sym is in
      let front : reverse (take n now) ≡ falling_steps next es = ap reverse (ap (take n) w ∙ take_at S _ n long) ∙ sym (turned_each es) in
      let back : drop n now ≡ drop (0 + length S) out = ap (drop n) w ∙ drop_at S _ n long in
      let same : length S ≡ length (falling_steps next es) = over_long false es ∙ sym (falling_long es) in
      (λ i. front i ++ (back ∙ ap (λ k. drop (0 + k) out) same) i)

-- Striking out there and back: steps as words, and their free reduction. Assumes nothing.
use Rattle.std.proofs.Common.{◌≡◌, ℕ, true, false, cond, List, [], ◌∷◌, ◌++◌, sym, refl, ap, ◌∙◌, inl, inr, arith}
use Rattle.std.proofs.lemmas.Bool.{cases_Bool, true≢false}
use Rattle.std.proofs.lemmas.Bool.Decides.{nat_tests}
use Rattle.model.specs.declared.items.Step.{Step}
use Rattle.model.specs.Records.{Given, turn_step, turned}
use Rattle.model.specs.Walks.{met, Distinct}
use Rattle.model.specs.Reading.{same_step}
use Rattle.model.specs.PathLaws.{arrival, Joins, meets, Strikes, none, one, Bare}
use Rattle.model.proofs.Members.{met_head}
use Rattle.model.proofs.Steps.{step, turn_turn, turned_cons, turned_turned, arrival_turn, meets_arrivals}

pub same_step_eq : (s t : Step) → same_step s t ≡ true → s ≡ t
same_step_eq s t h =
    let g : s.given ≡ t.given = grind (arith, nat_tests) in
    let w : s.forward ≡ t.forward = grind (arith, nat_tests) in
    λ i. step (g i) (w i)

pub same_step_refl : (s : Step) → same_step s s ≡ true
same_step_refl s = grind (arith, nat_tests)

-- no two side by side are there and back
abbrev pub Reduced : List Step → Type 0
Reduced [] = Unit {0}
Reduced (s ∷ []) = Unit {0}
Reduced (s ∷ t ∷ ts) = (same_step t (turn_step s) ≡ false) × Reduced (t ∷ ts)

-- s before a reduced word
abbrev prepend : Step → List Step → List Step
prepend s [] = s ∷ []
prepend s (t ∷ ts) = cond (same_step t (turn_step s)) ts (s ∷ t ∷ ts)

-- ss before a reduced word
abbrev pub reduce : List Step → List Step → List Step
reduce [] w = w
reduce (s ∷ ss) w = prepend s (reduce ss w)

reduced_tail : (s : Step) (ss : List Step) → Reduced (s ∷ ss) → Reduced ss
reduced_tail s [] c = tt
reduced_tail s (t ∷ ts) c = c.1

prepend_reduced : (s : Step) (w : List Step) → Reduced w → Reduced (prepend s w)
prepend_reduced s [] c = tt
prepend_reduced s (t ∷ ts) c = grind (arith, reduced_tail t ts c, c)

pub reduce_reduced : (ss w : List Step) → Reduced w → Reduced (reduce ss w)
reduce_reduced [] w c = c
reduce_reduced (s ∷ ss) w c = prepend_reduced s (reduce ss w) (reduce_reduced ss w c)

prepend_new : (s : Step) (w : List Step) → Reduced (s ∷ w) → prepend s w ≡ s ∷ w
prepend_new s [] c = refl
prepend_new s (t ∷ ts) c = rw c.0

-- there and back changes nothing
prepend_back : (s : Step) (w : List Step) → Reduced w → prepend s (prepend (turn_step s) w) ≡ w
prepend_back s [] c = let r = same_step_refl (turn_step s) in rw r
prepend_back s (t ∷ ts) c = grind (arith, same_step_eq t (turn_step (turn_step s)), same_step_refl (turn_step s), turn_turn s, prepend_new s ts, c)

pub reduce_append : (xs ys w : List Step) → reduce (xs ++ ys) w ≡ reduce xs (reduce ys w)
reduce_append [] ys w = refl
reduce_append (x ∷ xs) ys w = ap (prepend x) (reduce_append xs ys w)

-- a word and the word turned undo each other
pub reduce_back : (xs w : List Step) → Reduced w → reduce xs (reduce (turned xs) w) ≡ w
reduce_back [] w c = refl
reduce_back (x ∷ xs) w c =
    ap (λ r. prepend x (reduce xs (reduce r w))) (turned_cons x xs)
    ∙ ap (λ r. prepend x (reduce xs r)) (reduce_append (turned xs) (turn_step x ∷ []) w)
    ∙ ap (prepend x) (reduce_back xs (prepend (turn_step x) w) (prepend_reduced (turn_step x) w c))
    ∙ prepend_back x w c

pub reduce_forth : (xs w : List Step) → Reduced w → reduce (turned xs) (reduce xs w) ≡ w
reduce_forth xs w c = ap (λ r. reduce (turned xs) (reduce r w)) (sym (turned_turned xs)) ∙ reduce_back (turned xs) w c

pub reduced_same : (xs : List Step) → Reduced xs → reduce xs [] ≡ xs
reduced_same [] c = refl
reduced_same (s ∷ []) c = refl
reduced_same (s ∷ t ∷ ts) c = ap (prepend s) (reduced_same (t ∷ ts) c.1) ∙ rw c.0

reduce_struck : (xs ys : List Step) (s : Step) (w : List Step) → Reduced w → reduce (xs ++ (s ∷ turn_step s ∷ ys)) w ≡ reduce (xs ++ ys) w
reduce_struck [] ys s w c = prepend_back s (reduce ys w) (reduce_reduced ys w c)
reduce_struck (x ∷ xs) ys s w c = ap (prepend x) (reduce_struck xs ys s w c)

reduce_strikes : (xs zs : List Step) → Strikes xs zs → reduce xs [] ≡ reduce zs []
reduce_strikes xs zs none = refl
reduce_strikes xs zs (one {ys} k more) =
    ap (λ r. reduce r []) k.is
    ∙ reduce_struck k.front k.back k.there [] tt
    ∙ ap (λ r. reduce r []) (sym k.leaves)
    ∙ reduce_strikes ys zs more

-- nothing is left to strike out exactly in a reduced word
pub reduced_from_bare : (xs : List Step) → Bare xs → Reduced xs
reduced_from_bare [] b = tt
reduced_from_bare (s ∷ []) b = tt
reduced_from_bare (s ∷ t ∷ ts) b = (
  elim (cases_Bool (same_step t (turn_step s))) [
    | inl e ↦ absurd (b ts (record { front = []; back = ts; there = s; is = ap (λ r. s ∷ r ∷ ts) (same_step_eq t (turn_step s) e); leaves = refl }))
    | inr e ↦ e
  ],
  reduced_from_bare (t ∷ ts) (λ ys k. b (s ∷ ys) (record { front = s ∷ k.front; back = k.back; there = k.there; is = ap (λ r. s ∷ r) k.is; leaves = ap (λ r. s ∷ r) k.leaves })),
)

reduced_struck : (xs ys : List Step) (s : Step) → Reduced (xs ++ (s ∷ turn_step s ∷ ys)) → ⊥
reduced_struck [] ys s c = true≢false (sym (same_step_refl (turn_step s)) ∙ c.0)
reduced_struck (x ∷ xs) ys s c = reduced_struck xs ys s (reduced_tail x (xs ++ (s ∷ turn_step s ∷ ys)) c)

pub bare_from_reduced : (xs : List Step) → Reduced xs → Bare xs
bare_from_reduced xs c ys k = reduced_struck k.front k.back k.there (rw k.is at c)

-- however it is struck out, what is left is the same
pub struck_out : (xs zs : List Step) → Strikes xs zs → Bare zs → zs ≡ reduce xs []
struck_out xs zs h b = sym (reduced_same zs (reduced_from_bare zs b)) ∙ sym (reduce_strikes xs zs h)

first_met : (gs : List Given) (x : ℕ) (ss : List Step) → met x (meets gs x ss) ≡ true
first_met gs x ss = rw (meets_arrivals gs x ss) (met_head x _)

-- steps that meet no enode twice have nothing to strike out
pub joins_reduced : (gs : List Given) (ss : List Step) (x y : ℕ) → Joins gs ss x y → Distinct (meets gs x ss) → Reduced ss
joins_reduced gs [] x y j d = tt
joins_reduced gs (s ∷ []) x y j d = tt
joins_reduced gs (s ∷ t ∷ ts) x y j d =
    (grind (arith, nat_tests, same_step_eq t (turn_step s), arrival_turn gs s, first_met gs (arrival gs t) ts, d.0), joins_reduced gs (t ∷ ts) (arrival gs s) y j.2 d.1)

-- The steps of a path over two walks. Assumes nothing.
use Rattle.std.proofs.Common.{◌≡◌, ℕ, zero, suc, ◌+◌, ◌<◌, ◌≤◌, Bool, true, List, [], ◌∷◌, ◌++◌, reverse, length, get_or, take, drop, Some, sym, refl, ap, ◌∙◌, subst, inl, inr, append_assoc, arith}
use lib.Seq.{take-append_seam, drop-append-add}
use Rattle.std.proofs.lemmas.List.{drop-drop, length-take, length-append, length-reverse}
use Rattle.std.proofs.lemmas.Bool.{cases_Bool}
use Rattle.std.proofs.lemmas.Bool.Decides.{nat_tests}
use Rattle.model.specs.declared.items.Step.{Step}
use Rattle.model.specs.Records.{Given}
use Rattle.model.specs.Walks.{met, Distinct, links}
use Rattle.model.specs.Paths.{Path, path, common, shared}
use Rattle.model.specs.PathLaws.{Joins, meets, arrival, EndsKnown, WalkLaws}
use Rattle.model.specs.WalkCalls.{placed}
use Rattle.model.proofs.Members.{Below, distinct_short}

meets_length : (gs : List Given) (x : ℕ) (ss : List Step) → length (meets gs x ss) ≡ suc (length ss)
meets_length gs x [] = refl
meets_length gs x (s ∷ ss) = ap suc (meets_length gs (arrival gs s) ss)

arrival_below : (gs : List Given) (size : ℕ) → EndsKnown gs size → (s : Step) → s.given < length gs → arrival gs s < size
arrival_below gs size known s lt = let k = known s.given lt in elim (cases_Bool s.forward) [ inl e ↦ rw e k.1 | inr e ↦ rw e k.0 ]

meets_below : (gs : List Given) (size : ℕ) → EndsKnown gs size → (ss : List Step) (x y : ℕ) → x < size → Joins gs ss x y → Below size (meets gs x ss)
meets_below gs size known [] x y low j z m = grind (arith, nat_tests)
meets_below gs size known (s ∷ ss) x y low j z m =
    let ih : met z (meets gs (arrival gs s) ss) ≡ true → z < size = meets_below gs size known ss (arrival gs s) y (arrival_below gs size known s j.0) j.2 z in
    grind (arith, nat_tests, ih)

-- a path meets each enode at most once, so that it has fewer steps than there are enodes
pub path_short : (counts : ℕ → Bool) (gs : List Given) (size : ℕ) → WalkLaws counts gs size → EndsKnown gs size → (a b : ℕ) → a < size → b < size → (p : Path) → path (links counts gs) size a b ≡ Some p → length p.steps < size
path_short counts gs size laws known a b la lb p is =
    let j = laws.joins a b la lb p is in
    let once : Distinct (meets gs a p.steps) = subst Distinct (sym j.1) j.2 in
    omega (arith, meets_length gs a p.steps, distinct_short size (meets gs a p.steps) once (meets_below gs size known p.steps a b la j.0))

common_first : (xs ys : List ℕ) → common xs ys ≤ length xs
common_first [] ys = omega arith
common_first (x ∷ xs) [] = omega arith
common_first (x ∷ xs) (y ∷ ys) = let ih = common_first xs ys in grind (arith, nat_tests)

common_second : (xs ys : List ℕ) → common xs ys ≤ length ys
common_second [] ys = omega arith
common_second (x ∷ xs) [] = omega arith
common_second (x ∷ xs) (y ∷ ys) = let ih = common_second xs ys in grind (arith, nat_tests)

pub shared_first : (xs ys : List ℕ) → shared xs ys ≤ length xs
shared_first xs ys = omega (arith, common_first (reverse xs) (reverse ys), length-reverse xs)

pub shared_second : (xs ys : List ℕ) → shared xs ys ≤ length ys
shared_second xs ys = omega (arith, common_second (reverse xs) (reverse ys), length-reverse ys)

-- they are among those that two parts hold
pub shared_in : (n m k : ℕ) (xs ys : List ℕ) → k ≡ shared (take n xs) (take m ys) → (k ≤ n) × (k ≤ m)
shared_in n m k xs ys is =
    let first = length-take n xs in
    let second = length-take m ys in
    (omega (arith, first, shared_first (take n xs) (take m ys)), omega (arith, second, shared_second (take n xs) (take m ys)))

-- one list behind another
pub placed_twice : {T : Type 0} (xs ys out : List T) (n : ℕ) → n ≡ length xs → length xs + length ys ≤ length out → placed n ys (placed 0 xs out) ≡ placed 0 (xs ++ ys) out
placed_twice xs ys out n is fits =
    let behind = drop (0 + length xs) out in
    let rest : 0 + length xs + length ys ≡ 0 + length (xs ++ ys) = omega (arith, length-append xs ys) in
    ap (λ k. placed k ys (placed 0 xs out)) is
    ∙ ap (λ r. r ++ (ys ++ drop (length xs + length ys) (xs ++ behind))) (take-append_seam xs behind)
    ∙ ap (λ r. xs ++ (ys ++ r)) (drop-append-add xs behind (length ys) ∙ drop-drop (length ys) (0 + length xs) out ∙ ap (λ k. drop k out) rest)
    ∙ sym (append_assoc xs ys (drop (0 + length (xs ++ ys)) out))

-- each enode of a list by its place
pub below_at : (size : ℕ) (xs : List ℕ) → Below size xs → (k : ℕ) → k < length xs → get_or xs k 0 < size
below_at size [] below k lt = absurd (omega arith)
below_at size (x ∷ xs) below zero lt = below x (grind (arith, nat_tests))
below_at size (x ∷ xs) below (suc k) lt = below_at size xs (λ y m. below y (grind (arith, nat_tests))) k (omega arith)

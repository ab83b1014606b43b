use Rattle.std.proofs.Common.{◌≡◌, ◌+◌, ℕ, List, [], ◌∷◌, reverse, eqb, cond, refl, ap, ◌∙◌, rules, arith}
use borrow.Author.Tests.{tests}
use Rattle.std.specs.List.{zip, prefix_len}
use Rattle.std.proofs.lemmas.List.Folds.{length-prefix_len}
use Rattle.std.proofs.lemmas.Iterator.{YieldsList-from_zip}
use Rattle.std.proofs.lemmas.Iterator.Adapters.{YieldsList-from_rev_slice}
use Rattle.std.proofs.lemmas.Iterator.Search.{YieldsList-from_take_while}
use Rattle.std.proofs.lemmas.Iterator.Consumers.{YieldsList-at, count_from_yields_List}
use Rattle.model.specs.Paths.{common}
use Rattle.egraph.proofs.simple_path.common_tail.Goals as goal

-- how many places from the front on are alike
common_count : (xs ys : List ℕ) → prefix_len (λ p. eqb p.0 p.1) (zip xs ys) ≡ common xs ys
common_count [] ys = refl
common_count (x ∷ xs) [] = refl
common_count (x ∷ xs) (y ∷ ys) = ap (λ n. cond (eqb x y) n 0) (ap (λ n. 1 + n) (common_count xs ys) ∙ omega arith)

pub returns : goal.returns
returns c =
    let first = c.args.first.now in
    let second = c.args.second.now in
    count_from_yields_List c.take_while.result c.count.result c.count.ensures.ran (YieldsList-from_take_while _ (λ p. eqb p.0 p.1) (YieldsList-at c.take_while.ensures.source (YieldsList-from_zip (YieldsList-at c.zip.ensures.first (YieldsList-from_rev_slice first cc)) (YieldsList-at c.zip.ensures.second (YieldsList-from_rev_slice second cc)))) c.take_while.ensures.closure c.take_while.ensures.done (λ x b q k. search (rules, tests)))
    ∙ length-prefix_len (λ p. eqb p.0 p.1) (zip (reverse first) (reverse second)) ∙ common_count (reverse first) (reverse second)

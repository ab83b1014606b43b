use Rattle.std.proofs.Common.{◌≡◌, ◌+◌, ◌-◌, ◌++◌, length, take, drop, refl, ap, ◌∙◌, arith}
use Rattle.model.specs.Paths.{shared}
use Rattle.egraph.proofs.PathSteps.{shared_in}
use Rattle.egraph.proofs.Places.{placed_behind}
use Rattle.egraph.proofs.TwoWalks.{roots_differ, roots_meet}
use Rattle.egraph.proofs.egraph.EGraph.get_simple_path.Goals as goal

pub returns-then-walks-from-clause-found : goal.returns-then-walks-from-clause-found
returns-then-walks-from-clause-found g c =
    let n = c.walk-from.result.len in
    let once = c.walk-from.new.out in
    roots_differ _ _ c.args.pair c.requires.from c.requires.to c.args.walks.now c.requires.places
    n once (ap (λ r. r.len) c.walk-from.ensures.walk) c.walk-from.ensures.out
    c.walk-to.result.len _ (ap (λ r. r.len) c.walk-to.ensures.walk) (placed_behind n (length once - n) _ c.walk-to.new.out once (omega arith) c.walk-to.ensures.out) c.if-walks-from.true

pub returns-clause-found : goal.returns-clause-found
returns-clause-found g c =
    let n = c.walk-from.result.len in
    let m = c.walk-to.result.len in
    let once = c.walk-from.new.out in
    roots_meet _ _ c.args.pair c.requires.from c.requires.to c.args.walks.now c.requires.places
    n once (ap (λ r. r.len) c.walk-from.ensures.walk) c.walk-from.ensures.out
    m _ (ap (λ r. r.len) c.walk-to.ensures.walk) (placed_behind n (length once - n) _ c.walk-to.new.out once (omega arith) c.walk-to.ensures.out) c.if-walks-from.false _ refl refl
    (let count : n + m - n ≡ m = omega arith in c.common_tail.ensures ∙ (λ i. shared (take n (take n once ++ (c.walk-to.new.out ++ drop (length once - n) (drop n once)))) (take (count i) (drop n (take n once ++ (c.walk-to.new.out ++ drop (length once - n) (drop n once)))))))

pub invariant_of-result : goal.invariant_of-result
invariant_of-result g c =
    let within = shared_in c.walk-from.result.len (c.walk-from.result.len + c.walk-to.result.len - c.walk-from.result.len) c.common_tail.result _ _ c.common_tail.ensures in
    record { in_first = within.0; in_second = omega (arith, within.1) }

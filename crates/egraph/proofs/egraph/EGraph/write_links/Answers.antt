use Rattle.std.proofs.Common.{◌≡◌, ◌++◌, length, drop, false, refl, ap, ◌∙◌, arith}
use Rattle.std.proofs.lemmas.List.{take_all}
use Rattle.model.specs.WalkCalls.{placed}
use Rattle.egraph.specs.View.{links_in}
use Rattle.egraph.proofs.StepPlaces.{more_placed, steps_over, over_long, over_at, turned_back}
use Rattle.egraph.proofs.egraph.EGraph.write_links.Goals as goal

pub loop-i-preserved : goal.loop-i-preserved
loop-i-preserved g c =
    let next = links_in (g.R.FrameRule.means c.args.self.now.rule) c.args.self.now.records in
    let es = c.args.enodes.now in
    let b = c.args.forward in
    more_placed (length es) (steps_over next b es) c.args.steps.now (over_long next b es) c.requires.places c.loop-i.i c.loop-i.steps _ (omega arith) c.loop-i.invariant (over_at next b es c.loop-i.i c.given_up.result _ (omega arith) c.given_up.ensures)

pub returns-then-not-forward : goal.returns-then-not-forward
returns-then-not-forward g c =
    let next = links_in (g.R.FrameRule.means c.args.self.now.rule) c.args.self.now.records in
    let es = c.args.enodes.now in
    let out = c.args.steps.now in
    let all = take_all c.loop-i.i (steps_over next c.args.forward es) (omega (arith, over_long next c.args.forward es, c.loop-i-test.false)) in
    let written : c.loop-i.steps ≡ placed 0 (steps_over next false es) out = c.loop-i.invariant ∙ ap (λ ss. placed 0 ss out) all ∙ ap (λ b. placed 0 (steps_over next b es) out) c.if-not-forward.true in
    rw c.if-not-forward.true (ap (λ ss. ss ++ drop (length es) c.loop-i.steps) c.reverse.ensures.after ∙ turned_back next es (length es) c.loop-i.steps out refl written)

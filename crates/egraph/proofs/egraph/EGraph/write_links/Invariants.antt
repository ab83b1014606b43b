use Rattle.std.proofs.Common.{◌≡◌, take}
use Rattle.model.specs.WalkCalls.{placed}
use Rattle.egraph.specs.View.{links_in}
use Rattle.egraph.proofs.StepPlaces.{steps_over}
use Rattle.egraph.proofs.egraph.EGraph.write_links.Given as goal

abbrev pub invariant-loop-i : goal.invariant-loop-i
invariant-loop-i g l = l.steps ≡ placed 0 (take l.i (steps_over (links_in (g.R.FrameRule.means l.self.rule) l.self.records) l.forward l.enodes)) l.initial.steps

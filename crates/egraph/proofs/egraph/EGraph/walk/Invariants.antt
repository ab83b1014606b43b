use Rattle.std.proofs.Common.{◌≡◌, length}
use Rattle.model.specs.Walks.{links}
use Rattle.egraph.specs.View.{given_list, size}
use Rattle.egraph.proofs.OnWalk.{OnWalk}
use Rattle.egraph.proofs.egraph.EGraph.walk.Given as goal

abbrev pub invariant-loop-len : goal.invariant-loop-len
invariant-loop-len g l =
    OnWalk (links (g.R.FrameRule.means l.self.rule).counts (given_list l.self.records)) l.root (size l.self.records) l.from l.initial.out l.guard.bytes.now l.out l.len l.at
    × (length l.guard.bytes.now ≡ length l.initial.guard.bytes.now)

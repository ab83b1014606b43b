use Rattle.frames.specs.Tables.{handed_out}
use Rattle.frames.proofs.LastClosed.{closing_also}
use Rattle.frames.proofs.tests.recent.RecentFrameRule.close.Goals as goal

pub returns-clause-outcome : goal.returns-clause-outcome
returns-clause-outcome c =
    let s = c.args.self.now in
    rw c.active_frame-closed.ensures (closing_also s.closed (handed_out s.table) s.table.within.0 c.in_ok-count.count (handed_out c.close.new.self) c.in_ok-count.ensures.outcome)

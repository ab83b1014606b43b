use Rattle.frames.specs.Counting.{open_also}
use Rattle.frames.specs.Tables.{handed_out}
use Rattle.frames.proofs.SeenOtherwise.{opening_seen}
use Rattle.frames.proofs.LastClosed.{also_opens}
use Rattle.frames.proofs.tests.recent.RecentFrameRule.open.Goals as goal

pub returns-clause-outcome : goal.returns-clause-outcome
returns-clause-outcome c =
    let s = c.args.self.now in
    let m = handed_out s.table in
    opening_seen (λ n. (open_also s.closed n).counts) m _ _ 64 (also_opens s.closed m) c.open.ensures.outcome

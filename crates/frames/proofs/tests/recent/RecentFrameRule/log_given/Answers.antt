use Rattle.frames.specs.Counting.{open_also}
use Rattle.frames.specs.Tables.{handed_out}
use Rattle.frames.proofs.SeenOtherwise.{logging_seen}
use Rattle.frames.proofs.LastClosed.{also_logs}
use Rattle.frames.proofs.tests.recent.RecentFrameRule.log_given.Goals as goal

pub returns-clause-outcome : goal.returns-clause-outcome
returns-clause-outcome c =
    let s = c.args.self.now in
    let m = handed_out s.table in
    logging_seen (λ n. (open_also s.closed n).counts) m _ _ (also_logs s.closed m) c.log_given.ensures.outcome

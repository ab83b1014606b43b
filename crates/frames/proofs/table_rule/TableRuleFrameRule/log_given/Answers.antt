use Rattle.frames.specs.Tables.{handed_out}
use Rattle.frames.proofs.SeenOtherwise.{logging_seen}
use Rattle.frames.proofs.table_rule.TableRuleFrameRule.log_given.Goals as goal

pub returns-clause-outcome : goal.returns-clause-outcome
returns-clause-outcome g c = let m = handed_out c.args.self.now.table in logging_seen g.S.FrameSet.members m _ _ (g.met.S.FrameSet.logs m) c.log_given.ensures.outcome

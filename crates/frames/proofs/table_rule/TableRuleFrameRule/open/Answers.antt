use Rattle.frames.specs.Tables.{handed_out}
use Rattle.frames.proofs.SeenOtherwise.{opening_seen}
use Rattle.frames.proofs.table_rule.TableRuleFrameRule.open.Goals as goal

pub returns-clause-outcome : goal.returns-clause-outcome
returns-clause-outcome g c = let m = handed_out c.args.self.now.table in opening_seen g.S.FrameSet.members m _ _ 64 (g.met.S.FrameSet.opens m) c.open.ensures.outcome

use Rattle.std.specs.Prelude.{false}
use Rattle.frames.specs.Tables.{handed_out}
use Rattle.frames.proofs.SeenOtherwise.{closing_seen}
use Rattle.frames.proofs.table_rule.TableRuleFrameRule.close.Goals as goal

pub returns-clause-outcome : goal.returns-clause-outcome
returns-clause-outcome g c = let m = handed_out c.args.self.now.table in closing_seen g.S.FrameSet.members m _ _ (λ _. false) _ (g.met.S.FrameSet.closes m) c.close.ensures.outcome

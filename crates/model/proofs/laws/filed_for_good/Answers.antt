use Rattle.model.proofs.RunLaws.{filed_for_good}
use Rattle.model.proofs.laws.filed_for_good.Goals as goal

pub returns : goal.returns
returns c = filed_for_good

use Rattle.model.proofs.RunLaws.{filed_by_questions}
use Rattle.model.proofs.laws.filed_by_questions.Goals as goal

pub returns : goal.returns
returns c = filed_by_questions

-- What the text of a function says, by the law.
use Rattle.ll_said.proofs.FunctionLaws.{numbered_says}
use Rattle.ll_said.proofs.laws.function_means_itself.Goals as goal

pub returns : goal.returns
returns c = numbered_says

-- How many things of what is meant have no name, by the law.
use Rattle.ll_said.proofs.FewLaws.{few_unnamed}
use Rattle.ll_said.proofs.laws.few_have_no_name.Goals as goal

pub returns : goal.returns
returns c = few_unnamed

-- What the text of any data says, by the law.
use Rattle.ll_said.proofs.TwinLaws.{text_says}
use Rattle.ll_said.proofs.laws.file_means_twin.Goals as goal

pub returns : goal.returns
returns c = text_says

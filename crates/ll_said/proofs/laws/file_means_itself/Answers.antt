-- What the text of numbered data says, by the law.
use Rattle.ll_said.proofs.FileLaws.{file_says}
use Rattle.ll_said.proofs.laws.file_means_itself.Goals as goal

pub returns : goal.returns
returns c = file_says

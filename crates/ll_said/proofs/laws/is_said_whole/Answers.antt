-- What is asked of data, by the law.
use Rattle.ll_said.proofs.FileLaws.{sayable_from}
use Rattle.ll_said.proofs.laws.is_said_whole.Goals as goal

pub returns : goal.returns
returns c = sayable_from

-- What a text says whole of what is meant, by the law.
use Rattle.ll_said.proofs.FewLaws.{meant_sayable}
use Rattle.ll_said.proofs.laws.meant_is_whole.Goals as goal

pub returns : goal.returns
returns c = meant_sayable

-- They do, by the law.
use Rattle.ll_tokens.proofs.OrderLaws.{stand}
use Rattle.ll_tokens.proofs.laws.stand_in_order.Goals as goal

pub returns : goal.returns
returns c = stand

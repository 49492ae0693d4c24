-- Which twin data have, by the laws.
use Rattle.ll_said.proofs.OwnLaws.{own_twin}
use Rattle.ll_said.proofs.TwinLaws.{one_twin}
use Rattle.ll_said.proofs.laws.twin_is_one.Goals as goal

pub returns : goal.returns
returns c = record { own = own_twin; one = one_twin }

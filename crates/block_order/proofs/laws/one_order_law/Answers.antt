-- Two explorations from the same marks run alike.
use Rattle.block_order.proofs.LawLemmas.{one_order}
use Rattle.block_order.proofs.laws.one_order_law.Goals as goal

pub returns : goal.returns
returns c = one_order

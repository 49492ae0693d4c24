-- The one is in the front, and the other is not.
use Rattle.block_order.proofs.LawLemmas.{reached_before}
use Rattle.block_order.proofs.laws.reached_first_law.Goals as goal

pub returns : goal.returns
returns c = reached_before

-- The order holds the components of the nodes before this one.
use Rattle.block_order.proofs.OrderingLemmas.{IsUpTo}
use Rattle.block_order.proofs.ordering.rpo.Given as goal

abbrev pub invariant-loop-root : goal.invariant-loop-root
invariant-loop-root l = IsUpTo l.succs l.root l.met.items l.order.items

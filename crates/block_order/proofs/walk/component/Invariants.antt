-- The walk keeps its record, and each step takes something off what is left to do.
use Rattle.block_order.specs.Walking.{state}
use Rattle.block_order.proofs.WalkingLemmas.{IsAt, work}
use Rattle.block_order.proofs.walk.component.Given as goal

abbrev pub invariant-loop-met : goal.invariant-loop-met
invariant-loop-met l = IsAt l.succs l.root l.fn.met (state l.met l.stack.items l.done.items)

abbrev pub decreases-loop-met : goal.decreases-loop-met
decreases-loop-met l = work (state l.met l.stack.items l.done.items)

-- What `hand::intern_func` owes besides what the check finds.
use Rattle.std.proofs.Common.{arith}
use Rattle.kinds.proofs.DepthLaws.{shallow_at}
use Rattle.layer_tests.proofs.hand.intern_func.Goals as goal

pub intern-requires-clause-nesting : goal.intern-requires-clause-nesting
intern-requires-clause-nesting c = shallow_at 1 (omega arith)

pub intern-requires-2-clause-nesting : goal.intern-requires-2-clause-nesting
intern-requires-2-clause-nesting c = rw (c.in_ok-void.ensures.tree, c.new.ensures) (shallow_at 2 (omega arith))

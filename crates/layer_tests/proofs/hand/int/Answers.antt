-- What `hand::int` owes besides what the check finds.
use Rattle.std.proofs.Common.{arith}
use Rattle.kinds.proofs.DepthLaws.{shallow_at}
use Rattle.layer_tests.proofs.hand.int.Goals as goal

pub intern-requires-clause-nesting : goal.intern-requires-clause-nesting
intern-requires-clause-nesting c = shallow_at 1 (omega arith)

-- What `store::int` owes besides what the check finds.
use Rattle.std.proofs.Common.{arith}
use Rattle.kinds.proofs.DepthLaws.{shallow_at}
use Rattle.constant_tests.proofs.store.int.Goals as goal

pub get-requires-clause-nesting : goal.get-requires-clause-nesting
get-requires-clause-nesting c = shallow_at 1 (omega arith)

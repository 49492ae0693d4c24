-- What `type_tests::is_returned` owes besides what the check finds.
use Rattle.std.proofs.Common.{arith}
use Rattle.dialect_types.specs.Trees.{type_at, type_trees}
use Rattle.dialect_core.proofs.TypeTestLemmas.{returned_told, void_returned}
use Rattle.dialect_core.proofs.type_tests.is_returned.Goals as goal

pub returns-then-is_nothing : goal.returns-then-is_nothing
returns-then-is_nothing c = void_returned (type_at (type_trees c.args.types.now) c.args.ty) c.is_nothing.result (grind arith) (grind arith)

pub returns-else-is_nothing : goal.returns-else-is_nothing
returns-else-is_nothing c = returned_told (type_at (type_trees c.args.types.now) c.args.ty) c.is_first_class.result (grind arith) c.is_first_class.ensures

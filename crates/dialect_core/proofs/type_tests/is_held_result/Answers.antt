-- What `type_tests::is_held_result` owes besides what the check finds.
use Rattle.std.proofs.Common.{arith}
use Rattle.dialect_types.specs.Trees.{type_at, type_trees}
use Rattle.dialect_core.proofs.TypeTestLemmas.{held_result_told, void_held}
use Rattle.dialect_core.proofs.type_tests.is_held_result.Goals as goal

pub returns-then-is_nothing : goal.returns-then-is_nothing
returns-then-is_nothing c = void_held (type_at (type_trees c.args.types.now) c.args.ty) c.is_nothing.result (grind arith) (grind arith)

pub returns-else-is_nothing : goal.returns-else-is_nothing
returns-else-is_nothing c = held_result_told (type_at (type_trees c.args.types.now) c.args.ty) c.is_held.result (grind arith) c.is_held.ensures

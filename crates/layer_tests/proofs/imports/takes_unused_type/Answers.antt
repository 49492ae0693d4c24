-- What `imports::takes_unused_type` owes besides what the check finds.
use Rattle.from_llvm_ir.proofs.KeepLaws.{empty_typed}
use Rattle.layer_tests.proofs.imports.takes_unused_type.Goals as goal

pub is_there_with_unused-requires : goal.is_there_with_unused-requires
is_there_with_unused-requires c = empty_typed _ c.new-ctx.ensures

-- What `imports::takes_two_modules` owes besides what the check finds.
use Rattle.from_llvm_ir.proofs.KeepLaws.{empty_typed}
use Rattle.layer_tests.proofs.imports.takes_two_modules.Goals as goal

pub are_both_there-requires : goal.are_both_there-requires
are_both_there-requires c = empty_typed _ c.new-ctx.ensures

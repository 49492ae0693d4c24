-- Each kind of undefined value is a use that is not valid.
use Rattle.from_llvm_ir.proofs.UndefinedLaws.{no_undefined_use}
use Rattle.from_llvm_ir.proofs.laws.valid_law.Goals as goal

pub returns : goal.returns
returns c = no_undefined_use

-- The goals of `module::LLVMModule::types` that the tactics leave.
use Rattle.llvm_core.proofs.ApartLemmas.{apart}
use Rattle.llvm_core.proofs.module.LLVMModule.types.Goals as goal

pub returns-clause-apart : goal.returns-clause-apart
returns-clause-apart c = rw (← c.self.view_is) (apart _ c.self.invariant)

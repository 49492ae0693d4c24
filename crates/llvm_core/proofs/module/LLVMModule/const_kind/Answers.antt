-- The goals of `module::LLVMModule::const_kind` that the tactics leave.
use Rattle.llvm_core.proofs.module.LLVMModule.const_kind.Goals as goal

pub returns-clause-parts : goal.returns-clause-parts
returns-clause-parts c = rw (← c.self.view_is) (c.self.invariant.consts _ _ c.value.ensures)

-- The goals of `module::LLVMModule::blocks` that the tactics leave.
use Rattle.llvm_core.proofs.module.LLVMModule.blocks.Goals as goal

pub returns-clause-within : goal.returns-clause-within
returns-clause-within c = rw (← c.self.view_is, c.as_slice.ensures) (c.self.invariant.functions _ _ c.function.ensures).blocks

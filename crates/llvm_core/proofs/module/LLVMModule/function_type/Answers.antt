-- The goals of `module::LLVMModule::function_type` that the tactics leave.
use Rattle.llvm_core.proofs.module.LLVMModule.function_type.Goals as goal

pub returns-clause-function : goal.returns-clause-function
returns-clause-function c = rw (← c.self.view_is) (c.self.invariant.functions _ _ c.function.ensures).typed

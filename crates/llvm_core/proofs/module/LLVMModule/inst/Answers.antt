-- The goals of `module::LLVMModule::inst` that the tactics leave.
use Rattle.llvm_core.proofs.module.LLVMModule.inst.Goals as goal

pub returns-clause-values : goal.returns-clause-values
returns-clause-values c = rw (← c.self.view_is) (c.self.invariant.insts _ _ c.inst.ensures).values

-- The goals of `module::LLVMModule::set_name` that the tactics leave.
use Rattle.llvm_core.proofs.NamedLemmas.{named}
use Rattle.llvm_core.proofs.module.LLVMModule.set_name.Goals as goal

pub invariant_of-self : goal.invariant_of-self
invariant_of-self c = named _ _ c.self.invariant

pub returns-clause-sound : goal.returns-clause-sound
returns-clause-sound c = invariant_of-self c

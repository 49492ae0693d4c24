-- The goals of `module::LLVMModule::param_type` that the tactics leave.
use Rattle.llvm_core.proofs.WithinLemmas.{param_within}
use Rattle.llvm_core.proofs.module.LLVMModule.param_type.Goals as goal

pub returns-clause-within : goal.returns-clause-within
returns-clause-within c =
    let there = rw (← c.self.view_is) at c.requires in
    rw (← c.self.view_is, c.params_of.ensures) (param_within _ c.args.f c.args.place _ _ _ c.self.invariant c.function.ensures c.value.ensures there)

-- The goals of `module::LLVMModule::type_of` that the tactics leave.
use Rattle.llvm_core.specs.contracts.module.LLVMModule.{the_view}
use Rattle.llvm_core.proofs.WithinLemmas.{const_type_within}
use Rattle.llvm_core.proofs.module.LLVMModule.type_of.Goals as goal

pub returns-in-Const-clause-within : goal.returns-in-Const-clause-within
returns-in-Const-clause-within c =
    rw (← c.self.view_is, c.const_type.ensures) (const_type_within (the_view c.self.inside) _ (c.self.invariant.consts _ _ c.value.ensures))

pub returns-in-Inst-clause-within : goal.returns-in-Inst-clause-within
returns-in-Inst-clause-within c = rw (← c.self.view_is) (c.self.invariant.insts _ _ c.inst.ensures).typed

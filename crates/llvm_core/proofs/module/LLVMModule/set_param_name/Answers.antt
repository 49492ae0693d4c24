-- The goals of `module::LLVMModule::set_param_name` that the tactics leave.
use Rattle.llvm_core.proofs.SoundLemmas.{param_named}
use Rattle.llvm_core.specs.contracts.module.LLVMModule.{the_view}
use Rattle.llvm_core.proofs.CallLemmas.{param_data}
use Rattle.llvm_core.proofs.module.LLVMModule.set_param_name.Goals as goal

pub invariant_of-self-2 : goal.invariant_of-self-2
invariant_of-self-2 c =
    rw c.in_ok-set_param_name.ensures.ok (param_named _ c.args.f c.args.place c.args.name.now c.self.invariant)

pub returns-clause-sound : goal.returns-clause-sound
returns-clause-sound c = invariant_of-self-2 c

pub returns-clause-data : goal.returns-clause-data
returns-clause-data c = rw (← c.self.view_is, c.in_ok-set_param_name.ensures.ok) (param_data (the_view c.self.inside) c.args.f c.args.place c.args.name.now)

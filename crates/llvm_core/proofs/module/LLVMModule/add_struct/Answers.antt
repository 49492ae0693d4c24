-- The goals of `module::LLVMModule::add_struct` that the tactics leave.
use Rattle.llvm_core.proofs.StructCalls.{struct_added}
use Rattle.llvm_core.proofs.module.LLVMModule.add_struct.Goals as goal

pub invariant_of-self-2 : goal.invariant_of-self-2
invariant_of-self-2 c =
    rw c.in_ok-s.ensures.ok (struct_added _ (record { name = c.args.name.now; body = c.args.body }) c.self.invariant (rw (← c.self.view_is) at c.requires))

pub returns-clause-sound : goal.returns-clause-sound
returns-clause-sound c = invariant_of-self-2 c

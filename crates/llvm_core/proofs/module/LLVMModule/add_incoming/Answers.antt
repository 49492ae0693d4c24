-- The goals of `module::LLVMModule::add_incoming` that the tactics leave.
use Rattle.llvm_core.proofs.OperandLemmas.{entry_added, entry_added_data}
use Rattle.llvm_core.specs.contracts.module.LLVMModule.{the_view}
use Rattle.llvm_core.proofs.module.LLVMModule.add_incoming.Goals as goal

pub invariant_of-self-2 : goal.invariant_of-self-2
invariant_of-self-2 c =
    let value = rw (← c.self.view_is) at c.requires.value in
    let block = rw (← c.self.view_is) at c.requires.block in
    rw c.in_ok-add_incoming.ensures.ok (entry_added _ c.args.phi (record { value = c.args.value; block = c.args.block }) c.self.invariant (value, block))

pub returns-clause-sound : goal.returns-clause-sound
returns-clause-sound c = invariant_of-self-2 c

pub returns-clause-data : goal.returns-clause-data
returns-clause-data c = rw (← c.self.view_is, c.in_ok-add_incoming.ensures.ok) (entry_added_data (the_view c.self.inside) c.args.phi (record { value = c.args.value; block = c.args.block }))

-- The goals of `module::LLVMModule::set_operand` that the tactics leave.
use Rattle.llvm_core.proofs.OperandLemmas.{operand_set, operand_set_data}
use Rattle.llvm_core.specs.contracts.module.LLVMModule.{the_view}
use Rattle.llvm_core.proofs.module.LLVMModule.set_operand.Goals as goal

pub invariant_of-self : goal.invariant_of-self
invariant_of-self c =
    let place = rw (← c.self.view_is) at c.requires.place in
    let value = rw (← c.self.view_is) at c.requires.value in
    rw c.set_operand.ensures (operand_set _ c.args.inst c.args.place c.args.value c.self.invariant place value)

pub returns-clause-sound : goal.returns-clause-sound
returns-clause-sound c = invariant_of-self c

pub returns-clause-data : goal.returns-clause-data
returns-clause-data c = rw (← c.self.view_is, c.set_operand.ensures) (operand_set_data (the_view c.self.inside) c.args.inst c.args.place c.args.value)

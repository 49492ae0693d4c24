-- The goals of `module::LLVMModule::append_block` that the tactics leave.
use Rattle.llvm_core.proofs.SoundLemmas.{block_added}
use Rattle.llvm_core.proofs.CallLemmas.{block_data}
use Rattle.llvm_core.proofs.FreshLemmas.{blocks_below}
use Rattle.llvm_core.proofs.module.LLVMModule.append_block.Goals as goal

pub invariant_of-self : goal.invariant_of-self
invariant_of-self c = rw c.in_err-b.ensures.err c.self.invariant

pub returns-in_err-b-clause-sound : goal.returns-in_err-b-clause-sound
returns-in_err-b-clause-sound c = invariant_of-self c

pub invariant_of-self-2 : goal.invariant_of-self-2
invariant_of-self-2 c =
    rw c.in_ok-b.ensures.ok (block_added _ c.args.f c.in_ok-b.b c.args.name.now c.self.invariant (rw (← c.self.view_is) at c.requires) c.in_ok-b.ensures.number)

pub returns-clause-sound : goal.returns-clause-sound
returns-clause-sound c = invariant_of-self-2 c

pub returns-clause-data : goal.returns-clause-data
returns-clause-data c = rw (← c.self.view_is, c.in_ok-b.ensures.ok) (block_data _ c.args.f c.in_ok-b.b c.args.name.now c.self.invariant c.in_ok-b.ensures.number)

pub returns-clause-fresh : goal.returns-clause-fresh
returns-clause-fresh c = rw (← c.self.view_is, c.in_ok-b.ensures.number) (blocks_below _ c.self.invariant)

-- The goals of `module::LLVMModule::add_body` that the tactics leave.
use Rattle.llvm_core.proofs.BodySound.{body_sound}
use Rattle.llvm_core.proofs.BodyData.{body_shown}
use Rattle.llvm_core.proofs.module.LLVMModule.add_body.Goals as goal

pub invariant_of-self : goal.invariant_of-self
invariant_of-self c = rw c.in_err-add_body.ensures.err c.self.invariant

pub returns-in_err-add_body-clause-sound : goal.returns-in_err-add_body-clause-sound
returns-in_err-add_body-clause-sound c = invariant_of-self c

pub invariant_of-self-2 : goal.invariant_of-self-2
invariant_of-self-2 c =
    rw c.in_ok-add_body.ensures.ok (body_sound _ c.args.f c.args.body c.self.invariant (rw (← c.self.view_is) at c.requires.function) (rw (← c.self.view_is) at c.requires.body))

pub returns-clause-sound : goal.returns-clause-sound
returns-clause-sound c = invariant_of-self-2 c

pub returns-clause-data : goal.returns-clause-data
returns-clause-data c = rw (← c.self.view_is, c.in_ok-add_body.ensures.ok) (body_shown _ c.args.f c.args.body c.self.invariant)

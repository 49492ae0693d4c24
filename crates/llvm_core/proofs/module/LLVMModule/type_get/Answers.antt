-- The goals of `module::LLVMModule::type_get` that the tactics leave.
use Rattle.llvm_core.proofs.KeyLemmas.{interned_type, distinct_types}
use Rattle.llvm_core.proofs.SoundLemmas.{type_added}
use Rattle.llvm_core.proofs.CallLemmas.{type_data}
use Rattle.llvm_core.proofs.module.LLVMModule.type_get.Goals as goal

pub invariant_of-self-2 : goal.invariant_of-self-2
invariant_of-self-2 c =
    type_added _ _ c.args.kind c.in_ok-at.at c.self.invariant (rw (← c.self.view_is) at c.requires.parts) (rw (← c.self.view_is) at c.requires.fit) (interned_type _ _ _ _ c.in_ok-at.ensures.interned) (distinct_types _ c.in_ok-at.ensures.distinct)

pub returns-clause-interned : goal.returns-clause-interned
returns-clause-interned c = rw (← c.self.view_is) (interned_type _ _ _ _ c.in_ok-at.ensures.interned)

pub returns-clause-sound : goal.returns-clause-sound
returns-clause-sound c = invariant_of-self-2 c

pub returns-clause-data : goal.returns-clause-data
returns-clause-data c = rw (← c.self.view_is) (type_data _ _ c.args.kind c.self.invariant (interned_type _ _ _ _ c.in_ok-at.ensures.interned).only)

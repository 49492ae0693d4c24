-- The goals of `module::LLVMModule::const_get` that the tactics leave.
use Rattle.std.proofs.Common.{sym, subst, refl}
use Rattle.support.proofs.InternedLaws.{interned_more}
use Rattle.support.specs.Interned.{Interned}
use Rattle.llvm_core.specs.declared.consts.LLVMConstKind.{LLVMConstKind}
use Rattle.llvm_core.specs.Consts.{IsConstIn}
use Rattle.llvm_core.specs.contracts.module.LLVMModule.{the_view}
use Rattle.llvm_core.proofs.OneForm.{one_form_in}
use Rattle.llvm_core.proofs.FormTrees.{form_at}
use Rattle.llvm_core.proofs.KeyLemmas.{interned_const, distinct_consts}
use Rattle.llvm_core.proofs.SoundLemmas.{const_added}
use Rattle.llvm_core.proofs.CallLemmas.{const_data}
use Rattle.llvm_core.proofs.module.LLVMModule.const_get.Goals as goal

pub invariant_of-self-2 : goal.invariant_of-self-2
invariant_of-self-2 c =
    let m = the_view c.self.inside in
    let is = rw (← c.self.view_is) at c.in_ok-kind.ensures in
    let parts = rw (← c.self.view_is) at c.requires in
    const_added m _ c.in_ok-kind.kind c.in_ok-at.at c.self.invariant (subst (IsConstIn m) (sym is) (one_form_in m c.args.kind c.self.invariant parts))
    (interned_const _ _ _ _ c.in_ok-at.ensures.interned) (distinct_consts _ c.in_ok-at.ensures.distinct)

pub returns-clause-sound : goal.returns-clause-sound
returns-clause-sound c = invariant_of-self-2 c

pub returns-clause-data : goal.returns-clause-data
returns-clause-data c = rw (← c.self.view_is) (const_data _ _ c.in_ok-kind.kind c.self.invariant (interned_const _ _ _ _ c.in_ok-at.ensures.interned).only)

pub returns-clause-interned : goal.returns-clause-interned
returns-clause-interned c =
    rw (← c.self.view_is) (subst (λ (k : LLVMConstKind). Interned c.self.inside.consts c.get.new.self k c.in_ok-at.at) (rw (← c.self.view_is) at c.in_ok-kind.ensures) (interned_const _ _ _ _ c.in_ok-at.ensures.interned))

pub returns-clause-form : goal.returns-clause-form
returns-clause-form c =
    let m = the_view c.self.inside in
    let is = rw (← c.self.view_is) at c.in_ok-kind.ensures in
    let parts = rw (← c.self.view_is) at c.requires in
    let interned = interned_const _ _ _ _ c.in_ok-at.ensures.interned in
    let (more, longer) = interned_more _ _ _ _ interned in
    rw (← c.self.view_is) (form_at m (record m { consts = c.get.new.self }) c.args.kind c.in_ok-kind.kind (record { 0 = c.in_ok-at.at }) c.self.invariant (invariant_of-self-2 c) refl parts is
    (subst (IsConstIn m) (sym is) (one_form_in m c.args.kind c.self.invariant parts)) interned.here more longer)

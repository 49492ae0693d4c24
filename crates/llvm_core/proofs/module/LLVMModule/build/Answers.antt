-- The goals of `module::LLVMModule::build` that the tactics leave.
use Rattle.std.proofs.lemmas.Result.{err_from_is_err_and}
use Rattle.llvm_core.proofs.SoundLemmas.{inst_built}
use Rattle.llvm_core.proofs.CallLemmas.{inst_built_data}
use Rattle.llvm_core.proofs.FreshLemmas.{inst_fresh}
use Rattle.llvm_core.proofs.module.LLVMModule.build.Goals as goal

pub invariant_of-self : goal.invariant_of-self
invariant_of-self c = rw c.in_err-i.ensures.err c.self.invariant

pub returns-in_err-i-clause-sound : goal.returns-in_err-i-clause-sound
returns-in_err-i-clause-sound c = invariant_of-self c

pub invariant_of-self-2 : goal.invariant_of-self-2
invariant_of-self-2 c =
    let same = rw (← c.self.view_is) at c.in_ok-ty.ensures.rest in
    let within = rw (← c.self.view_is) at c.in_ok-ty.ensures.within in
    let typed = rw (← c.self.view_is) at c.in_ok-ty.ensures.ty in
    rw c.in_ok-i.ensures.ok
    (inst_built c.args.self.now _ c.args.block c.in_ok-i.i c.args.name.now c.in_ok-ty.ty c.args.inst c.in_ok-ty.ensures.kept c.self.invariant same c.requires.block c.in_ok-i.ensures.number within typed c.requires.values)

pub returns-clause-sound : goal.returns-clause-sound
returns-clause-sound c = invariant_of-self-2 c

pub returns-in_err-i-clause-data_err : goal.returns-in_err-i-clause-data_err
returns-in_err-i-clause-data_err c =
    let p = err_from_is_err_and c.from_residual-in_err-i.result c.from_residual-in_err-i.ensures.1 in
    let same = rw (← c.self.view_is) at c.in_ok-ty.ensures.data in
    rw (p.1, c.in_err-i.ensures.err) same

pub returns-clause-data : goal.returns-clause-data
returns-clause-data c =
    let same = rw (← c.self.view_is) at c.in_ok-ty.ensures.rest in
    let typed = rw (← c.self.view_is) at c.in_ok-ty.ensures.ty in
    rw c.in_ok-i.ensures.ok
    (inst_built_data c.args.self.now _ c.args.block c.in_ok-i.i c.args.name.now c.in_ok-ty.ty c.args.inst c.in_ok-ty.ensures.kept c.self.invariant same c.in_ok-i.ensures.number c.requires.values typed)

pub returns-clause-fresh : goal.returns-clause-fresh
returns-clause-fresh c =
    let same = rw (← c.self.view_is) at c.in_ok-ty.ensures.rest in
    inst_fresh c.args.self.now _ c.in_ok-i.i c.in_ok-ty.ensures.kept same c.in_ok-i.ensures.number

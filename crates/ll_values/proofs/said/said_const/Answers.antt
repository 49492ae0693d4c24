-- A constant of the module is the one that was given to it.
use Rattle.std.proofs.Common.{Some, ap}
use Rattle.std.proofs.lemmas.Option.{slice_get_within}
use Rattle.llvm_core.specs.Module.{Module}
use Rattle.llvm_core.specs.Consts.{one_form}
use Rattle.llvm_core.specs.Data.{ConstTree}
use Rattle.ll_values.specs.Values.{plain}
use Rattle.ll_values.proofs.GrowLaws.{const_interned}
use Rattle.ll_values.proofs.SaidLaws.{given_const}
use Rattle.ll_values.proofs.said.said_const.Goals as goal

pub returns-clause-interns : goal.returns-clause-interns
returns-clause-interns c = const_interned _ _ _ _ c.in_ok-c.ensures.interned c.in_ok-c.ensures.rest c.in_ok-c.ensures.data c.in_ok-c.ensures.sound

pub returns-clause-there : goal.returns-clause-there
returns-clause-there c = λ made. slice_get_within _ _ _ c.in_ok-c.ensures.interned.here

pub returns-clause-said : goal.returns-clause-said
returns-clause-said c = λ bytes table.
    let same = ap (λ (m : Module). m.types) c.in_ok-c.ensures.rest in
    rw c.in-Some.is (ap (λ (t : ConstTree). Some (plain t)) (given_const c.args.m.now c.const_get.new.self c.in_ok-c.c (one_form c.args.m.now c.in-Some.kind) c.in_ok-c.ensures.sound same c.in_ok-c.ensures.interned))

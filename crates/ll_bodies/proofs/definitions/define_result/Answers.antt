-- What `definitions::define_result` owes besides what the check finds.
use Rattle.std.proofs.Common.{refl}
use Rattle.std.proofs.lemmas.Result.{on_ok_weaker}
use Rattle.ll_bodies.specs.SourceViews.{types_in}
use Rattle.ll_bodies.proofs.ScopeLaws.{takes_same, refuses_same}
use Rattle.ll_bodies.proofs.DefineLaws.{some_result, result_added}
use Rattle.ll_bodies.proofs.definitions.define_result.Goals as goal

pub returns-in-Some-clause-ok : goal.returns-in-Some-clause-ok
returns-in-Some-clause-ok c =
    let s = c.args.source.now in
    let l = c.args.line.now in
    on_ok_weaker c.define_local.result (λ h. takes_same (types_in s) c.args.scope.now c.define_local.new.scope _ _ (h (types_in s)) (some_result s c.args.number l _ c.in-Some.ensures.ty)) c.define_local.ensures.ok

pub returns-in-Some-clause-adds : goal.returns-in-Some-clause-adds
returns-in-Some-clause-adds c =
    let s = c.args.source.now in
    let l = c.args.line.now in
    on_ok_weaker c.define_local.result (λ h. result_added s c.args.scope.now c.define_local.new.scope c.args.number l _ c.in-Some.ty refl c.in-Some.ensures.ty c.in-Some.ensures.within h) c.define_local.ensures.adds

pub returns-in-Some-clause-not_yet : goal.returns-in-Some-clause-not_yet
returns-in-Some-clause-not_yet c = λ e.
    let s = c.args.source.now in
    let l = c.args.line.now in
    refuses_same (types_in s) c.args.scope.now _ _ (c.define_local.ensures.not_yet e (types_in s)) (some_result s c.args.number l _ c.in-Some.ensures.ty)

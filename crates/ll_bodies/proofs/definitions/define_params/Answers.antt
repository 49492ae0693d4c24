-- What `definitions::define_params` owes besides what the check finds.
use Rattle.std.proofs.Common.{◌+◌, refl, arith}
use Rattle.std.proofs.lemmas.Option.{slice_get-get_or}
use Rattle.ll_bodies.specs.SourceViews.{types_in}
use Rattle.ll_bodies.proofs.ScopeLaws.{steps_start, adds_none}
use Rattle.ll_bodies.proofs.DefineLaws.{params_more, params_refused, params_end, params_add}
use Rattle.ll_bodies.proofs.ErrLaws.{passed_on}
use Rattle.ll_bodies.proofs.definitions.define_params.Goals as goal

pub loop-param-init : goal.loop-param-init
loop-param-init c = record { place = refl; steps = steps_start (types_in c.args.source.now) c.args.scope.now _; adds = adds_none _ c.args.scope.now }

pub loop-param-preserved : goal.loop-param-preserved
loop-param-preserved c =
    let i = c.loop-param.invariant in
    let at = c.loop-param.param-index in
    let here = slice_get-get_or c.args.params.now at _ c.loop-param-test.true in
    let o = c.in_ok-define_param.ensures in
    let n = c.in_ok-place.ensures.next in
    record {
      place = omega (arith, i.place, n);
      steps = params_more c.args.source.now c.args.scope.now c.loop-param.scope c.define_param.new.scope c.args.params.now c.args.f.0 at (at + 1) _ here refl i.steps (rw i.place at o.ok);
      adds = params_add c.args.f c.args.scope.now c.loop-param.scope c.define_param.new.scope c.args.params.now at _ here i.adds (rw i.place at o.adds);
    }

pub returns-clause-ok : goal.returns-clause-ok
returns-clause-ok c = params_end c.args.source.now c.args.scope.now c.loop-param.scope c.args.params.now c.args.f.0 c.loop-param.param-index c.loop-param-test.false c.loop-param.invariant.steps

pub returns-in_err-define_param-clause-not_yet : goal.returns-in_err-define_param-clause-not_yet
returns-in_err-define_param-clause-not_yet c = λ e.
    let i = c.loop-param.invariant in
    let x = c.in_err-define_param in
    let at = c.loop-param.param-index in
    let here = slice_get-get_or c.args.params.now at _ c.loop-param-test.true in
    params_refused c.args.source.now c.args.scope.now c.loop-param.scope c.args.params.now c.args.f.0 at _ here i.steps
    (rw i.place at (x.ensures.not_yet (passed_on c.from_residual.result x.field-0.0 c.from_residual.ensures.1 e)))

-- What `bodies::body_insts` owes besides what the check finds.
use Rattle.std.proofs.Common.{◌≡◌, ◌+◌, suc, refl, arith}
use Rattle.std.proofs.lemmas.Option.{slice_get_read}
use Rattle.std.proofs.lemmas.List.Elements.{All-nil}
use Rattle.ll_bodies.specs.TypedViews.{IsTypedBody}
use Rattle.ll_bodies.proofs.BodyLaws.{up_to_none, up_to_more, up_to_all, up_to_refused}
use Rattle.ll_bodies.proofs.ErrLaws.{passed_on}
use Rattle.ll_bodies.proofs.bodies.body_insts.Goals as goal

pub loop-part-init : goal.loop-part-init
loop-part-init c = rw (c.from_vec-made.ensures, c.in_ok-with_capacity.ensures.items) (up_to_none c.args.source.now c.args.scope.now c.args.lines.now, All-nil (IsTypedBody c.args.source.now.module.now))

pub loop-part-preserved : goal.loop-part-preserved
loop-part-preserved c =
    let at = c.loop-part.part-index in
    let next : at + 1 ≡ suc at = omega arith in
    let here = slice_get_read c.args.lines.now _ at _ refl c.loop-part-test.true c.part-item.is in
    (up_to_more c.args.source.now c.args.scope.now c.args.lines.now at (at + 1) c.part-item.result c.loop-part.made c.add_part.new.made here next c.loop-part.invariant.0 c.in_ok-add_part.ensures.ok, c.in_ok-add_part.ensures.typed c.loop-part.invariant.1)

pub returns-clause-ok : goal.returns-clause-ok
returns-clause-ok c = up_to_all c.args.source.now c.args.scope.now c.args.lines.now c.loop-part.part-index c.loop-part.made c.loop-part-test.false c.loop-part.invariant.0

pub returns-in_err-add_part-clause-not_yet : goal.returns-in_err-add_part-clause-not_yet
returns-in_err-add_part-clause-not_yet c = λ e.
    let x = c.in_err-add_part in
    let at = c.loop-part.part-index in
    let here = slice_get_read c.args.lines.now _ at _ refl c.loop-part-test.true c.part-item.is in
    up_to_refused c.args.source.now c.args.scope.now c.args.lines.now at c.part-item.result c.loop-part.made here c.loop-part.invariant.0
    (x.ensures.not_yet (passed_on c.from_residual-in_err-add_part.result x.field-0.0 c.from_residual-in_err-add_part.ensures.1 e))

-- What `definitions::define_lines` owes besides what the check finds.
use Rattle.std.proofs.Common.{◌≡◌, ◌+◌, suc, refl, arith}
use Rattle.std.proofs.lemmas.Option.{slice_get_read}
use Rattle.ll_bodies.proofs.BlockLaws.{reached_none, reached_more}
use Rattle.ll_bodies.proofs.ScopeLaws.{steps_start, adds_none}
use Rattle.ll_bodies.proofs.DefineLaws.{lines_more, lines_refused, lines_end, lines_add}
use Rattle.ll_bodies.proofs.ErrLaws.{passed_on}
use Rattle.ll_bodies.specs.SourceViews.{types_in}
use Rattle.ll_bodies.proofs.definitions.define_lines.Goals as goal

pub loop-part-init : goal.loop-part-init
loop-part-init c = record { reached = reached_none c.args.lines.now c.args.first; steps = steps_start (types_in c.args.source.now) c.args.scope.now _; adds = adds_none _ c.args.scope.now }

pub loop-part-preserved : goal.loop-part-preserved
loop-part-preserved c =
    let i = c.loop-part.invariant in
    let at = c.loop-part.part-index in
    let here = slice_get_read c.args.lines.now _ at _ refl c.loop-part-test.true c.part-item.is in
    let next : at + 1 ≡ suc at = omega arith in
    let o = c.in_ok-number.ensures in
    record {
      reached = reached_more c.args.lines.now at (at + 1) c.args.first c.loop-part.number c.in_ok-number.number c.part-item.result here next o.next i.reached;
      steps = lines_more c.args.source.now c.args.scope.now c.loop-part.scope c.define_part.new.scope c.args.lines.now at (at + 1) c.args.first c.loop-part.number c.in_ok-number.number c.part-item.result here next o.next i.steps o.ok;
      adds = lines_add c.args.source.now c.args.scope.now c.loop-part.scope c.define_part.new.scope c.args.lines.now at (at + 1) c.args.first c.loop-part.number c.part-item.result here next i.reached i.adds o.adds;
    }

pub returns-clause-ok : goal.returns-clause-ok
returns-clause-ok c = lines_end c.args.source.now c.args.scope.now c.loop-part.scope c.args.lines.now c.loop-part.part-index c.args.first c.loop-part.number c.loop-part-test.false c.loop-part.invariant.steps

pub returns-in_err-number-clause-not_yet : goal.returns-in_err-number-clause-not_yet
returns-in_err-number-clause-not_yet c = λ e.
    let x = c.in_err-number in
    let at = c.loop-part.part-index in
    let here = slice_get_read c.args.lines.now _ at _ refl c.loop-part-test.true c.part-item.is in
    lines_refused c.args.source.now c.args.scope.now c.loop-part.scope c.args.lines.now at c.args.first c.loop-part.number c.part-item.result here c.loop-part.invariant.steps
    (x.ensures.not_yet (passed_on c.from_residual.result x.field-0.0 c.from_residual.ensures.1 e))

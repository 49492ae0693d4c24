-- What `definitions::define_blocks` owes besides what the check finds.
use Rattle.std.proofs.Common.{◌≡◌, ◌+◌, suc, refl, arith}
use Rattle.std.proofs.lemmas.Option.{slice_get_read}
use Rattle.ll_bodies.proofs.ScopeLaws.{steps_start, adds_none}
use Rattle.ll_bodies.proofs.DefineLaws.{blocks_more, blocks_refused, blocks_end, blocks_add, count_more}
use Rattle.ll_bodies.proofs.ErrLaws.{passed_on}
use Rattle.ll_bodies.specs.SourceViews.{types_in}
use Rattle.ll_bodies.proofs.definitions.define_blocks.Goals as goal

pub loop-block-init : goal.loop-block-init
loop-block-init c = record { number = omega arith; count = omega arith; steps = steps_start (types_in c.args.source.now) c.args.scope.now _; adds = adds_none _ c.args.scope.now }

pub loop-block-preserved : goal.loop-block-preserved
loop-block-preserved c =
    let i = c.loop-block.invariant in
    let at = c.loop-block.block-index in
    let x = c.block-item.result in
    let here = slice_get_read c.args.blocks.now _ at _ refl c.loop-block-test.true c.block-item.is in
    let next : at + 1 ≡ suc at = omega arith in
    let o = c.in_ok-next.ensures in
    let n = c.in_ok-number.ensures.next in
    record {
      number = omega (arith, i.number, n);
      count = count_more c.args.blocks.now at c.args.first c.loop-block.next c.in_ok-next.next x here i.count o.next;
      steps = blocks_more c.args.source.now c.args.scope.now c.loop-block.scope c.define_block.new.scope c.args.blocks.now at (at + 1) c.args.first_block c.args.first c.loop-block.number c.in_ok-number.number c.loop-block.next c.in_ok-next.next x here next n o.next i.steps o.ok;
      adds = blocks_add c.args.source.now c.args.scope.now c.loop-block.scope c.define_block.new.scope c.args.blocks.now at c.args.first_block c.args.first c.loop-block.number c.loop-block.next x here i.number i.count i.adds o.adds;
    }

pub returns-clause-ok : goal.returns-clause-ok
returns-clause-ok c = blocks_end c.args.source.now c.args.scope.now c.loop-block.scope c.args.blocks.now c.loop-block.block-index c.args.first_block c.args.first c.loop-block.number c.loop-block.next c.loop-block-test.false c.loop-block.invariant.steps

pub returns-in_err-next-clause-not_yet : goal.returns-in_err-next-clause-not_yet
returns-in_err-next-clause-not_yet c = λ e.
    let x = c.in_err-next in
    let at = c.loop-block.block-index in
    let here = slice_get_read c.args.blocks.now _ at _ refl c.loop-block-test.true c.block-item.is in
    blocks_refused c.args.source.now c.args.scope.now c.loop-block.scope c.args.blocks.now at c.args.first_block c.args.first c.loop-block.number c.loop-block.next c.block-item.result here c.loop-block.invariant.steps
    (x.ensures.not_yet (passed_on c.from_residual.result x.field-0.0 c.from_residual.ensures.1 e))

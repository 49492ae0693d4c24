-- What `bodies::body_blocks` owes besides what the check finds.
use Rattle.std.proofs.Common.{refl}
use Rattle.std.proofs.lemmas.Option.{slice_get_read}
use Rattle.std.proofs.lemmas.List.Elements.{All-nil}
use Rattle.llvm_core.specs.declared.bodies.BodyBlock.{BodyBlock}
use Rattle.ll_bodies.specs.TypedViews.{AreTypedInsts}
use Rattle.ll_bodies.proofs.KeptLaws.{all_push}
use Rattle.ll_bodies.proofs.BodyLaws.{no_blocks, blocks_more, blocks_all, blocks_unmade}
use Rattle.ll_bodies.proofs.ErrLaws.{passed_on}
use Rattle.ll_bodies.proofs.bodies.body_blocks.Goals as goal

pub loop-block-init : goal.loop-block-init
loop-block-init c = rw (c.from_vec-made.ensures, c.in_ok-with_capacity.ensures.items) (no_blocks c.args.source.now c.args.scope.now, All-nil (λ (b : BodyBlock). AreTypedInsts c.args.source.now.module.now b.insts))

pub loop-block-preserved : goal.loop-block-preserved
loop-block-preserved c =
    let at = c.loop-block.block-index in
    let here = slice_get_read c.args.blocks.now _ at _ refl c.loop-block-test.true c.block-item.is in (
      blocks_more c.args.source.now c.args.scope.now c.args.blocks.now at c.block-item.result c.loop-block.made c.push.new.self c.in_ok-body.body here c.in_ok-push.ensures.ok c.in_ok-body.ensures.name c.in_ok-body.ensures.insts c.loop-block.invariant.0,
      rw c.in_ok-push.ensures.ok (all_push (λ (b : BodyBlock). AreTypedInsts c.args.source.now.module.now b.insts) c.loop-block.made c.in_ok-body.body c.loop-block.invariant.1 c.in_ok-body.ensures.typed),
    )

pub returns-clause-ok : goal.returns-clause-ok
returns-clause-ok c = blocks_all c.args.source.now c.args.scope.now c.args.blocks.now c.loop-block.block-index c.loop-block.made c.loop-block-test.false c.loop-block.invariant.0

pub returns-in_err-body-clause-not_yet : goal.returns-in_err-body-clause-not_yet
returns-in_err-body-clause-not_yet c = λ e.
    let x = c.in_err-body in
    let at = c.loop-block.block-index in
    let here = slice_get_read c.args.blocks.now _ at _ refl c.loop-block-test.true c.block-item.is in
    blocks_unmade c.args.source.now c.args.scope.now c.args.blocks.now at c.block-item.result c.loop-block.made here c.loop-block.invariant.0
    (x.ensures.not_yet (passed_on c.from_residual-in_err-body.result x.field-0.0 c.from_residual-in_err-body.ensures.1 e))

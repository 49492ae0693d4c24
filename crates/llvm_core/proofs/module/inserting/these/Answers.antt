-- What `module::inserting::these` owes besides what the check finds.
use Rattle.std.proofs.Common.{◌<◌, length, arith}
use Rattle.llvm_core.specs.declared.pieces.Piece.TheVariants as P
use Rattle.llvm_core.proofs.PieceLemmas.{mapped_more}
use Rattle.llvm_core.proofs.module.inserting.these.Goals as goal

pub loop-element-preserved : goal.loop-element-preserved
loop-element-preserved c =
    let lt : c.loop-element.element-index < length c.args.elements.now = omega (arith, c.loop-element-test.true) in
    mapped_more P.There c.args.elements.now c.loop-element.element-index _ _ _ lt c.loop-element.invariant c.in_ok-push.ensures.ok

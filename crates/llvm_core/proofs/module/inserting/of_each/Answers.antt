-- What `module::inserting::of_each` owes besides what the check finds.
use Rattle.std.proofs.Common.{◌<◌, length, arith}
use Rattle.llvm_core.specs.declared.pieces.Piece.TheVariants as P
use Rattle.llvm_core.proofs.PieceLemmas.{mapped_more}
use Rattle.llvm_core.proofs.module.inserting.of_each.Goals as goal

pub loop-ty-preserved : goal.loop-ty-preserved
loop-ty-preserved c =
    let lt : c.loop-ty.ty-index < length c.args.types.now = omega (arith, c.loop-ty-test.true) in
    mapped_more (P.Filled c.args.fill) c.args.types.now c.loop-ty.ty-index _ _ _ lt c.loop-ty.invariant c.in_ok-push.ensures.ok

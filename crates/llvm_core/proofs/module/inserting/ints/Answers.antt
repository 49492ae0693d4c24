-- What `module::inserting::ints` owes besides what the check finds.
use Rattle.std.proofs.Common.{◌<◌, length, arith}
use Rattle.llvm_core.specs.declared.pieces.Piece.TheVariants as P
use Rattle.llvm_core.proofs.PieceLemmas.{mapped_more}
use Rattle.llvm_core.proofs.module.inserting.ints.Goals as goal

pub loop-byte-preserved : goal.loop-byte-preserved
loop-byte-preserved c =
    let lt : c.loop-byte.byte-index < length c.args.bytes.now = omega (arith, c.loop-byte-test.true) in
    mapped_more (P.Int c.args.ty) c.args.bytes.now c.loop-byte.byte-index _ _ _ lt c.loop-byte.invariant c.in_ok-push.ensures.ok

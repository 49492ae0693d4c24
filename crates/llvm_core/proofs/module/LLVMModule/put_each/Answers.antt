-- What `module::LLVMModule::put_each` owes besides what the check finds.
use Rattle.std.proofs.Common.{◌<◌, ◌+◌, List, length, slice_index_or, sym, subst, arith}
use Rattle.std.proofs.lemmas.Option.{slice_get-get_or}
use Rattle.llvm_core.specs.declared.numbers.LLVMConst.{LLVMConst}
use Rattle.llvm_core.specs.declared.pieces.Piece.{Piece}
use Rattle.llvm_core.specs.declared.pieces.Piece.TheVariants as P
use Rattle.llvm_core.specs.Pieces.{ArePut}
use Rattle.llvm_core.proofs.InsertLemmas.{piece_at, put_more, put_trees, put_list}
use Rattle.llvm_core.proofs.module.LLVMModule.put_each.Goals as goal

pub put-requires : goal.put-requires
put-requires c =
    let ps = c.args.pieces.now in
    let i = c.loop-piece.piece-index in
    let d : Piece = P.There (record { 0 = 0 }) in
    let lt : i < length ps = omega (arith, c.loop-piece-test.true) in
    let r = piece_at c.args.self.now c.loop-piece.self c.requires.0 ps i (slice_index_or ps i d) c.loop-piece.invariant.grown c.requires.1 (slice_get-get_or ps i d lt) in
    (r.0, r.2)

pub loop-piece-preserved : goal.loop-piece-preserved
loop-piece-preserved c =
    let m = c.args.self.now in
    let ps = c.args.pieces.now in
    let i = c.loop-piece.piece-index in
    let d : Piece = P.There (record { 0 = 0 }) in
    let lt : i < length ps = omega (arith, c.loop-piece-test.true) in
    let at = slice_get-get_or ps i d lt in
    let r = piece_at m c.loop-piece.self c.requires.0 ps i (slice_index_or ps i d) c.loop-piece.invariant.grown c.requires.1 at in
    subst (λ (cs : List LLVMConst). ArePut m c.put.new.self ps (i + 1) cs) (sym c.in_ok-push.ensures.ok)
    (put_more m c.loop-piece.self c.put.new.self ps i c.loop-piece.all (slice_index_or ps i d) c.in_ok-c.c r.0 c.loop-piece.invariant c.in_ok-c.ensures.grown at r.1 c.in_ok-c.ensures.is)

pub returns-clause-trees : goal.returns-clause-trees
returns-clause-trees c = put_trees c.args.self.now c.loop-piece.self c.args.pieces.now c.loop-piece.piece-index c.loop-piece.all c.loop-piece.invariant (omega (arith, c.loop-piece-test.false))

pub returns-clause-list : goal.returns-clause-list
returns-clause-list c = put_list c.args.self.now c.loop-piece.self c.args.pieces.now c.loop-piece.piece-index c.loop-piece.all c.loop-piece.invariant (omega (arith, c.loop-piece-test.false))

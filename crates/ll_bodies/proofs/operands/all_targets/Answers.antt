-- What `operands::all_targets` owes besides what the check finds.
use Rattle.std.proofs.Common.{◌≡◌, ◌+◌, suc, arith}
use Rattle.std.proofs.lemmas.Option.{slice_get-get_or}
use Rattle.llvm_core.specs.declared.numbers.LLVMBasicBlock.{LLVMBasicBlock}
use Rattle.ll_lines.specs.Views.{text_of}
use Rattle.ll_bodies.specs.Scopes.{block_of}
use Rattle.ll_bodies.proofs.ListLaws.{done_more}
use Rattle.ll_bodies.proofs.operands.all_targets.Goals as goal

pub loop-name-preserved : goal.loop-name-preserved
loop-name-preserved c = λ s knows.
    let at = c.loop-name.name-index in
    let next : at + 1 ≡ suc at = omega arith in
    let here = slice_get-get_or c.args.names.now at _ c.loop-name-test.true in
    rw c.in_ok-push.ensures.ok (done_more (text_of c.args.source.now.bytes.now) (block_of s) (λ (b : LLVMBasicBlock). b.0) c.args.names.now at (at + 1) c.loop-name.blocks _ c.in_ok-found.found here next (c.in_ok-found.ensures.ok s knows) (c.loop-name.invariant s knows))

-- Each target prints behind the others.
use Rattle.std.proofs.Common.{ap, ◌∙◌, ◌++◌, ℕ, List}
use Rattle.llvm_core.specs.declared.numbers.LLVMBasicBlock.{LLVMBasicBlock}
use Rattle.ll_print.specs.Printing.{target_text}
use Rattle.ll_print.specs.Parts.{function_in}
use Rattle.ll_print.proofs.StrungLaws.{behind_comma, strung_put, strung_all, comma_put, targets_strung}
use Rattle.support.proofs.ListLaws.{appended_twice}
use Rattle.ll_print.proofs.instructions.put_targets.Goals as goal

pub put_block_ref-requires-clause-own : goal.put_block_ref-requires-clause-own
put_block_ref-requires-clause-own c = c.requires.own c.loop-place.place _ c.loop-place-test.true

pub loop-place-preserved : goal.loop-place-preserved
loop-place-preserved c =
    let target = target_text (function_in c.args.m.now c.args.numbers.now.function) in
    strung_put target (behind_comma target) (λ (b : LLVMBasicBlock). b.0) c.args.targets.now c.loop-place.place _ c.args.out.now.items _ _ c.loop-place-test.true c.loop-place.invariant
    (comma_put target c.loop-place.place _ _ _ _ c.in_ok-put_comma.ensures.text (appended_twice _ _ _ _ _ c.in_ok-extend_from_slice.ensures.items c.in_ok-put_block_ref.ensures.text))

pub returns-clause-text : goal.returns-clause-text
returns-clause-text c =
    let f = function_in c.args.m.now c.args.numbers.now.function in
    strung_all (target_text f) (behind_comma (target_text f)) (λ (b : LLVMBasicBlock). b.0) c.args.targets.now c.loop-place.place c.args.out.now.items _ c.loop-place-test.false c.loop-place.invariant
    ∙ ap (λ (t : List ℕ). c.args.out.now.items ++ t) (targets_strung f _)

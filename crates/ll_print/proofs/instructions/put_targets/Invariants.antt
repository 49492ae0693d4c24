-- The targets so far have been printed.
use Rattle.std.proofs.Common.{◌≡◌, ◌++◌, take, map}
use Rattle.llvm_core.specs.declared.numbers.LLVMBasicBlock.{LLVMBasicBlock}
use Rattle.ll_print.specs.Printing.{target_text}
use Rattle.ll_print.specs.Parts.{function_in}
use Rattle.ll_print.proofs.StrungLaws.{strung, behind_comma}
use Rattle.ll_print.proofs.instructions.put_targets.Given as goal

abbrev pub invariant-loop-place : goal.invariant-loop-place
invariant-loop-place l =
    let target = target_text (function_in l.m l.numbers.function) in
    l.out.items ≡ l.fn.out.items ++ strung target (behind_comma target) (take l.place (map (λ (b : LLVMBasicBlock). b.0) l.targets))

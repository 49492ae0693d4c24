-- The operands so far have been printed.
use Rattle.std.proofs.Common.{◌≡◌, ◌++◌, take, map}
use Rattle.llvm_core.specs.Data.{trees_of, structs_of, operand_of}
use Rattle.ll_print.specs.Printing.{operand_text, value_text}
use Rattle.ll_print.specs.Parts.{function_in}
use Rattle.ll_print.proofs.StrungLaws.{strung, behind_comma}
use Rattle.ll_print.proofs.instructions.put_operands.Given as goal

abbrev pub invariant-loop-place : goal.invariant-loop-place
invariant-loop-place l =
    let ss = structs_of l.m in
    let f = function_in l.m l.numbers.function in
    l.out.items ≡ l.fn.out.items ++ strung (value_text ss f) (behind_comma (operand_text ss f)) (take l.place (map (operand_of (trees_of l.m)) l.operands))

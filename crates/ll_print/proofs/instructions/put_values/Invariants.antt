-- The operands so far have been printed.
use Rattle.std.proofs.Common.{◌≡◌, ◌++◌, take, map}
use Rattle.llvm_core.specs.Data.{trees_of, structs_of, operand_of}
use Rattle.ll_print.specs.Printing.{value_text}
use Rattle.ll_print.specs.Parts.{function_in}
use Rattle.ll_print.proofs.StrungLaws.{strung, behind_comma}
use Rattle.ll_print.proofs.instructions.put_values.Given as goal

abbrev pub invariant-loop-place : goal.invariant-loop-place
invariant-loop-place l =
    let value = value_text (structs_of l.m) (function_in l.m l.numbers.function) in
    l.out.items ≡ l.fn.out.items ++ strung value (behind_comma value) (take l.place (map (operand_of (trees_of l.m)) l.operands))

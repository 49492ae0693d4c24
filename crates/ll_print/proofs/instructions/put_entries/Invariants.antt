-- The entries so far have been printed.
use Rattle.std.proofs.Common.{◌≡◌, ◌++◌, take, map}
use Rattle.llvm_core.specs.Data.{trees_of, structs_of, entry_of}
use Rattle.ll_print.specs.Printing.{entry_text}
use Rattle.ll_print.specs.Parts.{function_in}
use Rattle.ll_print.proofs.StrungLaws.{strung, behind_comma}
use Rattle.ll_print.proofs.instructions.put_entries.Given as goal

abbrev pub invariant-loop-place : goal.invariant-loop-place
invariant-loop-place l =
    let entry = entry_text (structs_of l.m) (function_in l.m l.numbers.function) in
    l.out.items ≡ l.fn.out.items ++ strung entry (behind_comma entry) (take l.place (map (entry_of (trees_of l.m)) l.entries))

-- The functions so far have been printed behind the name and the structs, and have numbers.
use Rattle.std.proofs.Common.{◌≡◌, ◌<◌, ℕ, ◌++◌, take}
use Rattle.std.specs.List.{flat_map}
use Rattle.llvm_core.specs.Data.{data_of, structs_of}
use Rattle.ll_print.specs.Printing.{source_text, structs_text, function_text}
use Rattle.ll_print.specs.Parts.{function_in, IsNumberable}
use Rattle.ll_print.proofs.printer.put_module.Given as goal

abbrev pub invariant-loop-f : goal.invariant-loop-f
invariant-loop-f l = record {
  text : l.out.items ≡ (l.fn.out.items ++ source_text l.m.name ++ structs_text (structs_of l.m)) ++ flat_map (function_text (structs_of l.m)) (take l.f (data_of l.m).functions);
  numbers : (f : ℕ) → f < l.f → IsNumberable (function_in l.m (record { 0 = f }));
}

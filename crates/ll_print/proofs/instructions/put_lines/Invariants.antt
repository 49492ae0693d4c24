-- The lines so far have been printed.
use Rattle.std.proofs.Common.{◌≡◌, ◌++◌, take}
use Rattle.std.specs.List.{flat_map}
use Rattle.ll_print.specs.Parts.{function_in, line_of}
use Rattle.ll_print.proofs.instructions.put_lines.Given as goal

abbrev pub invariant-loop-i : goal.invariant-loop-i
invariant-loop-i l = l.out.items ≡ l.fn.out.items ++ flat_map (line_of l.m (function_in l.m l.numbers.function)) (take l.i-index l.insts)

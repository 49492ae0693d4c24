-- The blocks so far have been printed.
use Rattle.std.proofs.Common.{◌≡◌, ◌++◌, take}
use Rattle.std.specs.List.{flat_map}
use Rattle.ll_print.specs.Parts.{function_in, lines_of}
use Rattle.ll_print.proofs.functions.put_later_blocks.Given as goal

abbrev pub invariant-loop-b : goal.invariant-loop-b
invariant-loop-b l = l.out.items ≡ l.fn.out.items ++ flat_map (lines_of l.m (function_in l.m l.numbers.function)) (take l.b-index l.blocks)

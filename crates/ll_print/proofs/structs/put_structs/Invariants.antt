-- The structs so far have been printed behind what stands before them.
use Rattle.std.proofs.Common.{◌≡◌, ◌++◌, length, take}
use Rattle.std.specs.List.{flat_map}
use Rattle.ll_print.specs.Parts.{blank_text}
use Rattle.ll_print.proofs.StructLaws.{line_of}
use Rattle.ll_print.proofs.structs.put_structs.Given as goal

abbrev pub invariant-loop-s : goal.invariant-loop-s
invariant-loop-s l = l.out.items ≡ (l.fn.out.items ++ blank_text (length l.m.structs)) ++ flat_map (line_of l.m) (take l.s l.m.structs)

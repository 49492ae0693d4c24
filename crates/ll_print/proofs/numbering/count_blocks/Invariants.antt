-- Those so far have been counted.
use Rattle.std.proofs.Common.{take}
use Rattle.std.specs.List.{flat_map}
use Rattle.ll_print.specs.Numbering.{Counts}
use Rattle.ll_print.specs.Parts.{unnamed_of}
use Rattle.ll_print.proofs.numbering.count_blocks.Given as goal

abbrev pub invariant-loop-b : goal.invariant-loop-b
invariant-loop-b l = Counts l.fn.numbers l.numbers (flat_map (unnamed_of l.m) (take l.b-index l.blocks))

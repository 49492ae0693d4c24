-- Those so far have been counted.
use Rattle.std.proofs.Common.{take}
use Rattle.std.specs.List.{flat_map}
use Rattle.ll_print.specs.Numbering.{Counts}
use Rattle.ll_print.specs.Parts.{unnamed_at}
use Rattle.ll_print.proofs.numbering.count_insts.Given as goal

abbrev pub invariant-loop-i : goal.invariant-loop-i
invariant-loop-i l = Counts l.fn.numbers l.numbers (flat_map (unnamed_at l.m) (take l.i-index l.insts))

-- The parameters so far have been counted.
use Rattle.std.proofs.Common.{take}
use Rattle.ll_print.specs.Printing.{unnamed_params}
use Rattle.ll_print.specs.Numbering.{Counts}
use Rattle.ll_print.specs.Parts.{function_in}
use Rattle.ll_print.proofs.numbering.count_params.Given as goal

abbrev pub invariant-loop-place : goal.invariant-loop-place
invariant-loop-place l = Counts l.fn.numbers l.numbers (unnamed_params 0 (take l.place (function_in l.m l.fn.numbers.function).params))

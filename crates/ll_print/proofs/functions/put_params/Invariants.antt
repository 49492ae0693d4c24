-- The parameters so far have been printed.
use Rattle.std.proofs.Common.{◌≡◌, ◌++◌, take}
use Rattle.ll_print.specs.Printing.{params_text}
use Rattle.ll_print.specs.Parts.{function_in}
use Rattle.ll_print.proofs.functions.put_params.Given as goal

abbrev pub invariant-loop-place : goal.invariant-loop-place
invariant-loop-place l = l.out.items ≡ l.fn.out.items ++ params_text (function_in l.m l.numbers.function) 0 (take l.place (function_in l.m l.numbers.function).params)

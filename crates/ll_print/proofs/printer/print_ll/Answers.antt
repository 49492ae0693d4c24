-- What is printed is cut into tokens that spell the module, and its last line has an end.
use Rattle.std.proofs.lemmas.Result.{on_ok_weaker}
use Rattle.llvm_core.specs.Data.{data_of}
use Rattle.ll_print.proofs.SpelledLaws.{module_spelled, module_lines, on_ok_of}
use Rattle.ll_print.proofs.printer.print_ll.Goals as goal

pub returns-clause-spelled : goal.returns-clause-spelled
returns-clause-spelled c =
    rw c.undo_failed.ensures.same
    (on_ok_weaker c.put_module-printed.result (module_spelled (data_of c.args.«module».now) c.requires.form c.put_module-printed.ensures.utf8 c.requires.names) c.put_module-printed.ensures.numbers)

pub returns-clause-lines : goal.returns-clause-lines
returns-clause-lines c = on_ok_of c.undo_failed.result (module_lines (data_of c.args.«module».now))

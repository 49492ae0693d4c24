-- What the loop of `report::print_structs` keeps.
use Rattle.std.proofs.Common.{◌≡◌, ◌++◌, take}
use Rattle.round_ll.specs.Report.{structs_text}
use Rattle.round_ll.proofs.report.print_structs.Given as goal

abbrev pub invariant-loop-source : goal.invariant-loop-source
invariant-loop-source l = l.out.items ≡ l.initial.out.items ++ structs_text (take l.source-index l.structs)

-- What the loop of `report::print_all_blocks` keeps.
use Rattle.std.proofs.Common.{◌≡◌, ◌++◌, take}
use Rattle.llvm_core.specs.Data.{data_of}
use Rattle.round_ll.specs.Report.{blocks_text}
use Rattle.round_ll.proofs.report.print_all_blocks.Given as goal

abbrev pub invariant-loop-x : goal.invariant-loop-x
invariant-loop-x l = l.out.items ≡ l.initial.out.items ++ blocks_text (data_of l.«module») (take l.x-index l.blocks)

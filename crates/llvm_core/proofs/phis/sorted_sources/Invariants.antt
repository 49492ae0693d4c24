-- What the loop of `phis::sorted_sources` keeps.
use Rattle.std.proofs.Common.{◌≡◌, take}
use Rattle.llvm_core.specs.Checked.{sources}
use Rattle.llvm_core.proofs.phis.sorted_sources.Given as goal

abbrev pub invariant-loop-entry : goal.invariant-loop-entry
invariant-loop-entry l = l.from.items ≡ sources (take l.entry-index l.entries)

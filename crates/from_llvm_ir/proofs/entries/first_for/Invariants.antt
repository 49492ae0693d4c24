-- No entry so far is for the block.
use Rattle.std.proofs.Common.{◌≡◌, None, take}
use Rattle.from_llvm_ir.specs.Source.{first_value}
use Rattle.from_llvm_ir.proofs.entries.first_for.Given as goal

abbrev pub invariant-loop-entry : goal.invariant-loop-entry
invariant-loop-entry l = first_value l.from (take l.entry-index l.entries) ≡ None

-- What the loop of `entries::note_entries` keeps.
use Rattle.std.proofs.Common.{take}
use Rattle.from_llvm_ir.proofs.EntryLaws.{AreNotedTo}
use Rattle.from_llvm_ir.proofs.entries.note_entries.Given as goal

abbrev pub invariant-loop-entry : goal.invariant-loop-entry
invariant-loop-entry l = AreNotedTo l.fn.noted l.noted l.phi (take l.entry-index l.entries)

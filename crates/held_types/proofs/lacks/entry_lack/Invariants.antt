-- What the loop of `lacks::entry_lack` keeps.
use Rattle.std.proofs.Common.{All, take}
use Rattle.llvm_core.specs.declared.code.PhiEntry.{PhiEntry}
use Rattle.held_types.specs.Lacks.{LacksNone}
use Rattle.held_types.proofs.lacks.entry_lack.Given as goal

abbrev pub invariant-loop-entry : goal.invariant-loop-entry
invariant-loop-entry l = All (λ (e : PhiEntry). LacksNone l.m e.value) (take l.entry-index l.entries)

-- What the loop of `constants::walk_entries` keeps.
use Rattle.std.proofs.Common.{take}
use Rattle.held_types.specs.Values.{IsInEntry}
use Rattle.held_types.specs.Walk.{IsOfOne, Walked}
use Rattle.held_types.proofs.constants.walk_entries.Given as goal

abbrev pub invariant-loop-entry : goal.invariant-loop-entry
invariant-loop-entry l = Walked l.m (IsOfOne (IsInEntry l.m) (take l.entry-index l.entries)) l.fn.walk l.walk

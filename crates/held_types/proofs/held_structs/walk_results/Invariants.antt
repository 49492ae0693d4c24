-- What the loop of `held_structs::walk_results` keeps.
use Rattle.held_types.specs.Values.{IsInResults}
use Rattle.held_types.specs.Walk.{Walked}
use Rattle.held_types.proofs.held_structs.walk_results.Given as goal

abbrev pub invariant-loop-i : goal.invariant-loop-i
invariant-loop-i l = Walked l.m (IsInResults l.m l.i) l.fn.walk l.walk

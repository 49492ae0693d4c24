-- What the loop of `constants::walk_constants` keeps.
use Rattle.held_types.specs.Values.{IsInConstants}
use Rattle.held_types.specs.Walk.{Walked}
use Rattle.held_types.proofs.constants.walk_constants.Given as goal

abbrev pub invariant-loop-i : goal.invariant-loop-i
invariant-loop-i l = Walked l.m (IsInConstants l.m l.i) l.fn.walk l.walk

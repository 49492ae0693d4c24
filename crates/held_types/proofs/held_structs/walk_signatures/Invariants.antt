-- What the loop of `held_structs::walk_signatures` keeps.
use Rattle.held_types.specs.Values.{IsInSignatures}
use Rattle.held_types.specs.Walk.{Walked}
use Rattle.held_types.proofs.held_structs.walk_signatures.Given as goal

abbrev pub invariant-loop-f : goal.invariant-loop-f
invariant-loop-f l = Walked l.m (IsInSignatures l.m l.f) l.fn.walk l.walk

-- What the loop of `lacks::lacks_of` keeps.
use Rattle.std.proofs.Common.{◌≡◌, length}
use Rattle.held_types.specs.Lacks.{AreTold}
use Rattle.held_types.proofs.lacks.lacks_of.Given as goal

abbrev pub invariant-loop-i : goal.invariant-loop-i
invariant-loop-i l = (length l.told.items ≡ l.i) × AreTold l.m l.told.items

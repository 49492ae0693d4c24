-- What the loop of `taken::take_first` keeps.
use Rattle.std.proofs.Common.{◌≡◌}
use Rattle.dialect_types.specs.Legalised.{AreTaken}
use Rattle.dialect_types.proofs.taken.take_first.Given as goal

abbrev pub invariant-loop-k : goal.invariant-loop-k
invariant-loop-k l = (l.texts ≡ l.fn.texts) × AreTaken l.texts l.asked l.k

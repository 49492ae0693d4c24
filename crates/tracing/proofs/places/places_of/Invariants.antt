-- What holds in the loop of `places::places_of`.
use Rattle.std.specs.Prelude.{◌≡◌, take}
use Rattle.tracing.proofs.places.places_of.Given as goal

abbrev pub invariant-loop-number : goal.invariant-loop-number
invariant-loop-number l = record { places : l.places ≡ take l.number-index l.numbers }

-- The invariant of `source::places_of`'s loop.
use Rattle.std.proofs.Common.{◌≡◌, map, take}
use Rattle.renamed_source.specs.Source.{place_in}
use Rattle.renamed_source.proofs.source.places_of.Given as goal

abbrev pub invariant-loop-t : goal.invariant-loop-t
invariant-loop-t l = l.places.items ≡ map (place_in l.names) (take l.t l.«module».types)

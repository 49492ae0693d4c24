-- The invariant of `source::listed_names`'s loop.
use Rattle.std.proofs.Common.{◌≡◌, take}
use Rattle.renamed_source.specs.Source.{pairs_of, listed}
use Rattle.renamed_source.proofs.source.listed_names.Given as goal

abbrev pub invariant-loop-pair : goal.invariant-loop-pair
invariant-loop-pair l = l.names ≡ take l.pair-index (listed (pairs_of l.pairs))

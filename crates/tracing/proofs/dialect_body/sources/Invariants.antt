-- What holds in the loop of `dialect_body::sources`.
use Rattle.std.specs.Prelude.{◌≡◌, map, take}
use Rattle.tracing.specs.DialectEdges.{handed}
use Rattle.tracing.proofs.dialect_body.sources.Given as goal

abbrev pub invariant-loop-arg : goal.invariant-loop-arg
invariant-loop-arg l = record { at : l.sources ≡ map handed (take l.arg-index l.args) }

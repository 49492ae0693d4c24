-- What holds in the loop of `dialect_body::inputs`.
use Rattle.std.specs.Prelude.{◌≡◌}
use Rattle.tracing.specs.DialectEdges.{inputs_from}
use Rattle.tracing.proofs.dialect_body.inputs.Given as goal

abbrev pub invariant-loop-place : goal.invariant-loop-place
invariant-loop-place l = record { at : l.inputs ≡ inputs_from l.b.0 0 l.place }

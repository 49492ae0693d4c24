-- What holds in the loop of `dialect_body::params`.
use Rattle.std.specs.Prelude.{◌≡◌, map, take}
use Rattle.tracing.specs.DialectBodies.{InContext}
use Rattle.tracing.specs.DialectEdges.{inputs_of, AreBlocksIn}
use Rattle.tracing.proofs.dialect_body.params.Given as goal

abbrev pub invariant-loop-b : goal.invariant-loop-b
invariant-loop-b l = record { at : (h : InContext l.ctx) → AreBlocksIn l.ctx h l.list → l.params ≡ map inputs_of (take l.b-index h.function.blocks) }

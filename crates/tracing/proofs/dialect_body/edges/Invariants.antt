-- What holds in the loop of `dialect_body::edges`.
use Rattle.std.specs.Prelude.{◌≡◌, List, map, take}
use Rattle.std.specs.List.{flat_map}
use Rattle.dialect_core.specs.Data.{DialectOp}
use Rattle.tracing.specs.DialectBodies.{InContext, AreOpsIn}
use Rattle.tracing.specs.DialectEdges.{edge_to}
use Rattle.tracing.proofs.dialect_body.edges.Given as goal

abbrev pub invariant-loop-op : goal.invariant-loop-op
invariant-loop-op l = record {
  at : (h : InContext l.ctx) → (os : List DialectOp) → AreOpsIn l.ctx h l.ops os → l.edges ≡ map (edge_to l.places) (flat_map (λ (o : DialectOp). o.successors) (take l.op-index os));
}

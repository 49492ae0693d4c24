-- What holds in the loop of `dialect_body::ops_of`.
use Rattle.std.specs.Prelude.{◌≡◌, filter, take}
use Rattle.tracing.specs.DialectEdges.{is_op}
use Rattle.tracing.proofs.dialect_body.ops_of.Given as goal

abbrev pub invariant-loop-op : goal.invariant-loop-op
invariant-loop-op l = record { at : l.ops.items ≡ filter (is_op l.ctx) (take l.op-index l.op-items) }

-- What the loop of `value_tests::all_edges_fit` keeps.
use Rattle.std.proofs.Common.{ℕ, ◌<◌, get_or}
use Rattle.dialect_core.specs.declared.ops.Successor.{Successor}
use Rattle.dialect_core.specs.Data.{type_in}
use Rattle.dialect_core.specs.WellFormed.{IsEdge}
use Rattle.dialect_core.specs.Checking.{func_at}
use Rattle.dialect_core.proofs.value_tests.all_edges_fit.Given as goal

abbrev pub invariant-loop-edge : goal.invariant-loop-edge
invariant-loop-edge l = (k : ℕ) (d : Successor) → k < l.edge-index → IsEdge (type_in l.ctx) (func_at l.ctx l.fn.func) (get_or l.edges k d)

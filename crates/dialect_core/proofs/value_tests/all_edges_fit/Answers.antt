-- What `value_tests::all_edges_fit` owes besides what the check finds.
use Rattle.std.proofs.Common.{subst, sym, arith}
use Rattle.dialect_core.specs.Data.{type_in}
use Rattle.dialect_core.specs.WellFormed.{IsEdge}
use Rattle.dialect_core.specs.Checking.{func_at}
use Rattle.dialect_core.proofs.TestLemmas.{all_more, never, no_true}
use Rattle.dialect_core.proofs.value_tests.all_edges_fit.Goals as goal

pub returns-then-not-edge_fits : goal.returns-then-not-edge_fits
returns-then-not-edge_fits c = never (λ all. no_true (c.if-not-edge_fits.ensures.1 (subst (IsEdge (type_in c.args.ctx.now) (func_at c.args.ctx.now c.args.func)) (sym c.edge-item.is) (all c.loop-edge.edge-index c.edge-item.result (omega arith)))))

pub loop-edge-preserved : goal.loop-edge-preserved
loop-edge-preserved c = all_more (IsEdge (type_in c.args.ctx.now) (func_at c.args.ctx.now c.args.func)) c.args.edges.now c.loop-edge.edge-index c.edge-item.result c.loop-edge.invariant (omega arith)
    (subst (IsEdge (type_in c.args.ctx.now) (func_at c.args.ctx.now c.args.func)) c.edge-item.is (c.edge_fits.ensures.0 c.if-not-edge_fits.false))

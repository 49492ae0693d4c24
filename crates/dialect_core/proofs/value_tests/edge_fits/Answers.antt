-- What `value_tests::edge_fits` owes besides what the check finds.
use Rattle.dialect_core.specs.Checking.{func_at}
use Rattle.dialect_core.proofs.FuncLemmas.{edge_is}
use Rattle.dialect_core.proofs.value_tests.edge_fits.Goals as goal

pub returns-then-is_past_entry : goal.returns-then-is_past_entry
returns-then-is_past_entry c =
    edge_is c.args.ctx.now (func_at c.args.ctx.now c.args.func) c.args.edge.now c.block_args-wanted.result.now _ c.pass_each.result (c.is_past_entry.ensures.0 c.if-is_past_entry.true) c.block_args-wanted.ensures c.as_slice.ensures c.pass_each.ensures

-- What `counting::number_module` owes besides what the check finds.
use Rattle.std.proofs.Common.{◌∙◌}
use Rattle.dialect_core.specs.Numbering.{values_of_func, blocks_of_func}
use Rattle.dialect_core.proofs.CountLemmas.{counts_func, module_values, module_blocks}
use Rattle.dialect_core.proofs.counting.number_module.Goals as goal

pub loop-op-preserved : goal.loop-op-preserved
loop-op-preserved c =
    counts_func (values_of_func c.args.ctx.now) (blocks_of_func c.args.ctx.now) _ c.loop-op.numbers c.number_func.new.numbers c.as_slice-op-items.result.now c.loop-op.op-index (record { 0 = 0 }) c.loop-op-test.true c.loop-op.invariant c.in_ok-number_func.ensures

pub returns-clause-values : goal.returns-clause-values
returns-clause-values c = λ q.
    module_values c.args.ctx.now c.args.root.0.0 c.new-numbers.result c.loop-op.numbers c.as_slice-op-items.result.now c.loop-op.op-index c.new-numbers.ensures.no_values (c.as_slice-op-items.ensures.value ∙ c.in_ok-ops.ensures.ops) c.loop-op-test.false c.loop-op.invariant q

pub returns-clause-blocks : goal.returns-clause-blocks
returns-clause-blocks c = λ q.
    module_blocks c.args.ctx.now c.args.root.0.0 c.new-numbers.result c.loop-op.numbers c.as_slice-op-items.result.now c.loop-op.op-index c.new-numbers.ensures.no_blocks (c.as_slice-op-items.ensures.value ∙ c.in_ok-ops.ensures.ops) c.loop-op-test.false c.loop-op.invariant q

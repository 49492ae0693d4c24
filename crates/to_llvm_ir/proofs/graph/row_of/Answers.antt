-- One operation more.
use Rattle.to_llvm_ir.proofs.GraphLaws.{row_more, row_all}
use Rattle.std.proofs.Common.{◌∙◌}
use Rattle.to_llvm_ir.proofs.graph.row_of.Goals as goal

pub loop-op-init : goal.loop-op-init
loop-op-init c = λ g are. c.new-row.ensures.items

pub loop-op-preserved : goal.loop-op-preserved
loop-op-preserved c = λ g are.
    row_more c.args.ctx.now g c.as_slice-op-items.result.now c.loop-op.op-index _ c.loop-op.row.items c.push_targets.new.row.items c.loop-op-test.true (c.loop-op.invariant g are) (c.in_ok-push_targets.ensures g are)

pub returns : goal.returns
returns c = λ g block are is.
    row_all c.args.ctx.now g c.args.block block c.as_slice-op-items.result.now c.loop-op.op-index c.loop-op.row.items is (c.as_slice-op-items.ensures.value ∙ c.in_ok-read_ops.ensures.ops) c.loop-op-test.false (c.loop-op.invariant g are)

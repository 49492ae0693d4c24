-- One row more.
use Rattle.to_llvm_ir.proofs.GraphLaws.{rows_more, rows_all}
use Rattle.std.proofs.Common.{◌∙◌}
use Rattle.to_llvm_ir.proofs.graph.graph.Goals as goal

pub loop-block-init : goal.loop-block-init
loop-block-init c = λ g h. c.new-succs.ensures

pub loop-block-preserved : goal.loop-block-preserved
loop-block-preserved c = λ g h.
    rows_more c.args.ctx.now g c.args.list.now c.loop-block.block-index _ c.as_slice.result.now c.loop-block.succs c.push.new.self h c.loop-block-test.true
    (λ block is. c.as_slice.ensures.value ∙ c.in_ok-row.ensures g block (c.in_ok-places.ensures c.args.ctx.now g h) is) (c.loop-block.invariant g h) c.in_ok-push.ensures.ok

pub returns : goal.returns
returns c = λ g h. rows_all c.args.ctx.now g c.args.list.now c.loop-block.block-index c.loop-block.succs h c.loop-block-test.false (c.loop-block.invariant g h)

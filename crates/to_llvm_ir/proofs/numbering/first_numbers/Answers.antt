-- One block more.
use Rattle.std.proofs.Common.{◌∙◌, arith}
use Rattle.to_llvm_ir.proofs.NumberingLaws.{numbered_more, numbered_all}
use Rattle.to_llvm_ir.proofs.numbering.first_numbers.Goals as goal

pub loop-block-preserved : goal.loop-block-preserved
loop-block-preserved c = λ g h.
    numbered_more c.args.ctx.now g c.args.list.now c.loop-block.block-index _ c.loop-block.next c.in_ok-start.start c.in_ok-next.next c.block_args.result.now c.as_slice.result.now c.loop-block.numbers.items c.push.new.self.items h c.loop-block-test.true c.block_args.ensures
    c.in_ok-start.ensures (c.as_slice.ensures.value ∙ c.in_ok-read_ops.ensures.ops) c.in_ok-next.ensures c.in_ok-push.ensures.items (c.loop-block.invariant g h)

pub returns : goal.returns
returns c = λ g h j b at.
    numbered_all c.args.ctx.now g c.args.list.now c.loop-block.block-index c.loop-block.next c.loop-block.numbers.items h (c.loop-block.invariant g h) (let e = c.loop-block-test.false in let f = c.loop-block.auto.block-index-end in omega (arith, e, f)) j b at

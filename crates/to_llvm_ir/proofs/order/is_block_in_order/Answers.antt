-- First the arguments, then the operations.
use Rattle.std.proofs.Common.{◌≡◌, ◌∙◌, ◌++◌, sym, ap}
use Rattle.to_llvm_ir.specs.Exported.{arguments_of}
use Rattle.to_llvm_ir.specs.Ordering.{ops_of}
use Rattle.to_llvm_ir.proofs.ContextLaws.{block_parts}
use Rattle.to_llvm_ir.proofs.OrderingLaws.{block_answer}
use Rattle.to_llvm_ir.proofs.order.is_block_in_order.Goals as goal

pub returns : goal.returns
returns c = λ b vs is seen.
    let are : ops_of c.args.ctx.now c.as_slice.result.now ≡ b.ops = ap (ops_of c.args.ctx.now) (c.as_slice.ensures.value ∙ c.in_ok-read_ops.ensures.ops) ∙ sym (block_parts c.args.ctx.now c.args.block b is).ops in
    block_answer b vs (ops_of c.args.ctx.now c.as_slice.result.now) c.are_ops_in_order.new.seen c.are_ops_in_order.result are (c.are_ops_in_order.ensures (vs ++ arguments_of b) (c.in_ok-note_arguments.ensures b vs is seen))

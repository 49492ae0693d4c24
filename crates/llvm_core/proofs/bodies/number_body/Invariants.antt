-- What the loop of `bodies::number_body` keeps: what is done and what is left are together what there was.
use Rattle.std.proofs.Common.{◌≡◌, ◌+◌, ◌++◌, ◌<◌, ◌^◌, length}
use Rattle.std.specs.Vec.Iter.{into_iter_items, into_iter_len}
use Rattle.llvm_core.specs.Bodies.{block_numbers, body_blocks, body_insts}
use Rattle.llvm_core.proofs.bodies.number_body.Given as goal

abbrev pub invariant-loop-block : goal.invariant-loop-block
invariant-loop-block l =
    (into_iter_len l.block-iterator ≡ length (into_iter_items l.block-iterator))
    × (l.next_block < 2 ^ 32)
    × (l.next_inst < 2 ^ 32)
    × (l.fn.first_block + length l.blocks.items ≡ l.next_block)
    × (l.fn.first_inst + length l.insts.items ≡ l.next_inst)
    × (l.numbers ++ block_numbers l.next_block (into_iter_items l.block-iterator) ≡ block_numbers l.fn.first_block l.fn.body)
    × (l.blocks.items ++ body_blocks l.fn.f l.next_inst (into_iter_items l.block-iterator) ≡ body_blocks l.fn.f l.fn.first_inst l.fn.body)
    × (l.insts.items ++ body_insts l.next_block (into_iter_items l.block-iterator) ≡ body_insts l.fn.first_block l.fn.body)

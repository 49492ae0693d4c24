-- What `order::graph` owes besides what the check finds.
use Rattle.std.proofs.Common.{refl}
use Rattle.from_llvm_ir.proofs.SourceLaws.{function_within}
use Rattle.from_llvm_ir.proofs.GraphLaws.{block_in, rows_more, rows_all}
use Rattle.from_llvm_ir.proofs.order.graph.Goals as goal

pub blocks-block-items-requires : goal.blocks-block-items-requires
blocks-block-items-requires c = function_within c.args.source.now c.args.f c.requires.0 c.requires.1

pub loop-block-init : goal.loop-block-init
loop-block-init c = λ g h places. c.new-succs.ensures

pub push_row-requires : goal.push_row-requires
push_row-requires c =
    let r = c.requires in
    let b = block_in c.args.source.now c.args.f r.0 c.blocks-block-items.result.now c.loop-block.block-index (record { 0 = 0 }) r.1 c.blocks-block-items.ensures.blocks c.loop-block-test.true in
    (c.args.f, r.0, b.0, b.1, r.2)

pub loop-block-preserved : goal.loop-block-preserved
loop-block-preserved c = λ g h places.
    let b = block_in c.args.source.now c.args.f g c.blocks-block-items.result.now c.loop-block.block-index (record { 0 = 0 }) h c.blocks-block-items.ensures.blocks c.loop-block-test.true in
    rows_more g c.loop-block.block-index b.0 _ c.loop-block.succs c.push_row.new.succs b.2 refl (c.loop-block.invariant g h places) (c.in_ok-push_row.ensures c.args.f g b.0 b.1 places)

pub returns : goal.returns
returns c = λ g h places. rows_all c.args.source.now c.args.f g c.blocks-block-items.result.now c.loop-block.block-index c.loop-block.succs h c.blocks-block-items.ensures.blocks c.loop-block-test.false (c.loop-block.invariant g h places)

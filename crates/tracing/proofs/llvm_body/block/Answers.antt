-- What `llvm_body::block` owes besides what the check finds.
use Rattle.tracing.proofs.IndexLaws.{insts_placed}
use Rattle.tracing.proofs.EdgeLaws.{block_is, block_known, block_number}
use Rattle.tracing.proofs.GrowLaws.{lasts}
use Rattle.tracing.proofs.llvm_body.block.Goals as goal

pub rows-requires-clause-here : goal.rows-requires-clause-here
rows-requires-clause-here c =
    let h = c.requires.block.0 in
    let y = c.requires.block.1 in
    (h, c.args.b.0, y.instructions, insts_placed c.args.m.now h c.args.b y c.instructions-insts.result.now c.requires.block.2 c.instructions-insts.ensures.insts)

pub block_edges-requires : goal.block_edges-requires
block_edges-requires c =
    let h = c.requires.block.0 in
    let y = c.requires.block.1 in
    (h, c.args.b.0, y.instructions, insts_placed c.args.m.now h c.args.b y c.instructions-insts.result.now c.requires.block.2 c.instructions-insts.ensures.insts)

pub returns-clause-is : goal.returns-clause-is
returns-clause-is c = λ h y at index later more.
    let m = c.args.m.now in
    let placed = insts_placed m h c.args.b y c.instructions-insts.result.now at c.instructions-insts.ensures.insts in
    let rows = c.in_ok-rows.ensures.rows h c.args.b.0 y.instructions placed later more in
    let edges = c.in_ok-block_edges.ensures h c.args.b.0 y.instructions placed in
    let here = lasts _ _ _ c.in_ok-rows.ensures.grown.kept index later more in (
      block_is m h later c.args.index.now here _ y c.args.b.0 (block_number m h c.args.b y at) rows.0 edges,
      (rows.1, block_known m h later c.args.index.now here _ c.args.b.0 _ edges),
    )

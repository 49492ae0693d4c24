-- The blocks so far are made, and their types are there.
use Rattle.std.proofs.Common.{take}
use Rattle.ll_bodies.specs.BodyViews.{MadeBlocks}
use Rattle.ll_bodies.specs.TypedViews.{AreTypedBlocks}
use Rattle.ll_bodies.proofs.bodies.body_blocks.Given as goal

abbrev pub invariant-loop-block : goal.invariant-loop-block
invariant-loop-block l = MadeBlocks l.source l.scope (take l.block-index l.blocks) l.made × AreTypedBlocks l.source.module.now l.made

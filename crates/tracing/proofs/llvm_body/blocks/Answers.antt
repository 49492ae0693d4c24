-- What `llvm_body::blocks` owes besides what the check finds.
use Rattle.std.proofs.Common.{sym, ap, subst, map, ◌∙◌}
use Rattle.llvm_core.specs.Data.{Block}
use Rattle.meaning.specs.Llvm.{block}
use Rattle.tracing.specs.Tables.{contents_in}
use Rattle.tracing.specs.Bodies.{AreBlocks}
use Rattle.tracing.specs.Renamed.{renamed_block}
use Rattle.tracing.specs.LlvmBodies.{setting_in, slot_of, data_in, params_in}
use Rattle.tracing.proofs.ListLaws.{listed_next, mapped_twice}
use Rattle.tracing.proofs.GrowLaws.{no_blocks, blocks_push, lasts}
use Rattle.tracing.proofs.TablesLaws.{grown_same, grown_then}
use Rattle.tracing.proofs.IndexLaws.{block_at_place, all_blocks}
use Rattle.tracing.proofs.llvm_body.blocks.Goals as goal

pub block-requires-clause-block : goal.block-requires-clause-block
block-requires-clause-block c =
    let h = c.requires.here.0 in
    let s = block_at_place c.args.m.now h c.args.f.0 c.blocks-b-items.result.now c.loop-b.b-index c.requires.here.1 c.blocks-b-items.ensures.blocks c.loop-b-test.true in
    (h, s.block, s.fits)

pub loop-b-init : goal.loop-b-init
loop-b-init c = record { at = λ h is index. rw c.new-blocks.ensures (no_blocks (contents_in c.args.tables.now) (params_in c.args.index.now)); grown = grown_same _ _ c.requires.tables }

pub loop-b-preserved : goal.loop-b-preserved
loop-b-preserved c = record {
  at = λ h is index.
      let m = c.args.m.now in
      let s = block_at_place m h c.args.f.0 c.blocks-b-items.result.now c.loop-b.b-index is c.blocks-b-items.ensures.blocks c.loop-b-test.true in
      let made = c.in_ok-made.ensures.is h s.block s.fits (lasts _ _ _ c.loop-b.invariant.grown.kept index) in
      let pushed = blocks_push _ (contents_in c.block.new.tables) (params_in c.args.index.now) c.loop-b.blocks _ c.in_ok-made.made _ c.in_ok-made.ensures.grown.kept (c.loop-b.invariant.at h is index) made in
      rw c.in_ok-push.ensures.ok
      (subst (AreBlocks (contents_in c.block.new.tables) (params_in c.args.index.now) _) (listed_next (λ (y : Block). renamed_block slot_of (block (setting_in m) (data_in m h) y)) (data_in m h).blocks c.loop-b.b-index s.block s.at) pushed);
  grown = grown_then _ _ _ _ c.loop-b.invariant.grown c.in_ok-made.ensures.grown;
}

pub returns-clause-are : goal.returns-clause-are
returns-clause-are c = λ h is index.
    let m = c.args.m.now in
    subst (AreBlocks (contents_in c.loop-b.tables) (params_in c.args.index.now) c.loop-b.blocks)
    (ap (map (λ (y : Block). renamed_block slot_of (block (setting_in m) (data_in m h) y))) (all_blocks m h c.args.f.0 c.blocks-b-items.result.now c.loop-b.b-index is c.blocks-b-items.ensures.blocks c.loop-b-test.false)
    ∙ sym (mapped_twice (renamed_block slot_of) (block (setting_in m) (data_in m h)) (data_in m h).blocks))
    (c.loop-b.invariant.at h is index)

-- What `dialect_body::blocks` owes besides what the check finds.
use Rattle.std.proofs.Common.{ap, sym, subst, map, ◌∙◌}
use Rattle.dialect_core.specs.Data.{DialectBlock, type_in}
use Rattle.meaning.specs.Dialect.{typed_block}
use Rattle.tracing.specs.Tables.{contents_in}
use Rattle.tracing.specs.Bodies.{AreBlocks}
use Rattle.tracing.specs.Renamed.{renamed_block}
use Rattle.tracing.specs.DialectBodies.{slot_of}
use Rattle.tracing.specs.DialectEdges.{IsBlockIn, params_of}
use Rattle.tracing.proofs.ListLaws.{matched_at, take_whole, listed_next, mapped_twice}
use Rattle.tracing.proofs.GrowLaws.{no_blocks, blocks_push}
use Rattle.tracing.proofs.TablesLaws.{grown_same, grown_then}
use Rattle.tracing.proofs.DialectBlockLaws.{some_ref}
use Rattle.tracing.proofs.dialect_body.blocks.Goals as goal

pub block-requires-clause-block : goal.block-requires-clause-block
block-requires-clause-block c =
    let h = c.requires.blocks.0 in
    let s = matched_at (IsBlockIn c.args.ctx.now h) c.args.list.now h.function.blocks c.loop-b.b-index some_ref c.loop-b-test.true c.requires.blocks.1 in
    (h, s.item, s.fits)

pub loop-b-init : goal.loop-b-init
loop-b-init c = record { at = λ setting h all numbers. rw c.new-blocks.ensures (no_blocks (contents_in c.args.tables.now) (params_of h.function)); grown = grown_same _ _ c.requires.tables }

pub loop-b-preserved : goal.loop-b-preserved
loop-b-preserved c = record {
  at = λ setting h all numbers.
      let g = h.function in
      let now = contents_in c.block.new.tables in
      let s = matched_at (IsBlockIn c.args.ctx.now h) c.args.list.now g.blocks c.loop-b.b-index some_ref c.loop-b-test.true all in
      let made = c.in_ok-made.ensures.is setting h s.item s.fits numbers in
      let pushed = blocks_push _ now (params_of g) c.loop-b.blocks _ c.in_ok-made.made _ c.in_ok-made.ensures.grown.kept (c.loop-b.invariant.at setting h all numbers) made in
      rw c.in_ok-push.ensures.ok
      (subst (AreBlocks now (params_of g) _) (listed_next (λ (y : DialectBlock). renamed_block slot_of (typed_block setting (type_in c.args.ctx.now) g y)) g.blocks c.loop-b.b-index s.item s.at) pushed);
  grown = grown_then _ _ _ _ c.loop-b.invariant.grown c.in_ok-made.ensures.grown;
}

pub returns-clause-are : goal.returns-clause-are
returns-clause-are c = λ setting h all numbers.
    let g = h.function in
    subst (AreBlocks (contents_in c.loop-b.tables) (params_of g) c.loop-b.blocks)
    (ap (map (λ (y : DialectBlock). renamed_block slot_of (typed_block setting (type_in c.args.ctx.now) g y))) (take_whole (IsBlockIn c.args.ctx.now h) c.args.list.now g.blocks c.loop-b.b-index c.loop-b-test.false all)
    ∙ sym (mapped_twice (renamed_block slot_of) (typed_block setting (type_in c.args.ctx.now) g) g.blocks))
    (c.loop-b.invariant.at setting h all numbers)

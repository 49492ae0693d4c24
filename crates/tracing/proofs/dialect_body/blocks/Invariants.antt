-- What holds in the loop of `dialect_body::blocks`.
use Rattle.std.specs.Prelude.{◌≡◌, map, take}
use Rattle.dialect_core.specs.Data.{DialectBlock, type_in}
use Rattle.meaning.specs.Setting.{Setting}
use Rattle.meaning.specs.Dialect.{typed_block}
use Rattle.tracing.specs.Tables.{AreGrown, contents_in}
use Rattle.tracing.specs.Bodies.{AreBlocks}
use Rattle.tracing.specs.Renamed.{renamed_block}
use Rattle.tracing.specs.DialectBodies.{origin_of, slot_of, InContext}
use Rattle.tracing.specs.DialectEdges.{params_of, numbers_of, AreBlocksIn}
use Rattle.tracing.proofs.dialect_body.blocks.Given as goal

abbrev pub invariant-loop-b : goal.invariant-loop-b
invariant-loop-b l = record {
  at : (setting : Setting) → (h : InContext l.ctx) → AreBlocksIn l.ctx h l.list → l.places ≡ numbers_of h.function
      → AreBlocks (contents_in l.tables) (params_of h.function) l.blocks (map (λ (y : DialectBlock). renamed_block slot_of (typed_block setting (type_in l.ctx) h.function y)) (take l.b-index h.function.blocks));
  grown : AreGrown (origin_of l.ctx) l.fn.tables l.tables;
}

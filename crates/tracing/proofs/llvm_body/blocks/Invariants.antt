-- What holds in the loop of `llvm_body::blocks`.
use Rattle.std.specs.Prelude.{◌≡◌, map, take}
use Rattle.llvm_core.specs.Data.{Block}
use Rattle.meaning.specs.Llvm.{block}
use Rattle.tracing.specs.Tables.{AreGrown, contents_in}
use Rattle.tracing.specs.Bodies.{AreBlocks}
use Rattle.tracing.specs.Renamed.{renamed_block}
use Rattle.tracing.specs.LlvmBodies.{origin_in, setting_in, slot_of, InChecked, data_in, IsIndex, params_in}
use Rattle.tracing.proofs.llvm_body.blocks.Given as goal

abbrev pub invariant-loop-b : goal.invariant-loop-b
invariant-loop-b l = record {
  at : (h : InChecked l.m) → h.number ≡ l.fn.f.0 → IsIndex l.m h (contents_in l.fn.tables) l.index → AreBlocks (contents_in l.tables) (params_in l.index) l.blocks (map (λ (y : Block). renamed_block slot_of (block (setting_in l.m) (data_in l.m h) y)) (take l.b-index (data_in l.m h).blocks));
  grown : AreGrown (origin_in l.m) l.fn.tables l.tables;
}

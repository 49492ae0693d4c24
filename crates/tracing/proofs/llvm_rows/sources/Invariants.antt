-- What holds in the loop of `llvm_rows::sources`.
use Rattle.std.specs.Prelude.{map, take}
use Rattle.tracing.specs.Tables.{AreGrown, contents_in}
use Rattle.tracing.specs.Bodies.{AreSources}
use Rattle.tracing.specs.LlvmBodies.{origin_in, operand_in}
use Rattle.tracing.proofs.llvm_rows.sources.Given as goal

abbrev pub invariant-loop-value : goal.invariant-loop-value
invariant-loop-value l = record {
  at : AreSources (contents_in l.tables) l.sources (map (operand_in l.m) (take l.value-index l.values));
  grown : AreGrown (origin_in l.m) l.fn.tables l.tables;
}

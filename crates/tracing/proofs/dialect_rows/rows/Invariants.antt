-- What holds in the loop of `dialect_rows::rows`.
use Rattle.std.specs.Prelude.{List, take}
use Rattle.dialect_core.specs.Data.{DialectOp}
use Rattle.meaning.specs.Setting.{Setting}
use Rattle.tracing.specs.Tables.{AreGrown, contents_in}
use Rattle.tracing.specs.Bodies.{AreRows}
use Rattle.tracing.specs.DialectBodies.{origin_of, InContext, AreOpsIn, rows_of}
use Rattle.tracing.proofs.dialect_rows.rows.Given as goal

abbrev pub invariant-loop-op : goal.invariant-loop-op
invariant-loop-op l = record {
  at : (setting : Setting) → (h : InContext l.ctx) → (os : List DialectOp) → AreOpsIn l.ctx h l.ops os → AreRows (contents_in l.tables) l.rows (rows_of setting l.ctx (take l.op-index os));
  grown : AreGrown (origin_of l.ctx) l.fn.tables l.tables;
}

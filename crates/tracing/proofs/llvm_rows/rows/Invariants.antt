-- What holds in the loop of `llvm_rows::rows`.
use Rattle.std.specs.Prelude.{ℕ, List, take}
use Rattle.llvm_core.specs.Data.{Placed}
use Rattle.tracing.specs.Tables.{AreGrown, contents_in}
use Rattle.tracing.specs.Bodies.{AreRows}
use Rattle.tracing.specs.LlvmBodies.{origin_in, InChecked, ArePlacedIn, rows_in}
use Rattle.tracing.proofs.llvm_rows.rows.Given as goal

abbrev pub invariant-loop-i : goal.invariant-loop-i
invariant-loop-i l = record {
  at : (h : InChecked l.m) → (b : ℕ) → (ps : List Placed) → ArePlacedIn l.m h b l.insts ps → AreRows (contents_in l.tables) l.rows (rows_in l.m h (take l.i-index ps));
  grown : AreGrown (origin_in l.m) l.fn.tables l.tables;
}

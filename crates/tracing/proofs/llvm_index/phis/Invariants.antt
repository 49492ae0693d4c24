-- What holds in the loop of `llvm_index::phis`.
use Rattle.std.specs.Prelude.{ℕ, List, filter, take}
use Rattle.llvm_core.specs.Data.{Placed}
use Rattle.llvm_core.specs.Form.{is_phi}
use Rattle.tracing.specs.Tables.{AreGrown, contents_in}
use Rattle.tracing.specs.LlvmBodies.{origin_in, InChecked, ArePlacedIn, ArePhis}
use Rattle.tracing.proofs.llvm_index.phis.Given as goal

abbrev pub invariant-loop-i : goal.invariant-loop-i
invariant-loop-i l = record {
  at : (h : InChecked l.m) → (b : ℕ) → (ps : List Placed) → ArePlacedIn l.m h b l.insts ps → ArePhis l.m (contents_in l.tables) l.phis (filter is_phi (take l.i-index ps));
  grown : AreGrown (origin_in l.m) l.fn.tables l.tables;
}

-- What holds in the loop of `llvm_index::all_phis`.
use Rattle.std.specs.Prelude.{◌≡◌, take}
use Rattle.tracing.specs.Contents.{Contents, Lasts}
use Rattle.tracing.specs.Tables.{AreGrown, contents_in}
use Rattle.tracing.specs.LlvmBodies.{origin_in, InChecked, data_in, AreBlockPhis}
use Rattle.tracing.proofs.llvm_index.all_phis.Given as goal

abbrev pub invariant-loop-b : goal.invariant-loop-b
invariant-loop-b l = record {
  at : (h : InChecked l.m) → h.number ≡ l.fn.f.0 → Lasts (contents_in l.tables) (λ (d : Contents). AreBlockPhis l.m d l.all (take l.b-index (data_in l.m h).blocks));
  grown : AreGrown (origin_in l.m) l.fn.tables l.tables;
}

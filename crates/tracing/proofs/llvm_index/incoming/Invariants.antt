-- What holds in the loop of `llvm_index::incoming`.
use Rattle.std.specs.Prelude.{ℕ, nat_eq, take}
use Rattle.indexmap.specs.IndexMap.{get}
use Rattle.tracing.specs.Tables.{AreGrown, contents_in}
use Rattle.tracing.specs.Bodies.{IsGiven}
use Rattle.tracing.specs.LlvmBodies.{origin_in}
use Rattle.tracing.proofs.IndexLaws.{taken_of}
use Rattle.tracing.proofs.llvm_index.incoming.Given as goal

abbrev pub invariant-loop-entry : goal.invariant-loop-entry
invariant-loop-entry l = record {
  at : (from : ℕ) → IsGiven (contents_in l.tables) (get nat_eq l.incoming from) (taken_of l.m from (take l.entry-index l.entries));
  grown : AreGrown (origin_in l.m) l.fn.tables l.tables;
}

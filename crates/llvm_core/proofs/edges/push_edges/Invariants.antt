-- What the loop of `edges::push_edges` keeps.
use Rattle.std.proofs.Common.{◌≡◌, ℕ, length}
use Rattle.llvm_core.specs.Edges.{tally}
use Rattle.llvm_core.proofs.EdgeLemmas.{edges_below}
use Rattle.llvm_core.proofs.edges.push_edges.Given as goal

abbrev pub invariant-loop-b : goal.invariant-loop-b
invariant-loop-b l = record {
  len : length l.lists ≡ length l.m.blocks;
  counts : (p b : ℕ) → tally l.lists p b ≡ edges_below l.m l.b p b;
}

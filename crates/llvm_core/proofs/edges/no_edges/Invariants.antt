-- What the loop of `edges::no_edges` keeps.
use Rattle.std.proofs.Common.{◌≡◌, ℕ, length}
use Rattle.llvm_core.specs.Edges.{tally}
use Rattle.llvm_core.proofs.edges.no_edges.Given as goal

abbrev pub invariant-loop-block : goal.invariant-loop-block
invariant-loop-block l = record {
  len : length l.lists.items ≡ l._block;
  none : (p b : ℕ) → tally l.lists.items p b ≡ 0;
}

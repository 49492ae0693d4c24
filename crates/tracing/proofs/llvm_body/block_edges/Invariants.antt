-- What holds in the loop of `llvm_body::block_edges`.
use Rattle.std.specs.Prelude.{◌≡◌, ℕ, List, map, take}
use Rattle.std.specs.List.{flat_map}
use Rattle.llvm_core.specs.Data.{Placed, targets}
use Rattle.tracing.specs.LlvmBodies.{InChecked, ArePlacedIn, edge_to}
use Rattle.tracing.proofs.llvm_body.block_edges.Given as goal

abbrev pub invariant-loop-i : goal.invariant-loop-i
invariant-loop-i l = record {
  at : (h : InChecked l.m) → (b : ℕ) → (ps : List Placed) → ArePlacedIn l.m h b l.insts ps → l.edges ≡ map (edge_to l.index l.from) (flat_map (λ (p : Placed). targets p.instruction) (take l.i-index ps));
}

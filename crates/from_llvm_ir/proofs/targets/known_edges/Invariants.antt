-- What the loop of `targets::known_edges` keeps.
use Rattle.std.proofs.Common.{ℕ, ◌≡◌, Some, slice_get, take}
use Rattle.llvm_core.specs.declared.numbers.LLVMFunction.{LLVMFunction}
use Rattle.llvm_core.specs.declared.numbers.LLVMBasicBlock.{LLVMBasicBlock}
use Rattle.llvm_core.specs.Data.{Function}
use Rattle.meaning.specs.Pairs.{Matched}
use Rattle.from_llvm_ir.specs.Edges.{IsKnownEdge, IsReady}
use Rattle.from_llvm_ir.proofs.targets.known_edges.Given as goal

abbrev pub invariant-loop-target : goal.invariant-loop-target
invariant-loop-target l = (f : LLVMFunction) → (g : Function) → ((j : ℕ) → (t : LLVMBasicBlock) → slice_get l.to j ≡ Some t → IsReady l.source f g l.values l.targets l.entries l.from t)
    → Matched (IsKnownEdge l.source g l.values l.targets l.from) (take l.target-index l.to) l.edges.items

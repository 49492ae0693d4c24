-- What the loop of `entries::entries_of` keeps.
use Rattle.std.proofs.Common.{ℕ, ◌≡◌, ◌<◌, Some, slice_get}
use Rattle.llvm_core.specs.declared.numbers.LLVMBasicBlock.{LLVMBasicBlock}
use Rattle.llvm_core.specs.declared.numbers.LLVMInstRef.{LLVMInstRef}
use Rattle.llvm_core.specs.declared.code.BlockData.{BlockData}
use Rattle.from_llvm_ir.specs.Source.{AreRight, IsNotedOf}
use Rattle.from_llvm_ir.proofs.entries.entries_of.Given as goal

abbrev pub invariant-loop-b : goal.invariant-loop-b
invariant-loop-b l = record {
  right : AreRight l.source l.noted;
  noted : (j : ℕ) → (n : LLVMBasicBlock) → (x : BlockData) → (k : ℕ) → (i : LLVMInstRef) → j < l.b-index → slice_get l.b-items j ≡ Some n → slice_get l.source.blocks n.0 ≡ Some x → slice_get x.insts k ≡ Some i → IsNotedOf l.source l.noted i;
}

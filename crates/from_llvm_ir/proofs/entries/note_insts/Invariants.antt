-- What the loop of `entries::note_insts` keeps.
use Rattle.std.proofs.Common.{ℕ, ◌≡◌, ◌<◌, Some, slice_get}
use Rattle.llvm_core.specs.declared.numbers.LLVMInstRef.{LLVMInstRef}
use Rattle.from_llvm_ir.specs.Source.{AreRight, IsNotedOf}
use Rattle.from_llvm_ir.proofs.entries.note_insts.Given as goal

abbrev pub invariant-loop-i : goal.invariant-loop-i
invariant-loop-i l = record {
  right : AreRight l.source l.noted;
  noted : (j : ℕ) → (q : LLVMInstRef) → j < l.i-index → slice_get l.insts j ≡ Some q → IsNotedOf l.source l.noted q;
  kept : (q : LLVMInstRef) → IsNotedOf l.source l.fn.noted q → IsNotedOf l.source l.noted q;
}

-- What the loop of `operands::has_other_type` keeps.
use Rattle.std.proofs.Common.{◌≡◌, ◌<◌, ℕ, Some, slice_get}
use Rattle.llvm_core.specs.declared.code.PhiEntry.{PhiEntry}
use Rattle.llvm_core.specs.Parts.{value_type}
use Rattle.llvm_core.proofs.operands.has_other_type.Given as goal

abbrev pub invariant-loop-entry : goal.invariant-loop-entry
invariant-loop-entry l = (j : ℕ) (e : PhiEntry) → j < l.entry-index → slice_get l.entries j ≡ Some e → value_type l.m e.value ≡ Some l.ty

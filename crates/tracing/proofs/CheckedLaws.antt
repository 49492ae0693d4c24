-- What the rules of a checked module say of the row of an instruction: its operands are values of its function.
use Rattle.std.proofs.Common.{◌≡◌, ℕ, false, List, [], ◌∷◌, All}
use Rattle.std.specs.List.{list_any}
use Rattle.std.proofs.lemmas.Bool.{or_parts}
use Rattle.std.proofs.lemmas.List.Elements.{All-nil, All-cons, All-head, All-tail}
use Rattle.llvm_core.specs.declared.numbers.LLVMType.{LLVMType}
use Rattle.llvm_core.specs.declared.code.LLVMValue.{LLVMValue}
use Rattle.llvm_core.specs.declared.code.LLVMInst.TheVariants as I
use Rattle.llvm_core.specs.declared.code.Row.{Row}
use Rattle.llvm_core.specs.Module.{Module}
use Rattle.llvm_core.specs.Parts.{IsValue}
use Rattle.llvm_core.specs.Checked.{is_outside, is_block_outside}
use Rattle.llvm_core.proofs.FormTypes.{numbered}
use Rattle.llvm_core.proofs.CheckedInsts.{MeetsRules}
use Rattle.tracing.specs.LlvmBodies.{InChecked, IsUsed}

module _ (m : Module) (h : InChecked m) where
  used_each : (vs : List LLVMValue) → All (IsValue m) vs → list_any (is_outside m (numbered h.number)) vs ≡ false → All (IsUsed m h) vs
  used_each [] here none = All-nil (IsUsed m h)
  used_each (v ∷ vs) here none =
      let inside = or_parts (is_outside m (numbered h.number) v) (list_any (is_outside m (numbered h.number)) vs) none in
      All-cons (IsUsed m h) v vs (record { here = All-head (IsValue m) v vs here; inside = inside.0 }) (used_each vs (All-tail (IsValue m) v vs here) inside.1)

  pub row_used : (b : ℕ) (ty : LLVMType) (r : Row) → MeetsRules m h.number b ty (I.Row r) → All (IsUsed m h) r.operands
  row_used b ty r rules =
      used_each r.operands rules.values.0 (or_parts (list_any (is_outside m (numbered h.number)) r.operands) (list_any (is_block_outside m (numbered h.number)) r.targets) rules.outside).0

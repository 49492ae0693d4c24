-- A row whose result is not void fits: one that does not fit has none.
use Rattle.std.proofs.Common.{◌≡◌, Bool, true, false, not, Option, None, Some, if◌then◌else◌, slice_get, refl, sym, ap, subst, ◌∙◌}
use Rattle.std.specs.Option.{option_map}
use Rattle.std.proofs.lemmas.Option.{same_Some}
use Rattle.kinds.specs.Table.{rule_of}
use Rattle.llvm_core.specs.declared.numbers.LLVMType.{LLVMType}
use Rattle.llvm_core.specs.declared.numbers.LLVMInstRef.{LLVMInstRef}
use Rattle.llvm_core.specs.declared.types.LLVMTypeKind.{LLVMTypeKind}
use Rattle.llvm_core.specs.declared.types.LLVMTypeKind.TheVariants as T
use Rattle.llvm_core.specs.declared.types.ResultType.{ResultType}
use Rattle.llvm_core.specs.declared.code.LLVMValue.TheVariants as V
use Rattle.llvm_core.specs.declared.code.LLVMInst.{LLVMInst}
use Rattle.llvm_core.specs.declared.code.LLVMInst.TheVariants as I
use Rattle.llvm_core.specs.declared.code.Row.{Row}
use Rattle.llvm_core.specs.declared.code.InstData.{InstData}
use Rattle.llvm_core.specs.Module.{Module}
use Rattle.llvm_core.specs.Parts.{value_type, given, row_fits, row_result, result_type, type_nth}
use Rattle.llvm_core.specs.Checked.{is_void}
use Rattle.llvm_core.specs.Sound.{StandsFor, IsModule}

module _ (m : Module) (i : LLVMInstRef) (r : Row) (t : LLVMType) (k : LLVMTypeKind) (sound : IsModule m) (type_is : value_type m (V.Inst i) ≡ Some t) (kind_is : slice_get m.types t.0 ≡ Some k) where
  void_of : (x : InstData) → slice_get m.insts i.0 ≡ Some x → x.inst ≡ I.Row r → row_fits m r ≡ false → is_void k ≡ true
  void_of x at row unfit =
      let none : row_result m r ≡ None = ap (λ (b : Bool). if b then given m.types (rule_of r.op).gives r.written (type_nth m r.operands 0) (type_nth m r.operands 1) else None) unfit in
      let stands : StandsFor m.types (result_type m (I.Row r)) x.ty = subst (λ (j : LLVMInst). StandsFor m.types (result_type m j) x.ty) row (sound.insts i.0 x at).result in
      let void : slice_get m.types x.ty.0 ≡ Some T.Void = subst (λ (o : Option ResultType). StandsFor m.types o x.ty) none stands in
      let type : t ≡ x.ty = same_Some t x.ty (sym type_is ∙ ap (option_map (λ (y : InstData). y.ty)) at) in
      ap is_void (same_Some k T.Void (sym kind_is ∙ ap (λ (u : LLVMType). slice_get m.types u.0) type ∙ void))

  fits_by_type : option_map (λ (x : InstData). x.inst) (slice_get m.insts i.0) ≡ Some (I.Row r) → is_void k ≡ false → row_fits m r ≡ true
  fits_by_type inst_is some = by (slice_get m.insts i.0) refl inst_is (row_fits m r) refl
    where
      by : (o : Option InstData) → slice_get m.insts i.0 ≡ o → option_map (λ (x : InstData). x.inst) o ≡ Some (I.Row r) → (b : Bool) → row_fits m r ≡ b → b ≡ true
      by None at is b e = cc
      by (Some x) at is true e = refl
      by (Some x) at is false e = absurd (let void = void_of x at (same_Some x.inst (I.Row r) is) e in cc)

  -- the same, of a test for void that failed
  pub fits_unless_void : option_map (λ (x : InstData). x.inst) (slice_get m.insts i.0) ≡ Some (I.Row r) → (b : Bool) → b ≡ is_void k → b ≡ false → not b ≡ row_fits m r
  fits_unless_void inst_is true e some = cc
  fits_unless_void inst_is false e some = sym (fits_by_type inst_is (sym e))

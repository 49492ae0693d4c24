-- A constant of an integer type may be converted.
use Rattle.std.proofs.Common.{◌≡◌, ◌<◌, ℕ, true, false, Option, Some, length, slice_get, refl, ap, sym, subst}
use Rattle.std.proofs.lemmas.Option.{slice_get_within}
use Rattle.std.proofs.lemmas.Nat.{pow_pos}
use Rattle.std.specs.Option.{option_map_or}
use Rattle.kinds.specs.declared.fill.Fill.{Fill}
use Rattle.kinds.specs.Held.{deepest}
use Rattle.kinds.specs.Structs.{nests}
use Rattle.kinds.proofs.NestLaws.{int_nested}
use Rattle.llvm_core.specs.declared.numbers.LLVMConst.{LLVMConst}
use Rattle.llvm_core.specs.declared.numbers.LLVMType.{LLVMType}
use Rattle.llvm_core.specs.declared.consts.LLVMConstKind.{LLVMConstKind}
use Rattle.llvm_core.specs.declared.consts.LLVMConstKind.TheVariants as C
use Rattle.llvm_core.specs.declared.types.LLVMTypeKind.TheVariants as T
use Rattle.llvm_core.specs.Data.{TypeTree, structs_of}
use Rattle.llvm_core.specs.Depths.{nests_at}
use Rattle.llvm_core.specs.Module.{Module}
use Rattle.llvm_core.specs.Consts.{HasConstParts, is_placeholder}
use Rattle.llvm_core.specs.Parts.{const_type}
use Rattle.llvm_core.specs.Sound.{IsModule}
use Rattle.llvm_core.proofs.DataLemmas.{int_tree_of}
use Rattle.from_consts.specs.Constants.{type_number, IsConstant}
use Rattle.constant_tests.specs.Converted.{IsOfInteger, IsSingle}

module _ (m : Module) (c : LLVMConst) (h : IsOfInteger m c) where
  pub there : c.0 < length m.consts
  there = slice_get_within m.consts c.0 h.kind h.here

  pub nested : IsModule m → nests_at m (type_number m c) deepest ≡ true
  nested sound =
      let number : type_number m c ≡ const_type h.kind = ap (λ (o : Option LLVMConstKind). option_map_or const_type o (record { 0 = 0 })) h.here in
      subst (λ (t : LLVMType). nests_at m t deepest ≡ true) (sym number) (subst (λ (t : TypeTree). nests (structs_of m) deepest t ≡ true) (sym (int_tree_of m (const_type h.kind) h.width sound h.typed)) (int_nested (structs_of m) h.width))

  no_placeholder : (k : LLVMConstKind) → IsSingle k → is_placeholder k ≡ false
  no_placeholder (C.Int u v) single = refl
  no_placeholder (C.Filled fill u) single = refl
  no_placeholder (C.Bytes u bytes) single = absurd single
  no_placeholder (C.List u elements) single = absurd single
  no_placeholder (C.Splat u element) single = absurd single
  no_placeholder (C.Placeholder n u) single = absurd single

  pub convertible : IsConstant m c
  convertible = (h.kind, h.here, no_placeholder h.kind h.single)

-- what may be asked of a module that has the type
pub zero_parts : (m : Module) (t : LLVMType) (w : ℕ) → slice_get m.types t.0 ≡ Some (T.Int w) → HasConstParts m (C.Int t 0)
zero_parts m t w at = (w, at, (pow_pos w, pow_pos 128))

pub fill_parts : (m : Module) (t : LLVMType) (w : ℕ) (fill : Fill) → slice_get m.types t.0 ≡ Some (T.Int w) → HasConstParts m (C.Filled fill t)
fill_parts m t w fill at = slice_get_within m.types t.0 (T.Int w) at

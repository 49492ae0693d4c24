-- What stays of the fields of structs where the list of types grows.
use Rattle.std.proofs.Common.{◌≡◌, ◌<◌, ◌≤◌, ℕ, Bool, true, false, List, [], ◌∷◌, Option, Some, None, length, slice_get, map, ap, ◌∙◌, refl, arith, All}
use Rattle.std.specs.Prelude.{IfSome}
use Rattle.std.specs.Option.{option_map, option_map_or}
use Rattle.std.proofs.lemmas.List.Elements.{All-head, All-tail, All-weaker}
use Rattle.kinds.specs.declared.fitting.Shape.{Shape}
use Rattle.kinds.specs.declared.fitting.Shape.TheVariants as S
use Rattle.kinds.specs.Fitting.{is_field}
use Rattle.llvm_core.specs.declared.numbers.LLVMType.{LLVMType}
use Rattle.llvm_core.specs.declared.types.LLVMTypeKind.{LLVMTypeKind}
use Rattle.llvm_core.specs.declared.structs.StructFields.{StructFields}
use Rattle.llvm_core.specs.declared.structs.StructData.{StructData}
use Rattle.llvm_core.specs.Parts.{shape_of, shape_at}
use Rattle.llvm_core.specs.Sound.{AreFieldsIn, IsStructIn}
use Rattle.llvm_core.specs.Data.{TypeTree, type_at, types_at, fields_of, struct_of}

-- what a type is made of stays where the list of types grows
pub shape_stays : (xs ys : List LLVMTypeKind) → ((i : ℕ) (k : LLVMTypeKind) → slice_get xs i ≡ Some k → slice_get ys i ≡ Some k) → (p : Shape → Bool) → p S.Void ≡ false → (t : LLVMType) → p (shape_at xs t) ≡ true → p (shape_at ys t) ≡ true
shape_stays xs ys kept p void t h = by (slice_get xs t.0) refl h
  where
    by : (o : Option LLVMTypeKind) → slice_get xs t.0 ≡ o → p (option_map_or shape_of o S.Void) ≡ true → p (shape_at ys t) ≡ true
    by None is h = cc
    by (Some k) is h = ap (λ o. p (option_map_or shape_of o S.Void)) (kept t.0 k is) ∙ h

module _ (xs ys : List LLVMTypeKind) (longer : length xs ≤ length ys) (kept : (i : ℕ) (k : LLVMTypeKind) → slice_get xs i ≡ Some k → slice_get ys i ≡ Some k) where
  fields_kept : (o : Option StructFields) → IfSome o (AreFieldsIn xs) → IfSome o (AreFieldsIn ys)
  fields_kept None h = h
  fields_kept (Some b) h = record {
    within = All-weaker (λ (t : LLVMType). t.0 < length xs) (λ (t : LLVMType). t.0 < length ys) (λ t lt. omega (arith, longer)) b.types h.within;
    fit = All-weaker (λ (t : LLVMType). is_field (shape_at xs t) ≡ true) (λ (t : LLVMType). is_field (shape_at ys t) ≡ true) (λ t. shape_stays xs ys kept is_field refl t) b.types h.fit;
  }

  pub structs_kept : (ss : List StructData) → All (IsStructIn xs) ss → All (IsStructIn ys) ss
  structs_kept ss h = All-weaker (IsStructIn xs) (IsStructIn ys) (λ x. fields_kept x.body) ss h

-- trees that agree on the types that are there agree on what is made of them
module _ (types : List LLVMTypeKind) (ts us : List TypeTree) (same : (t : LLVMType) → t.0 < length types → type_at ts t ≡ type_at us t) where
  types_same : (xs : List LLVMType) → All (λ (t : LLVMType). t.0 < length types) xs → types_at ts xs ≡ types_at us xs
  types_same [] h = refl
  types_same (x ∷ xs) h =
      let e = same x (All-head (λ (t : LLVMType). t.0 < length types) x xs h) in
      let f = types_same xs (All-tail (λ (t : LLVMType). t.0 < length types) x xs h) in
      cc

  fields_same : (o : Option StructFields) → IfSome o (AreFieldsIn types) → option_map (fields_of ts) o ≡ option_map (fields_of us) o
  fields_same None h = refl
  fields_same (Some b) h = let e = types_same b.types h.within in cc

  pub structs_same : (ss : List StructData) → All (IsStructIn types) ss → map (struct_of ts) ss ≡ map (struct_of us) ss
  structs_same [] h = refl
  structs_same (x ∷ ss) h =
      let e = fields_same x.body (All-head (IsStructIn types) x ss h) in
      let f = structs_same ss (All-tail (IsStructIn types) x ss h) in
      cc

-- A module may keep a constant of a kind where what is written means one.
use Rattle.std.proofs.Common.{◌≡◌, ◌<◌, ◌≤◌, ◌^◌, ℕ, zero, suc, Bool, true, false, ◌&&◌, not, nat_eq, nat_le, nat_lt, if◌then◌else◌, List, [], ◌∷◌, Option, Some, None, All, map, length, slice_get, refl, sym, ap, ◌∙◌, subst, arith}
use Rattle.std.specs.Prelude.{replicate, IfSome}
use Rattle.std.specs.Option.{option_map, option_map_or, option_and_then}
use Rattle.std.proofs.lemmas.List.Elements.{All-weaker}
use Rattle.llvm_core.specs.declared.structs.StructData.{StructData}
use Rattle.std.proofs.lemmas.Option.{same_Some, slice_get_within}
use Rattle.support.proofs.ListLaws.{item_there}
use Rattle.kinds.specs.Types.{TypeTree, IntType, ArrayType, VectorType, StructType, NamedType, NoTypes, ThenType, same_tree}
use Rattle.kinds.specs.Structs.{StructBody}
use Rattle.kinds.specs.declared.types.VectorTypeKind.{VectorTypeKind}
use Rattle.kinds.specs.declared.types.VectorTypeKind.TheVariants as N
use Rattle.kinds.proofs.TypeLaws.{tree_self, tree_told}
use Rattle.llvm_core.specs.declared.numbers.LLVMType.{LLVMType}
use Rattle.llvm_core.specs.declared.numbers.LLVMConst.{LLVMConst}
use Rattle.llvm_core.specs.declared.types.LLVMTypeKind.{LLVMTypeKind}
use Rattle.llvm_core.specs.declared.types.LLVMTypeKind.TheVariants as T
use Rattle.llvm_core.specs.declared.consts.LLVMConstKind.TheVariants as C
use Rattle.llvm_core.specs.declared.structs.StructFields.{StructFields}
use Rattle.llvm_core.specs.Module.{Module}
use Rattle.llvm_core.specs.Sound.{IsModule}
use Rattle.llvm_core.specs.Consts.{IsElement, IsListOf, IsBytesType, IsLaneOf, AreElements, HasFields, HasConstParts}
use Rattle.llvm_core.specs.Holding.{IsSplatOf}
use Rattle.llvm_core.specs.Data.{ConstTree, ConstTrees, NoConsts, ThenConst, BytesConst, SplatConst, type_at, types_at, const_at, consts_at, const_tree, const_type, type_tree, fields_of, structs_of, trees_of, listed, formed}
use Rattle.llvm_core.proofs.DataLemmas.{type_tree_of, int_tree_of}
use Rattle.ll_lines.specs.Views.{IsTypeIn}
use Rattle.ll_bodies.specs.Constants.{is_element, are_all, are_each, body_named, are_elements, copies, chars_const, splat_const}
use Rattle.ll_bodies.specs.TableViews.{MeansKind}
use Rattle.ll_bodies.proofs.ConstantLaws.{both, passes_both, no_pass, element_is, is_element_there, Fit, each_fit, fit_each, all_told, all_copies, count_copies, are_copies, told_fields, body_told, fields_within, has_fields}

-- a number of a type that is below one that is there
module _ (m : Module) (s : IsModule m) (t : LLVMType) (k : LLVMTypeKind) (at : slice_get m.types t.0 ≡ Some k) where
  part_in : (u : LLVMType) → u.0 < t.0 → IsTypeIn m u
  part_in u lt = let within = slice_get_within m.types t.0 k at in omega (arith, lt, within)

module _ (m : Module) (s : IsModule m) where
  abbrev tree : LLVMType → TypeTree
  tree t = type_at (trees_of m).types t

  abbrev trees : List LLVMConst → ConstTrees
  trees cs = consts_at (trees_of m).consts cs

  -- ---- lists

  module _ (t : LLVMType) (cs : List LLVMConst) where
    listed_of : (k : LLVMTypeKind) (parts : List LLVMType) → slice_get m.types t.0 ≡ Some k → AreElements m.structs k parts → Fit m s parts cs → HasConstParts m (C.List t cs)
    listed_of k parts at fit f = record { kind = k; parts = parts; typed = at; fit = fit; count = f.count; each = f.each }

    many_of : (k : LLVMTypeKind) (n : ℕ) (u : LLVMType) → slice_get m.types t.0 ≡ Some k → IsTypeIn m u → All (λ (c : LLVMConst). c.0 < length m.consts) cs
        → ((us : List LLVMType) → ((length us ≡ n) × All (λ (v : LLVMType). v ≡ u) us) → AreElements m.structs k us) → are_all n (tree u) (trees cs) ≡ true → HasConstParts m (C.List t cs)
    many_of k n u at within inside fit e =
        listed_of k (replicate n u) at (fit (replicate n u) (count_copies n u, all_copies (λ (v : LLVMType). v ≡ u) n u refl))
        (each_fit m s (replicate n u) cs (all_copies (IsTypeIn m) n u within) inside (sym (all_told m s n u cs) ∙ e))

    -- the elements are those that the type asks
    pub has_elements : IsTypeIn m t → All (λ (c : LLVMConst). c.0 < length m.consts) cs → are_elements (structs_of m) (tree t) (trees cs) ≡ true → HasConstParts m (C.List t cs)
    has_elements within inside e =
        let k = item_there m.types t.0 within in
        by k.0 k.1 (sym (ap (λ (τ : TypeTree). are_elements (structs_of m) τ (trees cs)) (type_tree_of m t k.0 s k.1)) ∙ e)
      where
        by_name : (k : LLVMTypeKind) (name : List ℕ) → slice_get m.types t.0 ≡ Some (T.Named name) → (o : Option StructFields) → told_fields m name ≡ o
            → option_map_or (λ (b : StructBody). are_each b.fields (trees cs)) (option_map (fields_of (trees_of m).types) o) false ≡ true → HasConstParts m (C.List t cs)
        by_name k name at None f e = no_pass e
        by_name k name at (Some b) f e = listed_of (T.Named name) b.types at (has_fields m name b f) (each_fit m s b.types cs (fields_within m s name b f) inside e)

        by : (k : LLVMTypeKind) → slice_get m.types t.0 ≡ Some k → are_elements (structs_of m) (type_tree (trees_of m).types k) (trees cs) ≡ true → HasConstParts m (C.List t cs)
        by T.Void at e = no_pass e
        by (T.Int width) at e = no_pass e
        by (T.Ptr space) at e = no_pass e
        by (T.Floating of) at e = no_pass e
        by (T.Other of) at e = no_pass e
        by (T.Array n u) at e = many_of (T.Array n u) n u at (part_in m s t (T.Array n u) at u (s.types t.0 (T.Array n u) at)) inside (λ us h. h) e
        by (T.Vector N.Fixed n u) at e = many_of (T.Vector N.Fixed n u) n u at (part_in m s t (T.Vector N.Fixed n u) at u (s.types t.0 (T.Vector N.Fixed n u) at)) inside (λ us h. h) e
        by (T.Vector N.Scalable n u) at e = no_pass e
        by (T.Literal fields layout) at e = listed_of (T.Literal fields layout) fields at refl (each_fit m s fields cs (All-weaker (λ (u : LLVMType). u.0 < t.0) (IsTypeIn m) (part_in m s t (T.Literal fields layout) at) fields (s.types t.0 (T.Literal fields layout) at)) inside e)
        by (T.Named name) at e = by_name (T.Named name) name at (told_fields m name) refl (sym (ap (λ (o : Option StructBody). option_map_or (λ (b : StructBody). are_each b.fields (trees cs)) o false) (body_told m name)) ∙ e)
        by (T.Function result params variadic) at e = no_pass e

    pub elements_of : HasConstParts m (C.List t cs) → are_elements (structs_of m) (tree t) (trees cs) ≡ true
    elements_of h =
        ap (λ (τ : TypeTree). are_elements (structs_of m) τ (trees cs)) (type_tree_of m t h.kind s h.typed)
        ∙ by h.kind h.parts h.fit (record { count = h.count; each = h.each })
      where
        many : (n : ℕ) (u : LLVMType) (us : List LLVMType) → ((length us ≡ n) × All (λ (v : LLVMType). v ≡ u) us) → Fit m s us cs → are_all n (tree u) (trees cs) ≡ true
        many n u us g f =
            let is : us ≡ replicate n u = are_copies n u us g.0 g.1 in
            all_told m s n u cs ∙ fit_each m s (replicate n u) cs (subst (λ (vs : List LLVMType). Fit m s vs cs) is f)

        by : (k : LLVMTypeKind) (us : List LLVMType) → AreElements m.structs k us → Fit m s us cs → are_elements (structs_of m) (type_tree (trees_of m).types k) (trees cs) ≡ true
        by T.Void us g f = absurd g
        by (T.Int width) us g f = absurd g
        by (T.Ptr space) us g f = absurd g
        by (T.Floating of) us g f = absurd g
        by (T.Other of) us g f = absurd g
        by (T.Array n u) us g f = many n u us g f
        by (T.Vector N.Fixed n u) us g f = many n u us g f
        by (T.Vector N.Scalable n u) us g f = absurd g
        by (T.Literal fields layout) us g f = fit_each m s fields cs (subst (λ (vs : List LLVMType). Fit m s vs cs) g f)
        by (T.Named name) us g f =
            let told : told_fields m name ≡ Some g.1 = ap (option_and_then (λ (x : StructData). x.body)) g.2 ∙ g.3 in
            ap (λ (o : Option StructBody). option_map_or (λ (b : StructBody). are_each b.fields (trees cs)) o false) (body_told m name ∙ ap (option_map (fields_of (trees_of m).types)) told)
            ∙ fit_each m s g.1.types cs (subst (λ (vs : List LLVMType). Fit m s vs cs) (sym g.4) f)
        by (T.Function result params variadic) us g f = absurd g

  -- what is meant by a list whose elements are asked of the module
  pub list_means : (t : LLVMType) (cs : List LLVMConst) → IsTypeIn m t → All (λ (c : LLVMConst). c.0 < length m.consts) cs
      → MeansKind m (if are_elements (structs_of m) (tree t) (trees cs) then Some (listed (tree t) (trees cs)) else None) (Some (C.List t cs))
  list_means t cs within inside = (
    λ h. ap (λ (b : Bool). if b then Some (listed (tree t) (trees cs)) else None) (elements_of t cs h),
    λ lacks. by (are_elements (structs_of m) (tree t) (trees cs)) refl lacks,
  )
    where
      by : (b : Bool) → are_elements (structs_of m) (tree t) (trees cs) ≡ b → ¬ (HasConstParts m (C.List t cs)) → (if b then Some (listed (tree t) (trees cs)) else None) ≡ None
      by true e lacks = absurd (lacks (has_elements t cs within inside e))
      by false e lacks = refl

  -- ---- bytes

  byte_type : (u : LLVMType) → IsTypeIn m u → tree u ≡ IntType 8 → slice_get m.types u.0 ≡ Some (T.Int 8)
  byte_type u within e = let k = item_there m.types u.0 within in by k.0 k.1 (sym (type_tree_of m u k.0 s k.1) ∙ e)
    where
      by : (k : LLVMTypeKind) → slice_get m.types u.0 ≡ Some k → type_tree (trees_of m).types k ≡ IntType 8 → slice_get m.types u.0 ≡ Some (T.Int 8)
      by T.Void at e = absurd cc
      by (T.Int width) at e = (let w : width ≡ 8 = cc in at ∙ ap (λ (n : ℕ). Some (T.Int n)) w)
      by (T.Ptr space) at e = absurd cc
      by (T.Floating of) at e = absurd cc
      by (T.Other of) at e = absurd cc
      by (T.Array n v) at e = absurd cc
      by (T.Vector kind n v) at e = absurd cc
      by (T.Literal fields layout) at e = absurd cc
      by (T.Named name) at e = absurd cc
      by (T.Function result params variadic) at e = absurd cc

  bytes_type : (t : LLVMType) (n : ℕ) → IsTypeIn m t → tree t ≡ ArrayType n (IntType 8) → IsBytesType m.types m.consts m.structs t n
  bytes_type t n within e = let k = item_there m.types t.0 within in by k.0 k.1 (sym (type_tree_of m t k.0 s k.1) ∙ e)
    where
      by : (k : LLVMTypeKind) → slice_get m.types t.0 ≡ Some k → type_tree (trees_of m).types k ≡ ArrayType n (IntType 8) → IsBytesType m.types m.consts m.structs t n
      by T.Void at e = absurd cc
      by (T.Int width) at e = absurd cc
      by (T.Ptr space) at e = absurd cc
      by (T.Floating of) at e = absurd cc
      by (T.Other of) at e = absurd cc
      by (T.Array count u) at e =
          let same : count ≡ n = cc in
          let byte : tree u ≡ IntType 8 = cc in
          (u, at ∙ ap (λ (i : ℕ). Some (T.Array i u)) same, byte_type u (part_in m s t (T.Array count u) at u (s.types t.0 (T.Array count u) at)) byte)
      by (T.Vector kind count u) at e = absurd cc
      by (T.Literal fields layout) at e = absurd cc
      by (T.Named name) at e = absurd cc
      by (T.Function result params variadic) at e = absurd cc

  bytes_typed : (t : LLVMType) (n : ℕ) → IsBytesType m.types m.consts m.structs t n → tree t ≡ ArrayType n (IntType 8)
  bytes_typed t n h = type_tree_of m t (T.Array n h.0) s h.1 ∙ ap (ArrayType n) (int_tree_of m h.0 8 s h.2)

  -- what is meant by bytes whose type is asked of the module
  pub bytes_mean : (t : LLVMType) (bytes : List ℕ) → IsTypeIn m t → All (λ (b : ℕ). b < 2 ^ 8) bytes → MeansKind m (chars_const (tree t) bytes) (Some (C.Bytes t bytes))
  bytes_mean t bytes within small = (
    λ h. ap (λ (b : Bool). if b then Some (formed (BytesConst bytes)) else None) (ap (λ (τ : TypeTree). same_tree τ (ArrayType (length bytes) (IntType 8))) (bytes_typed t (length bytes) h.0) ∙ tree_self (ArrayType (length bytes) (IntType 8))),
    λ lacks. by (same_tree (tree t) (ArrayType (length bytes) (IntType 8))) refl lacks,
  )
    where
      by : (b : Bool) → same_tree (tree t) (ArrayType (length bytes) (IntType 8)) ≡ b → ¬ (HasConstParts m (C.Bytes t bytes)) → (if b then Some (formed (BytesConst bytes)) else None) ≡ None
      by true e lacks = absurd (lacks (bytes_type t (length bytes) within (tree_told (tree t) (ArrayType (length bytes) (IntType 8)) e), small))
      by false e lacks = refl

  -- ---- splats

  module _ (t : LLVMType) (c : LLVMConst) (within : IsTypeIn m t) (there : c.0 < length m.consts) (lacks : ¬ IsSplatOf m t c) where
    abbrev const : ConstTree
    const = const_at (trees_of m).consts c

    no_lane : (kind : VectorTypeKind) (n : ℕ) (u : LLVMType) → slice_get m.types t.0 ≡ Some (T.Vector kind n u) → is_element (tree u) const ≡ false
    no_lane kind n u at = by (is_element (tree u) const) refl
      where
        by : (b : Bool) → is_element (tree u) const ≡ b → b ≡ false
        by false e = refl
        by true e = absurd (lacks (kind, n, u, at, element_is m s c u there (part_in m s t (T.Vector kind n u) at u (s.types t.0 (T.Vector kind n u) at)) e))

    -- what may be no splat means none
    pub no_splat : splat_const (tree t) const ≡ None
    no_splat =
        let k = item_there m.types t.0 within in
        ap (λ (τ : TypeTree). splat_const τ const) (type_tree_of m t k.0 s k.1) ∙ by k.0 k.1
      where
        by : (k : LLVMTypeKind) → slice_get m.types t.0 ≡ Some k → splat_const (type_tree (trees_of m).types k) const ≡ None
        by T.Void at = refl
        by (T.Int width) at = refl
        by (T.Ptr space) at = refl
        by (T.Floating of) at = refl
        by (T.Other of) at = refl
        by (T.Array n u) at = refl
        by (T.Vector N.Fixed n u) at =
            ap (λ (b : Bool). if b then Some (listed (VectorType N.Fixed n (tree u)) (copies n const)) else None) (no_lane N.Fixed n u at)
        by (T.Vector N.Scalable n u) at =
            ap (λ (b : Bool). if b then Some (formed (SplatConst (VectorType N.Scalable n (tree u)) const)) else None) (no_lane N.Scalable n u at)
        by (T.Literal fields layout) at = refl
        by (T.Named name) at = refl
        by (T.Function result params variadic) at = refl

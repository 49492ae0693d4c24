-- What the types of a context are made of, read as trees.
use Rattle.std.proofs.Common.{◌≡◌, ◌<◌, ℕ, true, List, [], ◌∷◌, All, map, refl}
use Rattle.std.proofs.lemmas.List.Elements.{All-nil, All-cons, All-head, All-tail}
use Rattle.kinds.specs.declared.types.VectorTypeKind.{VectorTypeKind}
use Rattle.kinds.specs.declared.types.StructLayout.{StructLayout}
use Rattle.kinds.specs.Types.{shape, types_list, ArrayType, VectorType, StructType}
use Rattle.kinds.specs.Held.{IsFirstClass}
use Rattle.kinds.proofs.HeldLaws.{parts_first_class}
use Rattle.llvm_core.specs.declared.numbers.LLVMType.{LLVMType}
use Rattle.llvm_core.specs.Data as L
use Rattle.kinds.specs.Fitting.{is_field}
use Rattle.dialect_types.specs.declared.types.TypeHandle.{TypeHandle}
use Rattle.dialect_types.specs.declared.types.TypeKind.{TypeKind}
use Rattle.dialect_types.specs.declared.types.TypeKind.TheVariants as K
use Rattle.dialect_types.specs.Trees.{TypeTree, AllBelow, HasFitParts, type_at, types_at, type_tree}
use Rattle.tracing.specs.Types.{AreHandlesBelow, IsFitTree}

fields_fit : (ts : List TypeTree) (fields : List TypeHandle) → All (λ (t : TypeHandle). is_field (shape (type_at ts t)) ≡ true) fields → All (λ (t : TypeTree). is_field (shape t) ≡ true) (types_list (types_at ts fields))
fields_fit ts [] h = All-nil (λ (t : TypeTree). is_field (shape t) ≡ true)
fields_fit ts (t ∷ fields) h =
    let F : TypeHandle → Type 0 = λ t. is_field (shape (type_at ts t)) ≡ true in
    All-cons (λ (t : TypeTree). is_field (shape t) ≡ true) (type_at ts t) (types_list (types_at ts fields)) (All-head F t fields h) (fields_fit ts fields (All-tail F t fields h))

-- a line for each kind
pub fit_tree : (ts : List TypeTree) (k : TypeKind) → HasFitParts ts k → IsFitTree (type_tree ts k)
fit_tree ts (K.Array t count) h = h
fit_tree ts (K.Vector t count kind) h = h
fit_tree ts (K.Struct fields layout) h = fields_fit ts fields h
fit_tree ts (K.Integer w) h = tt
fit_tree ts (K.Pointer space) h = tt
fit_tree ts (K.Floating of) h = tt
fit_tree ts (K.Named name body) h = tt
fit_tree ts (K.Func r ps v) h = tt
fit_tree ts K.Void h = tt

-- ---- the parts of a type of a value

pub element_first_class : (n : ℕ) (t : TypeTree) → IsFirstClass (ArrayType n t) → IsFirstClass t
element_first_class n t h = All-head IsFirstClass t [] (parts_first_class (ArrayType n t) h)

pub item_first_class : (kind : VectorTypeKind) (n : ℕ) (t : TypeTree) → IsFirstClass (VectorType kind n t) → IsFirstClass t
item_first_class kind n t h = All-head IsFirstClass t [] (parts_first_class (VectorType kind n t) h)

listed_first_class : (ts : List TypeTree) (fields : List TypeHandle) → All IsFirstClass (types_list (types_at ts fields)) → All (λ (t : TypeHandle). IsFirstClass (type_at ts t)) fields
listed_first_class ts [] h = All-nil (λ (t : TypeHandle). IsFirstClass (type_at ts t))
listed_first_class ts (t ∷ fields) h =
    let τs = types_list (types_at ts fields) in
    All-cons (λ (t : TypeHandle). IsFirstClass (type_at ts t)) t fields (All-head IsFirstClass (type_at ts t) τs h) (listed_first_class ts fields (All-tail IsFirstClass (type_at ts t) τs h))

pub fields_first_class : (ts : List TypeTree) (layout : StructLayout) (fields : List TypeHandle) → IsFirstClass (StructType layout (types_at ts fields)) → All (λ (t : TypeHandle). IsFirstClass (type_at ts t)) fields
fields_first_class ts layout fields h = listed_first_class ts fields (parts_first_class (StructType layout (types_at ts fields)) h)

pub below_all : (n : ℕ) (ts : List TypeHandle) → AllBelow n ts → AreHandlesBelow n ts
below_all n [] h = All-nil (λ (t : TypeHandle). t.0 < n)
below_all n (t ∷ ts) h = All-cons (λ (t : TypeHandle). t.0 < n) t ts h.0 (below_all n ts h.1)

-- places of the types of handles have the trees that these have
pub same_fields : (trees ts : List TypeTree) (places : List LLVMType) (fields : List TypeHandle) → map (L.type_at trees) places ≡ map (type_at ts) fields → L.types_at trees places ≡ types_at ts fields
same_fields trees ts [] [] h = refl
same_fields trees ts [] (y ∷ ys) h = cc
same_fields trees ts (x ∷ xs) [] h = cc
same_fields trees ts (x ∷ xs) (y ∷ ys) h =
    let e : L.type_at trees x ≡ type_at ts y = cc in
    let rest : map (L.type_at trees) xs ≡ map (type_at ts) ys = cc in
    let f = same_fields trees ts xs ys rest in
    cc

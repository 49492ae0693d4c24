-- What the kind of a type that is translated is made of, and the kind that stands for it.
use Rattle.std.proofs.Common.{ℕ, zero, suc, max, ◌≡◌, ◌<◌, ◌≤◌, ◌∙◌, refl, ap, subst, Bool, true, false, ◌&&◌, ◌||◌, List, [], ◌∷◌, Some, All, length, map, slice_get, get_or, arith}
use Rattle.std.proofs.lemmas.List.Elements.{All-nil, All-cons, All-head, All-tail}
use Rattle.kinds.specs.declared.types.VectorTypeKind.{VectorTypeKind}
use Rattle.kinds.specs.declared.types.StructLayout.{StructLayout}
use Rattle.kinds.specs.Types.{TypeTree, ArrayType, VectorType, StructType, shape, parts_of}
use Rattle.kinds.specs.Fitting.{is_held, is_nothing, is_made, is_field, is_array_of, is_vector_of}
use Rattle.kinds.specs.Held.{is_void, throughout, each_throughout, IsHeld, IsHeldResult}
use Rattle.kinds.proofs.TypeLaws.{and_left, and_right}
use Rattle.kinds.proofs.HeldLaws.{held_shape, held_throughout, held_result_own, held_result_if, parts_held}
use Rattle.llvm_core.specs.declared.numbers.LLVMType.{LLVMType}
use Rattle.llvm_core.specs.declared.types.LLVMTypeKind.{LLVMTypeKind}
use Rattle.llvm_core.specs.declared.types.LLVMTypeKind.TheVariants as T
use Rattle.llvm_core.specs.Module.{Module}
use Rattle.llvm_core.specs.Parts.{IsTypeOver, shape_of}
use Rattle.llvm_core.specs.Sound.{IsModule}
use Rattle.llvm_core.specs.Data as L
use Rattle.llvm_core.specs.Data.{trees_of}
use Rattle.llvm_core.proofs.DataLemmas.{type_tree_of}
use Rattle.llvm_core.proofs.RuleLaws.{shape_kept}
use Rattle.dialect_types.specs.declared.types.TypeHandle.{TypeHandle}
use Rattle.dialect_types.specs.declared.types.TypeKind.{TypeKind}
use Rattle.dialect_types.specs.declared.types.TypeKind.TheVariants as K
use Rattle.dialect_types.specs.Trees.{type_at, types_at, type_tree, is_named, HasFitParts}
use Rattle.from_llvm_ir.proofs.TypeLaws.{listed, params_are}
use Rattle.from_llvm_ir.proofs.SourceLaws.{all_held}

-- ---- where parts stand

-- the least number that all of these are below
abbrev pub reach : List LLVMType → ℕ
reach [] = 0
reach (t ∷ ts) = max (suc t.0) (reach ts)

pub below_reach : (ts : List LLVMType) (i : ℕ) (d : LLVMType) → i < length ts → (get_or ts i d).0 < reach ts
below_reach [] i d lt = absurd (omega arith)
below_reach (t ∷ ts) zero d lt = omega arith
below_reach (t ∷ ts) (suc i) d lt = omega (arith, below_reach ts i d (omega (arith, lt)))

pub reach_below : (n : ℕ) (ts : List LLVMType) → All (λ (t : LLVMType). t.0 < n) ts → reach ts ≤ n
reach_below n [] h = omega arith
reach_below n (t ∷ ts) h = omega (arith, All-head (λ (u : LLVMType). u.0 < n) t ts h, reach_below n ts (All-tail (λ (u : LLVMType). u.0 < n) t ts h))

-- ---- what a type that is translated is made of

-- a test of its shape tells it
pub result_shape : (t : TypeTree) → IsHeldResult t → (is_nothing (shape t) || is_held (shape t)) ≡ true
result_shape t h = by (is_void t) refl
  where
    by : (v : Bool) → is_void t ≡ v → (is_nothing (shape t) || is_held (shape t)) ≡ true
    by true is = cc
    by false is = let k = held_shape t (held_result_own t h is) in cc

inside_held : (t : TypeTree) → is_void t ≡ false → IsHeldResult t → All IsHeld (parts_of t)
inside_held t own h = parts_held t (held_result_own t h own)

-- the parts of its kind are earlier types, and translated: a line for each kind that has parts
module _ (m : Module) (sound : IsModule m) (ty : LLVMType) (k : LLVMTypeKind) (at : slice_get m.types ty.0 ≡ Some k) (held : IsHeldResult (L.type_at (trees_of m).types ty)) where
  abbrev trees : List TypeTree
  trees = (trees_of m).types

  tree_held : (l : LLVMTypeKind) → k ≡ l → IsHeldResult (L.type_tree trees l)
  tree_held l is = subst IsHeldResult (type_tree_of m ty k sound at ∙ ap (L.type_tree trees) is) held

  over : (l : LLVMTypeKind) → k ≡ l → IsTypeOver ty.0 l
  over l is = subst (IsTypeOver ty.0) is (sound.types ty.0 k at)

  pub array_part : (n : ℕ) (u : LLVMType) → k ≡ T.Array n u → (u.0 < ty.0) × IsHeldResult (L.type_at trees u)
  array_part n u is = (over (T.Array n u) is, held_result_if (L.type_at trees u) (All-head IsHeld (L.type_at trees u) [] (inside_held (ArrayType n (L.type_at trees u)) refl (tree_held (T.Array n u) is))))

  pub vector_part : (v : VectorTypeKind) (n : ℕ) (u : LLVMType) → k ≡ T.Vector v n u → (u.0 < ty.0) × IsHeldResult (L.type_at trees u)
  vector_part v n u is = (over (T.Vector v n u) is, held_result_if (L.type_at trees u) (All-head IsHeld (L.type_at trees u) [] (inside_held (VectorType v n (L.type_at trees u)) refl (tree_held (T.Vector v n u) is))))

  pub struct_parts : (us : List LLVMType) (l : StructLayout) → k ≡ T.Literal us l → All (λ (t : LLVMType). t.0 < ty.0) us × All (λ (t : LLVMType). IsHeld (L.type_at trees t)) us
  struct_parts us l is = (over (T.Literal us l) is, all_held trees us (inside_held (StructType l (L.types_at trees us)) refl (tree_held (T.Literal us l) is)))

  -- its shape
  pub kind_held : (is_nothing (shape_of k) || is_held (shape_of k)) ≡ true
  kind_held = ap (λ s. is_nothing s || is_held s) (shape_kept trees k) ∙ result_shape (L.type_tree trees k) (tree_held k refl)

-- any other has none: a line for each kind that has parts, here or by its name
pub no_parts : (k : LLVMTypeKind) → (is_nothing (shape_of k) || is_held (shape_of k)) ≡ true → ((n : List ℕ) → k ≡ T.Named n → ⊥) → ((n : ℕ) (u : LLVMType) → k ≡ T.Array n u → ⊥) → ((v : VectorTypeKind) (n : ℕ) (u : LLVMType) → k ≡ T.Vector v n u → ⊥) → ((us : List LLVMType) (l : StructLayout) → k ≡ T.Literal us l → ⊥) → is_made (shape_of k) ≡ false
no_parts (T.Array n u) h d a v s = absurd (a n u refl)
no_parts (T.Vector w n u) h d a v s = absurd (v w n u refl)
no_parts (T.Literal us l) h d a v s = absurd (s us l refl)
no_parts (T.Named name) h d a v s = absurd (d name refl)
no_parts k h d a v s = refl

-- ---- the kind that stands for it

-- a struct of the fields that stand for its own
pub struct_stands : (ts : List TypeTree) (us : List TypeTree) (xs : List LLVMType) (ys zs : List TypeHandle) (l : StructLayout) → map (type_at ts) ys ≡ map (λ (t : LLVMType). L.type_at us t) xs → zs ≡ ys → type_tree ts (K.Struct zs l) ≡ L.type_tree us (T.Literal xs l)
struct_stands ts us xs ys zs l are same = ap (StructType l) (ap (types_at ts) same ∙ params_are ts ys (L.types_at us xs) (are ∙ listed us xs))

fields_fit : (ts : List TypeTree) (xs : List TypeHandle) → each_throughout is_held (types_at ts xs) ≡ true → All (λ (t : TypeHandle). is_field (shape (type_at ts t)) ≡ true) xs
fields_fit ts [] h = All-nil (λ (t : TypeHandle). is_field (shape (type_at ts t)) ≡ true)
fields_fit ts (x ∷ xs) h =
    let u = type_at ts x in
    let front = and_left (is_field (shape u) && throughout is_held u) (each_throughout is_held (types_at ts xs)) h in
    All-cons (λ (t : TypeHandle). is_field (shape (type_at ts t)) ≡ true) x xs (and_left (is_field (shape u)) (throughout is_held u) front)
    (fields_fit ts xs (and_right (is_field (shape u) && throughout is_held u) (each_throughout is_held (types_at ts xs)) h))

-- what it is made of may stand in it: a line for each kind that has parts, here or by its name
pub held_fit : (ts : List TypeTree) (k : TypeKind) → is_named k ≡ false → IsHeldResult (type_tree ts k) → HasFitParts ts k
held_fit ts (K.Named name body) plain h = cc
held_fit ts (K.Array t n) plain h =
    let u = type_at ts t in
    and_left (is_array_of n (shape u)) (throughout is_held u) (held_throughout (ArrayType n u) (held_result_own (ArrayType n u) h refl))
held_fit ts (K.Vector t n v) plain h =
    let u = type_at ts t in
    and_left (is_vector_of n (shape u)) (throughout is_held u) (held_throughout (VectorType v n u) (held_result_own (VectorType v n u) h refl))
held_fit ts (K.Struct xs l) plain h = fields_fit ts xs (held_throughout (StructType l (types_at ts xs)) (held_result_own (StructType l (types_at ts xs)) h refl))
held_fit ts k plain h = tt

-- What the kind of a type that is translated is made of, and the kind that stands for it.
use Rattle.std.proofs.Common.{ℕ, ◌≡◌, ◌<◌, ◌∙◌, refl, ap, subst, true, false, ◌&&◌, Option, List, [], ◌∷◌, All, length, map}
use Rattle.std.proofs.lemmas.List.Elements.{All-nil, All-cons, All-head, All-tail}
use Rattle.kinds.specs.declared.types.VectorTypeKind.{VectorTypeKind}
use Rattle.kinds.specs.declared.types.StructLayout.{StructLayout}
use Rattle.kinds.specs.Types.{ArrayType, VectorType, StructType, shape, parts_of}
use Rattle.kinds.specs.Fitting.{is_held, is_made, is_field, is_array_of, is_vector_of}
use Rattle.kinds.specs.Held.{is_void, throughout, each_throughout, IsHeld, IsHeldResult}
use Rattle.kinds.proofs.TypeLaws.{and_left, and_right}
use Rattle.kinds.proofs.HeldLaws.{held_throughout, held_result_own, held_result_if, parts_held}
use Rattle.llvm_core.specs.declared.numbers.LLVMType.{LLVMType}
use Rattle.llvm_core.specs.declared.types.LLVMTypeKind.{LLVMTypeKind}
use Rattle.llvm_core.specs.declared.types.LLVMTypeKind.TheVariants as T
use Rattle.llvm_core.specs.Module.{Module}
use Rattle.llvm_core.specs.Parts.{IsTypeOver, HasFitParts, shape_at}
use Rattle.llvm_core.specs.Sound.{IsModule}
use Rattle.llvm_core.specs.Data as L
use Rattle.llvm_core.specs.Data.{trees_of}
use Rattle.llvm_core.proofs.TreeLemmas.{same_tree}
use Rattle.llvm_core.proofs.WholeTypes.{shape_there}
use Rattle.dialect_types.specs.declared.types.TypeHandle.{TypeHandle}
use Rattle.dialect_types.specs.declared.types.StructFields.{StructFields}
use Rattle.dialect_types.specs.declared.types.TypeKind.{TypeKind}
use Rattle.dialect_types.specs.declared.types.TypeKind.TheVariants as K
use Rattle.dialect_types.specs.Trees.{TypeTree, type_at, types_at, type_tree, AllBelow, HasPartsBelow}
use Rattle.dialect_core.proofs.TypeTestLemmas.{listed_types, map_all}
use Rattle.to_llvm_ir.specs.Growth.{Grows, AreTypesOf}
use Rattle.to_llvm_ir.proofs.GrowthLaws.{type_kept}
use Rattle.to_llvm_ir.proofs.TypeLaws.{same_trees}

-- ---- what a type that is translated is made of

inside_held : (t : TypeTree) → is_void t ≡ false → IsHeldResult t → All IsHeld (parts_of t)
inside_held t own h = parts_held t (held_result_own t h own)

-- the parts of its kind are earlier types, and translated: a line for each kind that has parts
module _ (ts : List TypeTree) (n : ℕ) (k : TypeKind) (below : HasPartsBelow n k) (held : IsHeldResult (type_tree ts k)) where
  tree_held : (l : TypeKind) → k ≡ l → IsHeldResult (type_tree ts l)
  tree_held l is = subst (λ (x : TypeKind). IsHeldResult (type_tree ts x)) is held

  parts_below : (l : TypeKind) → k ≡ l → HasPartsBelow n l
  parts_below l is = subst (HasPartsBelow n) is below

  pub array_part : (t : TypeHandle) (c : ℕ) → k ≡ K.Array t c → (t.0 < n) × IsHeldResult (type_at ts t)
  array_part t c is = (parts_below (K.Array t c) is, held_result_if (type_at ts t) (All-head IsHeld (type_at ts t) [] (inside_held (ArrayType c (type_at ts t)) refl (tree_held (K.Array t c) is))))

  pub vector_part : (t : TypeHandle) (c : ℕ) (v : VectorTypeKind) → k ≡ K.Vector t c v → (t.0 < n) × IsHeldResult (type_at ts t)
  vector_part t c v is = (parts_below (K.Vector t c v) is, held_result_if (type_at ts t) (All-head IsHeld (type_at ts t) [] (inside_held (VectorType v c (type_at ts t)) refl (tree_held (K.Vector t c v) is))))

  pub struct_parts : (xs : List TypeHandle) (l : StructLayout) → k ≡ K.Struct xs l → AllBelow n xs × All (λ (t : TypeHandle). IsHeld (type_at ts t)) xs
  struct_parts xs l is =
      (parts_below (K.Struct xs l) is, map_all IsHeld (type_at ts) xs (subst (All IsHeld) (listed_types ts xs) (inside_held (StructType l (types_at ts xs)) refl (tree_held (K.Struct xs l) is))))

pub all_there : (n : ℕ) (xs : List TypeHandle) → AllBelow n xs → All (λ (t : TypeHandle). t.0 < n) xs
all_there n [] h = All-nil (λ (t : TypeHandle). t.0 < n)
all_there n (x ∷ xs) h = All-cons (λ (t : TypeHandle). t.0 < n) x xs h.0 (all_there n xs h.1)

-- any other has none: a line for each kind that has parts, here or by its name
pub no_parts : (ts : List TypeTree) (k : TypeKind) → ((t : TypeHandle) (n : ℕ) → k ≡ K.Array t n → ⊥) → ((t : TypeHandle) (n : ℕ) (v : VectorTypeKind) → k ≡ K.Vector t n v → ⊥) → ((xs : List TypeHandle) (l : StructLayout) → k ≡ K.Struct xs l → ⊥)
    → ((name : List ℕ) (body : Option StructFields) → k ≡ K.Named name body → ⊥) → is_made (shape (type_tree ts k)) ≡ false
no_parts ts (K.Array t n) a v s o = absurd (a t n refl)
no_parts ts (K.Vector t n w) a v s o = absurd (v t n w refl)
no_parts ts (K.Struct xs l) a v s o = absurd (s xs l refl)
no_parts ts (K.Named name body) a v s o = absurd (o name body refl)
no_parts ts k a v s o = refl

-- ---- the kind that stands for it

-- a struct of the fields that stand for its own
pub struct_stands : (m : Module) (ts : List TypeTree) (xs : List LLVMType) (ys : List TypeHandle) (l : StructLayout) → AreTypesOf m xs (map (type_at ts) ys) → L.type_tree (trees_of m).types (T.Literal xs l) ≡ type_tree ts (K.Struct ys l)
struct_stands m ts xs ys l are = ap (StructType l) (same_trees (trees_of m).types ts xs ys are.1)

module _ (m : Module) (sound : IsModule m) where
  abbrev trees : List TypeTree
  trees = (trees_of m).types

  fields_fit : (us : List LLVMType) → All (λ (t : LLVMType). t.0 < length m.types) us → each_throughout is_held (L.types_at trees us) ≡ true → All (λ (t : LLVMType). is_field (shape_at m.types t) ≡ true) us
  fields_fit [] there h = All-nil (λ (t : LLVMType). is_field (shape_at m.types t) ≡ true)
  fields_fit (u ∷ us) there h =
      let t = L.type_at trees u in
      let front = and_left (is_field (shape t) && throughout is_held t) (each_throughout is_held (L.types_at trees us)) h in
      All-cons (λ (x : LLVMType). is_field (shape_at m.types x) ≡ true) u us
      (ap is_field (shape_there m sound u (All-head (λ (x : LLVMType). x.0 < length m.types) u us there)) ∙ and_left (is_field (shape t)) (throughout is_held t) front)
      (fields_fit us (All-tail (λ (x : LLVMType). x.0 < length m.types) u us there) (and_right (is_field (shape t) && throughout is_held t) (each_throughout is_held (L.types_at trees us)) h))

  -- what it is made of may stand in it: a line for each kind that has parts
  pub held_fit : (k : LLVMTypeKind) → IsTypeOver (length m.types) k → IsHeldResult (L.type_tree trees k) → HasFitParts m.types k
  held_fit (T.Array n u) over h =
      let t = L.type_at trees u in
      ap (is_array_of n) (shape_there m sound u over) ∙ and_left (is_array_of n (shape t)) (throughout is_held t) (held_throughout (ArrayType n t) (held_result_own (ArrayType n t) h refl))
  held_fit (T.Vector v n u) over h =
      let t = L.type_at trees u in
      ap (is_vector_of n) (shape_there m sound u over) ∙ and_left (is_vector_of n (shape t)) (throughout is_held t) (held_throughout (VectorType v n t) (held_result_own (VectorType v n t) h refl))
  held_fit (T.Literal us l) over h = fields_fit us over (held_throughout (StructType l (L.types_at trees us)) (held_result_own (StructType l (L.types_at trees us)) h refl))
  held_fit k over h = tt

-- it keeps its tree in a module that grew
pub kind_kept : (old new : Module) (k : LLVMTypeKind) → Grows old new → IsTypeOver (length old.types) k → L.type_tree (trees_of new).types k ≡ L.type_tree (trees_of old).types k
kind_kept old new k g over =
    same_tree (trees_of new).types (trees_of old).types (length old.types)
    (λ j below. (type_kept old new (record { 0 = j }) (L.type_at (trees_of old).types (record { 0 = j })) g (below, refl)).1) k over

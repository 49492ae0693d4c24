-- Which types may be converted back: those of values and void, since each integer type within them has a width that LLVM has.
use Rattle.std.proofs.Common.{◌≡◌, ◌∙◌, ℕ, zero, suc, Bool, true, false, List, [], ◌∷◌, Option, Some, None, All, slice_get, refl, sym, ap, subst}
use Rattle.std.specs.Prelude.{IfSome}
use Rattle.std.proofs.lemmas.List.Elements.{All-head, All-tail}
use Rattle.std.proofs.lemmas.Option.{same_Some}
use Rattle.kinds.specs.Types.{TypeTree, parts_of, types_list}
use Rattle.kinds.specs.Held.{IsHeld, IsHeldResult, is_void}
use Rattle.kinds.proofs.HeldLaws.{held_int, held_result_own, parts_held}
use Rattle.dialect_types.specs.declared.types.TypeHandle.{TypeHandle}
use Rattle.dialect_types.specs.declared.types.StructFields.{StructFields}
use Rattle.dialect_types.specs.declared.types.TypeKind.{TypeKind}
use Rattle.dialect_types.specs.declared.types.TypeKind.TheVariants as K
use Rattle.dialect_types.specs.Trees.{type_at, types_at, type_tree, type_trees, is_named, IsStored}
use Rattle.dialect_types.proofs.TreeLemmas.{tree_of_kind}
use Rattle.to_llvm_ir.specs.Conversion.{HasWidths, Inside, IsPart, IsWithin, Itself, numbers_in, types_in}
use Rattle.to_llvm_ir.specs.Structs.{AreFieldsOf}
use Rattle.to_llvm_ir.proofs.ListLaws.{all_at}
use Rattle.to_llvm_ir.proofs.StructLaws.{named_fields}

nothing_there : (i : ℕ) (u : TypeHandle) → slice_get [] i ≡ Some u → ⊥
nothing_there zero u at = cc
nothing_there (suc i) u at = cc

-- the types of numbers, each translated
trees_held : (ts : List TypeTree) (us : List TypeHandle) → All IsHeld (types_list (types_at ts us)) → (i : ℕ) (u : TypeHandle) → slice_get us i ≡ Some u → IsHeld (type_at ts u)
trees_held ts [] h i u at = absurd (nothing_there i u at)
trees_held ts (x ∷ us) h zero u at = subst (λ (v : TypeHandle). IsHeld (type_at ts v)) (same_Some x u at) (All-head IsHeld (type_at ts x) (types_list (types_at ts us)) h)
trees_held ts (x ∷ us) h (suc i) u at = trees_held ts us (All-tail IsHeld (type_at ts x) (types_list (types_at ts us)) h) i u at

-- what a kind without a name is made of: a line for each kind that has parts
kind_held : (ts : List TypeTree) (k : TypeKind) → is_named k ≡ false → All IsHeld (parts_of (type_tree ts k)) → (i : ℕ) (u : TypeHandle) → slice_get (numbers_in k) i ≡ Some u → IsHeld (type_at ts u)
kind_held ts (K.Array t count) plain h i u at = trees_held ts (t ∷ []) h i u at
kind_held ts (K.Vector t count v) plain h i u at = trees_held ts (t ∷ []) h i u at
kind_held ts (K.Struct fields layout) plain h i u at = trees_held ts fields h i u at
kind_held ts (K.Func result params variadic) plain h i u at = trees_held ts (result ∷ params) h i u at
kind_held ts (K.Named name body) plain h i u at = cc
kind_held ts k plain h i u at = absurd (nothing_there i u at)

-- void is made of nothing, and is no integer type
void_part : (ts : List TypeTree) (k : TypeKind) (i : ℕ) (u : TypeHandle) → is_void (type_tree ts k) ≡ true → slice_get (numbers_in k) i ≡ Some u → ⊥
void_part ts K.Void i u e at = nothing_there i u at
void_part ts k i u e at = cc

module _ (ks : List TypeKind) (stored : IsStored ks) where
  part_held : (u t : TypeHandle) → IsPart ks u t → IsHeld (type_at (type_trees ks) t) → IsHeld (type_at (type_trees ks) u)
  part_held u t part h = by part.0 part.2 part.3
    where
      fields : (body : Option StructFields) → IfSome body (AreFieldsOf ks) → slice_get (types_in body) part.1 ≡ Some u → IsHeld (type_at (type_trees ks) u)
      fields None are at = absurd (nothing_there part.1 u at)
      fields (Some b) are at = all_at (λ (t : TypeHandle). IsHeld (type_at (type_trees ks) t)) b.types part.1 u are.held at

      by : (k : TypeKind) → slice_get ks t.0 ≡ Some k → slice_get (numbers_in k) part.1 ≡ Some u → IsHeld (type_at (type_trees ks) u)
      by (K.Named name body) here at = fields body (named_fields ks stored t.0 name body here) at
      by k here at = kind_held (type_trees ks) k refl (parts_held (type_tree (type_trees ks) k) (subst IsHeld (tree_of_kind ks stored.grounded t k here) h)) part.1 u at

  within_held : (u t : TypeHandle) → IsWithin ks u t → IsHeld (type_at (type_trees ks) t) → IsHeld (type_at (type_trees ks) u)
  within_held u t Itself h = h
  within_held u t (Inside w v part inner) h = within_held u v inner (part_held v w part h)

  held_widths : (t : TypeHandle) → IsHeld (type_at (type_trees ks) t) → HasWidths ks t
  held_widths t h u w inner at = held_int w (subst IsHeld (tree_of_kind ks stored.grounded u (K.Integer w) at) (within_held u t inner h))

  void_widths : (t : TypeHandle) → is_void (type_at (type_trees ks) t) ≡ true → HasWidths ks t
  void_widths t void u w Itself at = let e = ap is_void (sym (tree_of_kind ks stored.grounded u (K.Integer w) at)) ∙ void in cc
  void_widths t void u w (Inside s v part inner) at =
      absurd (void_part (type_trees ks) part.0 part.1 v (ap is_void (sym (tree_of_kind ks stored.grounded s part.0 part.2)) ∙ void) part.3)

  pub result_widths : (t : TypeHandle) → IsHeldResult (type_at (type_trees ks) t) → HasWidths ks t
  result_widths t h = by (is_void (type_at (type_trees ks) t)) refl
    where
      by : (v : Bool) → is_void (type_at (type_trees ks) t) ≡ v → HasWidths ks t
      by true is = void_widths t is
      by false is = held_widths t (held_result_own (type_at (type_trees ks) t) h is)

-- Types of a store: those that are tested to be one, the elements of a struct with a name, and constants that have the same types.
use Rattle.std.proofs.Common.{◌≡◌, ◌<◌, ℕ, Bool, true, false, Option, Some, None, List, length, eqb, refl, sym, ap, ◌∙◌}
use Rattle.std.proofs.lemmas.Bool.{eq-eqb, eqb-true}
use Rattle.kinds.specs.Types.{same_tree}
use Rattle.kinds.proofs.TypeLaws.{tree_self, tree_told}
use Rattle.dialect_types.specs.declared.types.TypeHandle.{TypeHandle}
use Rattle.std.specs.Prelude.{slice_get}
use Rattle.std.specs.Option.{option_map}
use Rattle.dialect_types.specs.declared.types.StructFields.{StructFields}
use Rattle.dialect_types.specs.declared.types.TypeKind.{TypeKind}
use Rattle.dialect_types.specs.declared.types.TypeKind.TheVariants.{Named}
use Rattle.dialect_types.proofs.NamedLaws.{found_there}
use Rattle.const_attrs.specs.Trees.{Attr, Attrs, IntegerAttr, FilledAttr, BytesAttr, AggregateAttr, SplatAttr, NoAttrs, ThenAttr, attr_tree, attr_trees, HasTypesBelow, HaveTypesBelow}
use Rattle.const_attrs.specs.Verified.{OneOfEach, elements_of, fields_in}
use Rattle.dialect_types.specs.Trees.{TypeTree, NamedType, type_at, types_at, type_trees, structs_of, fields_of, IsOnceNamed, IsDistinctAsTrees}

-- equal types have equal numbers, so the numbers tell
pub same_by : (ks : List TypeKind) → IsDistinctAsTrees ks → (a b : TypeHandle) → a.0 < length ks → b.0 < length ks → eqb a.0 b.0 ≡ same_tree (type_at (type_trees ks) a) (type_at (type_trees ks) b)
same_by ks distinct a b la lb = by (same_tree (type_at (type_trees ks) a) (type_at (type_trees ks) b)) refl (eqb a.0 b.0) refl
  where
    by : (x : Bool) → same_tree (type_at (type_trees ks) a) (type_at (type_trees ks) b) ≡ x → (y : Bool) → eqb a.0 b.0 ≡ y → y ≡ x
    by true e true f = refl
    by true e false f = sym f ∙ eq-eqb a.0 b.0 (distinct a b la lb (tree_told _ _ e))
    by false e true f = sym (sym e ∙ ap (λ (t : TypeTree). same_tree (type_at (type_trees ks) a) t) (sym (ap (λ (n : ℕ). type_at (type_trees ks) (record { 0 = n })) (eqb-true a.0 b.0 f))) ∙ tree_self (type_at (type_trees ks) a))
    by false e false f = refl

-- the elements of a struct with a name are the fields that its kind has
pub named_elements : (ks : List TypeKind) → IsOnceNamed ks → (t : ℕ) (k : TypeKind) (name : List ℕ) (body : Option StructFields) (tree : TypeTree) → slice_get ks t ≡ Some k → k ≡ Named name body → tree ≡ NamedType name
    → option_map (λ (b : StructFields). OneOfEach (types_at (type_trees ks) b.types)) body ≡ elements_of (structs_of ks) tree
named_elements ks once t k name body tree at is named =
    fields body ∙ sym (ap fields_in (found_there (type_trees ks) ks once t name body (at ∙ ap Some is))) ∙ sym (ap (elements_of (structs_of ks)) named)
  where
    fields : (b : Option StructFields) → option_map (λ (x : StructFields). OneOfEach (types_at (type_trees ks) x.types)) b ≡ fields_in (Some (record { name = name; body = option_map (fields_of (type_trees ks)) b }))
    fields None = refl
    fields (Some x) = refl

-- a store has each type once, so the trees of constants tell them apart
module _ (ks : List TypeKind) (distinct : IsDistinctAsTrees ks) where
  same_type : (a b : TypeHandle) → a.0 < length ks → b.0 < length ks → type_at (type_trees ks) a ≡ type_at (type_trees ks) b → a ≡ b
  same_type a b la lb e = ap (λ (n : ℕ). let t : TypeHandle = record { 0 = n } in t) (distinct a b la lb e)

  mutual
    pub same_attr : (c d : Attr TypeHandle) → HasTypesBelow (length ks) c → HasTypesBelow (length ks) d → attr_tree (type_trees ks) c ≡ attr_tree (type_trees ks) d → c ≡ d
    same_attr (IntegerAttr t n) (IntegerAttr u m) fc fd e = let a = same_type t u fc fd (cc) in let b : n ≡ m = cc in cc
    same_attr (FilledAttr f t) (FilledAttr g u) fc fd e = let a = same_type t u fc fd (cc) in let b : f ≡ g = cc in cc
    same_attr (BytesAttr xs) (BytesAttr ys) fc fd e = let b : xs ≡ ys = cc in cc
    same_attr (AggregateAttr cs t) (AggregateAttr ds u) fc fd e = let a = same_type t u fc.1 fd.1 (cc) in let b = same_attrs cs ds fc.0 fd.0 (cc) in cc
    same_attr (SplatAttr c t) (SplatAttr d u) fc fd e = let a = same_type t u fc.1 fd.1 (cc) in let b = same_attr c d fc.0 fd.0 (cc) in cc
    same_attr c d fc fd e = cc

    same_attrs : (cs ds : Attrs TypeHandle) → HaveTypesBelow (length ks) cs → HaveTypesBelow (length ks) ds → attr_trees (type_trees ks) cs ≡ attr_trees (type_trees ks) ds → cs ≡ ds
    same_attrs NoAttrs NoAttrs fc fd e = refl
    same_attrs (ThenAttr c cs) (ThenAttr d ds) fc fd e = let a = same_attr c d fc.0 fd.0 (cc) in let b = same_attrs cs ds fc.1 fd.1 (cc) in cc
    same_attrs cs ds fc fd e = cc

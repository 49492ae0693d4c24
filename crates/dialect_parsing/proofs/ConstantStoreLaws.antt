-- The data of constants in a store that grows, and of one constant more.
use Rattle.std.proofs.Common.{◌≡◌, ◌<◌, List, [], ◌∷◌, ◌++◌, length, refl, sym, subst, ap, ◌∙◌}
use Rattle.dialect_types.specs.declared.types.TypeHandle.{TypeHandle}
use Rattle.dialect_types.specs.declared.types.TypeKind.{TypeKind}
use Rattle.dialect_types.specs.Trees.{type_at, type_trees}
use Rattle.const_attrs.specs.declared.const_attr.ConstAttr.{ConstAttr}
use Rattle.const_attrs.specs.Trees.{Attr, Attrs, AttrTrees, NoAttrs, ThenAttr, attr_data, attrs_data, retyped, all_retyped, attr_tree, attr_trees, EachType, EachTypes, HasTypesBelow, HaveTypesBelow}
use Rattle.const_attrs.proofs.KeptLaws.{types_still, all_types_still, tree_same, trees_same}
use Rattle.dialect_parsing.specs.Spelling.{Grows}
use Rattle.dialect_parsing.proofs.StoreLaws.{grown_trees, grown_length}
use Rattle.dialect_parsing.proofs.ConstantListLaws.{then_last}

-- ---- a store that grows

module _ (old new : List TypeKind) (grown : Grows old new) where
  -- the types stay numbers of the store
  pub attr_below : (c : Attr TypeHandle) → HasTypesBelow (length old) c → HasTypesBelow (length new) c
  attr_below = types_still (length old) (length new) (grown_length old new grown)

  pub attrs_below : (cs : Attrs TypeHandle) → HaveTypesBelow (length old) cs → HaveTypesBelow (length new) cs
  attrs_below = all_types_still (length old) (length new) (grown_length old new grown)

  -- and constants keep their trees
  pub grown_attr : (c : Attr TypeHandle) → HasTypesBelow (length old) c → attr_tree (type_trees new) c ≡ attr_tree (type_trees old) c
  grown_attr = tree_same (type_trees old) (type_trees new) (length old) (grown_trees old new grown)

  pub grown_attrs : (cs : Attrs TypeHandle) → HaveTypesBelow (length old) cs → attr_trees (type_trees new) cs ≡ attr_trees (type_trees old) cs
  grown_attrs = trees_same (type_trees old) (type_trees new) (length old) (grown_trees old new grown)

-- ---- one constant more

pub data_push : (xs : List ConstAttr) (x : ConstAttr) → attrs_data (xs ++ x ∷ []) ≡ then_last (attrs_data xs) (attr_data x)
data_push [] x = refl
data_push (y ∷ ys) x = ap (ThenAttr (attr_data y)) (data_push ys x)

retyped_push : {T U : Type 0} (to : T → U) (cs : Attrs T) (c : Attr T) → all_retyped to (then_last cs c) ≡ then_last (all_retyped to cs) (retyped to c)
retyped_push to NoAttrs c = refl
retyped_push to (ThenAttr d ds) c = ap (ThenAttr (retyped to d)) (retyped_push to ds c)

each_push : {T : Type 0} (P : T → Type 0) (cs : Attrs T) (c : Attr T) → EachTypes P cs → EachType P c → EachTypes P (then_last cs c)
each_push P NoAttrs c h k = (k, tt)
each_push P (ThenAttr d ds) c h k = (h.0, each_push P ds c h.1 k)

-- ---- some constants, and one more in a store that grew

module _ (old new : List TypeKind) (grown : Grows old new) (found all : List ConstAttr) (x : ConstAttr) (is : all ≡ found ++ x ∷ []) (below : HaveTypesBelow (length old) (attrs_data found)) where
  pub pushed_trees : attr_trees (type_trees new) (attrs_data all) ≡ then_last (attr_trees (type_trees old) (attrs_data found)) (attr_tree (type_trees new) (attr_data x))
  pushed_trees =
      let to = type_at (type_trees new) in
      ap (λ (cs : List ConstAttr). all_retyped to (attrs_data cs)) is
      ∙ ap (all_retyped to) (data_push found x)
      ∙ retyped_push to (attrs_data found) (attr_data x)
      ∙ ap (λ (cs : AttrTrees). then_last cs (attr_tree (type_trees new) (attr_data x))) (grown_attrs old new grown (attrs_data found) below)

  pub pushed_below : HasTypesBelow (length new) (attr_data x) → HaveTypesBelow (length new) (attrs_data all)
  pushed_below within =
      let same : attrs_data all ≡ then_last (attrs_data found) (attr_data x) = ap attrs_data is ∙ data_push found x in
      subst (HaveTypesBelow (length new)) (sym same) (each_push (λ (t : TypeHandle). t.0 < length new) (attrs_data found) (attr_data x) (attrs_below old new grown (attrs_data found) below) within)

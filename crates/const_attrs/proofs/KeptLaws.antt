-- What stays of a constant where there are more types, and which are integers by their trees.
use Rattle.std.proofs.Common.{◌≡◌, ◌<◌, ◌≤◌, ℕ, List, refl, ap, arith}
use Rattle.dialect_types.specs.declared.types.TypeHandle.{TypeHandle}
use Rattle.dialect_types.specs.Trees.{TypeTree, type_at}
use Rattle.const_attrs.specs.Trees.{Attr, Attrs, IntegerAttr, FilledAttr, BytesAttr, AggregateAttr, SplatAttr, NoAttrs, ThenAttr, attr_tree, attr_trees, HasTypesBelow, HaveTypesBelow}

-- its types are there still
mutual
  pub types_still : (n m : ℕ) → n ≤ m → (c : Attr TypeHandle) → HasTypesBelow n c → HasTypesBelow m c
  types_still n m more (IntegerAttr t value) h = omega arith
  types_still n m more (FilledAttr fill t) h = omega arith
  types_still n m more (BytesAttr bytes) h = tt
  types_still n m more (AggregateAttr cs t) h = (all_types_still n m more cs h.0, let l = h.1 in omega arith)
  types_still n m more (SplatAttr c t) h = (types_still n m more c h.0, let l = h.1 in omega arith)

  pub all_types_still : (n m : ℕ) → n ≤ m → (cs : Attrs TypeHandle) → HaveTypesBelow n cs → HaveTypesBelow m cs
  all_types_still n m more NoAttrs h = tt
  all_types_still n m more (ThenAttr c cs) h = (types_still n m more c h.0, all_types_still n m more cs h.1)

-- its tree is the same where the trees of its types are
module _ (ts us : List TypeTree) (n : ℕ) (same : (t : TypeHandle) → t.0 < n → type_at us t ≡ type_at ts t) where
  mutual
    pub tree_same : (c : Attr TypeHandle) → HasTypesBelow n c → attr_tree us c ≡ attr_tree ts c
    tree_same (IntegerAttr t value) h = let a = same t h in cc
    tree_same (FilledAttr fill t) h = let a = same t h in cc
    tree_same (BytesAttr bytes) h = refl
    tree_same (AggregateAttr cs t) h = let a = same t h.1 in let b = trees_same cs h.0 in cc
    tree_same (SplatAttr c t) h = let a = same t h.1 in let b = tree_same c h.0 in cc

    pub trees_same : (cs : Attrs TypeHandle) → HaveTypesBelow n cs → attr_trees us cs ≡ attr_trees ts cs
    trees_same NoAttrs h = refl
    trees_same (ThenAttr c cs) h = let a = tree_same c h.0 in let b = trees_same cs h.1 in cc

-- ---- integers

-- a constant whose tree is an integer's is one of that value, of a type of that tree
pub record IsIntegerOfTree (ts : List TypeTree) (c : Attr TypeHandle) (type : TypeTree) (value : ℕ) : Type 0 where
  pub number : TypeHandle
  pub is : c ≡ IntegerAttr number value
  pub typed : type_at ts number ≡ type

pub integer_tree : (ts : List TypeTree) (c : Attr TypeHandle) (type : TypeTree) (value : ℕ) → attr_tree ts c ≡ IntegerAttr type value → IsIntegerOfTree ts c type value
integer_tree ts (IntegerAttr t n) type value e = let v : n ≡ value = cc in record { number = t; is = ap (λ (x : ℕ). let a : Attr TypeHandle = IntegerAttr t x in a) v; typed = cc }
integer_tree ts (FilledAttr fill t) type value e = cc
integer_tree ts (BytesAttr bytes) type value e = cc
integer_tree ts (AggregateAttr cs t) type value e = cc
integer_tree ts (SplatAttr c t) type value e = cc

-- A constant as data, over what stands for a type in it: the number of a store, or a tree.
use Rattle.std.specs.Prelude.{ℕ, ◌+◌, ◌<◌, max, List, [], ◌∷◌, length, map}
use Rattle.kinds.specs.declared.fill.Fill.{Fill}
use Rattle.kinds.specs.declared.fill.Fill.TheVariants as F
use Rattle.dialect_types.specs.declared.types.TypeHandle.{TypeHandle}
use Rattle.dialect_types.specs.Trees.{TypeTree, IntType, ArrayType, type_at}
use Rattle.const_attrs.specs.declared.const_attr.ConstAttr.{ConstAttr}
use Rattle.const_attrs.specs.declared.const_attr.ConstAttr.TheOpen.{ConstAttr-F}
use Rattle.const_attrs.specs.declared.const_attr.ConstAttr.TheFolds.{fold-ConstAttr}

-- a constant, a line for each kind
mutual
  pub data Attr (T : Type 0) : Type 0 where
    IntegerAttr : (type : T) (value : ℕ) → Attr T
    -- zero, undef or poison of a type
    FilledAttr : (fill : Fill) (type : T) → Attr T
    -- an array of i8
    BytesAttr : (bytes : List ℕ) → Attr T
    AggregateAttr : (elements : Attrs T) (type : T) → Attr T
    -- a vector of equal elements
    SplatAttr : (element : Attr T) (type : T) → Attr T

  pub data Attrs (T : Type 0) : Type 0 where
    NoAttrs : Attrs T
    ThenAttr : Attr T → Attrs T → Attrs T

abbrev pub attrs_of : {T : Type 0} → List (Attr T) → Attrs T
attrs_of [] = NoAttrs
attrs_of (c ∷ cs) = ThenAttr c (attrs_of cs)

abbrev pub AttrTree : Type 0
AttrTree = Attr TypeTree

abbrev pub AttrTrees : Type 0
AttrTrees = Attrs TypeTree

-- ---- the data of an attribute

-- one level, whose elements are data already
abbrev pub level : ConstAttr-F (Attr TypeHandle) → Attr TypeHandle
level (ConstAttr-F.Integer t value) = IntegerAttr t value
level (ConstAttr-F.Zero t) = FilledAttr F.Zero t
level (ConstAttr-F.Undef t) = FilledAttr F.Undef t
level (ConstAttr-F.Poison t) = FilledAttr F.Poison t
level (ConstAttr-F.Bytes bytes) = BytesAttr bytes.items
level (ConstAttr-F.Aggregate elements t) = AggregateAttr (attrs_of elements.items) t
level (ConstAttr-F.Splat element t) = SplatAttr element.value t

abbrev pub attr_data : ConstAttr → Attr TypeHandle
attr_data = fold-ConstAttr (Attr TypeHandle) level

abbrev pub attrs_data : List ConstAttr → Attrs TypeHandle
attrs_data cs = attrs_of (map attr_data cs)

-- ---- types

-- each type in a constant, as something else
module _ {T U : Type 0} (to : T → U) where
  abbrev mutual
    pub retyped : Attr T → Attr U
    retyped (IntegerAttr t value) = IntegerAttr (to t) value
    retyped (FilledAttr fill t) = FilledAttr fill (to t)
    retyped (BytesAttr bytes) = BytesAttr bytes
    retyped (AggregateAttr cs t) = AggregateAttr (all_retyped cs) (to t)
    retyped (SplatAttr c t) = SplatAttr (retyped c) (to t)

    pub all_retyped : Attrs T → Attrs U
    all_retyped NoAttrs = NoAttrs
    all_retyped (ThenAttr c cs) = ThenAttr (retyped c) (all_retyped cs)

-- the tree of a constant, where the trees of the types are ts
abbrev pub attr_tree : List TypeTree → Attr TypeHandle → AttrTree
attr_tree ts c = retyped (type_at ts) c

abbrev pub attr_trees : List TypeTree → Attrs TypeHandle → AttrTrees
attr_trees ts cs = all_retyped (type_at ts) cs

-- it holds of each type in a constant
module _ {T : Type 0} (P : T → Type 0) where
  abbrev mutual
    pub EachType : Attr T → Type 0
    EachType (IntegerAttr t value) = P t
    EachType (FilledAttr fill t) = P t
    EachType (BytesAttr bytes) = Unit {0}
    EachType (AggregateAttr cs t) = EachTypes cs × P t
    EachType (SplatAttr c t) = EachType c × P t

    pub EachTypes : Attrs T → Type 0
    EachTypes NoAttrs = Unit {0}
    EachTypes (ThenAttr c cs) = EachType c × EachTypes cs

-- the types are numbers below n
abbrev pub HasTypesBelow : ℕ → Attr TypeHandle → Type 0
HasTypesBelow n c = EachType (λ (t : TypeHandle). t.0 < n) c

abbrev pub HaveTypesBelow : ℕ → Attrs TypeHandle → Type 0
HaveTypesBelow n cs = EachTypes (λ (t : TypeHandle). t.0 < n) cs

-- the type of a constant
abbrev pub type_of : AttrTree → TypeTree
type_of (IntegerAttr t value) = t
type_of (FilledAttr fill t) = t
type_of (BytesAttr bytes) = ArrayType (length bytes) (IntType 8)
type_of (AggregateAttr cs t) = t
type_of (SplatAttr c t) = t

-- how deep it nests, its innermost part counted
abbrev mutual
  pub attr_depth : {T : Type 0} → Attr T → ℕ
  attr_depth (IntegerAttr t value) = 1
  attr_depth (FilledAttr fill t) = 1
  attr_depth (BytesAttr bytes) = 1
  attr_depth (AggregateAttr cs t) = 1 + attrs_depth cs
  attr_depth (SplatAttr c t) = 1 + attr_depth c

  pub attrs_depth : {T : Type 0} → Attrs T → ℕ
  attrs_depth NoAttrs = 0
  attrs_depth (ThenAttr c cs) = max (attr_depth c) (attrs_depth cs)

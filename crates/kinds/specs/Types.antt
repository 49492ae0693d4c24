-- Types as trees, the same for both sides.
use Rattle.std.specs.Prelude.{ℕ, ◌+◌, max, Bool, true, false, ◌&&◌, nat_eq, List, [], ◌∷◌}
use Rattle.std.specs.Str.{bytes_eq}
use Rattle.kinds.specs.declared.fitting.Shape.{Shape}
use Rattle.kinds.specs.declared.fitting.Shape.TheVariants as S
use Rattle.kinds.specs.declared.fitting.Laned.{Laned}
use Rattle.kinds.specs.declared.types.Lanes.{Lanes}
use Rattle.kinds.specs.declared.types.Lanes.TheVariants as N
use Rattle.kinds.specs.declared.types.Floating.{Floating}
use Rattle.kinds.specs.declared.types.Floating.TheVariants as F
use Rattle.kinds.specs.declared.types.OtherType.{OtherType}
use Rattle.kinds.specs.declared.types.OtherType.TheVariants as O
use Rattle.kinds.specs.declared.types.VectorTypeKind.{VectorTypeKind}
use Rattle.kinds.specs.declared.types.VectorTypeKind.TheVariants as V
use Rattle.kinds.specs.declared.types.StructLayout.{StructLayout}
use Rattle.kinds.specs.declared.types.StructLayout.TheVariants as L

mutual
  -- a type, a line for each kind
  pub data TypeTree : Type 0 where
    VoidType : TypeTree
    IntType : (width : ℕ) → TypeTree
    -- of an address space
    PointerType : (space : ℕ) → TypeTree
    FloatingType : (of : Floating) → TypeTree
    -- for which the dialect has none
    RefusedType : (of : OtherType) → TypeTree
    ArrayType : (count : ℕ) (element : TypeTree) → TypeTree
    VectorType : (kind : VectorTypeKind) (count : ℕ) (element : TypeTree) → TypeTree
    StructType : (layout : StructLayout) (fields : TypeTrees) → TypeTree
    -- an identified struct: its fields stand beside the types that name it (Structs.antt)
    NamedType : (name : List ℕ) → TypeTree
    FunctionType : (result : TypeTree) (params : TypeTrees) (variadic : Bool) → TypeTree

  pub data TypeTrees : Type 0 where
    NoTypes : TypeTrees
    ThenType : TypeTree → TypeTrees → TypeTrees

-- what rules look at, a line for each kind
abbrev pub shape : TypeTree → Shape
shape VoidType = S.Void
shape (IntType w) = S.Int w
shape (PointerType space) = S.Pointer space
shape (FloatingType of) = S.Other
shape (RefusedType of) = S.Refused of
shape (ArrayType count t) = S.Made
shape (VectorType kind count t) = S.Made
shape (StructType layout ts) = S.Made
shape (NamedType name) = S.Named
shape (FunctionType result params variadic) = S.Function

-- one lane of a shape, and as many as a vector has
abbrev pub one : Shape → Laned
one s = record { lanes = N.One; lane = s }

abbrev pub many : VectorTypeKind → ℕ → Shape → Laned
many kind count s = record { lanes = N.Many kind count; lane = s }

-- the lanes of a type: those of a vector are its elements, any other type is one
abbrev pub laned : TypeTree → Laned
laned (VectorType kind count t) = many kind count (shape t)
laned t = one (shape t)

-- so many lanes of a type
abbrev pub in_lanes : Lanes → TypeTree → TypeTree
in_lanes N.One t = t
in_lanes (N.Many kind count) t = VectorType kind count t

-- i1, in as many lanes as a type has
abbrev pub bits_of : TypeTree → TypeTree
bits_of t = in_lanes (laned t).lanes (IntType 1)

abbrev pub same_bool : Bool → Bool → Bool
same_bool true b = b
same_bool false true = false
same_bool false false = true

abbrev pub same_floating : Floating → Floating → Bool
same_floating F.Half F.Half = true
same_floating F.BFloat F.BFloat = true
same_floating F.Float F.Float = true
same_floating F.Double F.Double = true
same_floating _ _ = false

abbrev pub same_other : OtherType → OtherType → Bool
same_other O.X86Fp80 O.X86Fp80 = true
same_other O.Fp128 O.Fp128 = true
same_other O.PpcFp128 O.PpcFp128 = true
same_other O.X86Amx O.X86Amx = true
same_other O.Token O.Token = true
same_other _ _ = false

abbrev pub same_kind : VectorTypeKind → VectorTypeKind → Bool
same_kind V.Fixed V.Fixed = true
same_kind V.Scalable V.Scalable = true
same_kind _ _ = false

abbrev pub same_layout : StructLayout → StructLayout → Bool
same_layout L.Unpacked L.Unpacked = true
same_layout L.Packed L.Packed = true
same_layout _ _ = false

-- whether two types are one, a line for each kind
abbrev mutual
  pub same_tree : TypeTree → TypeTree → Bool
  same_tree VoidType VoidType = true
  same_tree (IntType w) (IntType v) = nat_eq w v
  same_tree (PointerType s) (PointerType t) = nat_eq s t
  same_tree (FloatingType a) (FloatingType b) = same_floating a b
  same_tree (RefusedType a) (RefusedType b) = same_other a b
  same_tree (ArrayType n t) (ArrayType m u) = nat_eq n m && same_tree t u
  same_tree (VectorType k n t) (VectorType l m u) = same_kind k l && nat_eq n m && same_tree t u
  same_tree (StructType l ts) (StructType k us) = same_layout l k && same_trees ts us
  same_tree (NamedType a) (NamedType b) = bytes_eq a b
  same_tree (FunctionType r ps v) (FunctionType s qs w) = same_tree r s && same_trees ps qs && same_bool v w
  same_tree _ _ = false

  pub same_trees : TypeTrees → TypeTrees → Bool
  same_trees NoTypes NoTypes = true
  same_trees (ThenType t ts) (ThenType u us) = same_tree t u && same_trees ts us
  same_trees _ _ = false

-- ---- parts of a type

abbrev pub types_list : TypeTrees → List TypeTree
types_list NoTypes = []
types_list (ThenType t ts) = t ∷ types_list ts

abbrev pub count_types : TypeTrees → ℕ
count_types NoTypes = 0
count_types (ThenType t ts) = 1 + count_types ts

-- what a function of that type returns; void where it is the type of no function
abbrev pub result_of : TypeTree → TypeTree
result_of VoidType = VoidType
result_of (IntType w) = VoidType
result_of (PointerType space) = VoidType
result_of (FloatingType of) = VoidType
result_of (RefusedType of) = VoidType
result_of (ArrayType count t) = VoidType
result_of (VectorType kind count t) = VoidType
result_of (StructType layout ts) = VoidType
result_of (NamedType name) = VoidType
result_of (FunctionType result params variadic) = result

-- what a function of that type takes
abbrev pub takes_of : TypeTree → TypeTrees
takes_of VoidType = NoTypes
takes_of (IntType w) = NoTypes
takes_of (PointerType space) = NoTypes
takes_of (FloatingType of) = NoTypes
takes_of (RefusedType of) = NoTypes
takes_of (ArrayType count t) = NoTypes
takes_of (VectorType kind count t) = NoTypes
takes_of (StructType layout ts) = NoTypes
takes_of (NamedType name) = NoTypes
takes_of (FunctionType result params variadic) = params

abbrev pub params_of : TypeTree → List TypeTree
params_of t = types_list (takes_of t)

-- ---- parts

-- the types that a type is made of
abbrev pub parts_of : TypeTree → List TypeTree
parts_of (ArrayType count t) = t ∷ []
parts_of (VectorType kind count t) = t ∷ []
parts_of (StructType layout ts) = types_list ts
parts_of (FunctionType result params variadic) = result ∷ types_list params
parts_of _ = []

abbrev mutual
  -- how deep a type nests, its innermost part counted; an identified struct is one, whatever is in it
  pub depth : TypeTree → ℕ
  depth (ArrayType count t) = 1 + depth t
  depth (VectorType kind count t) = 1 + depth t
  depth (StructType layout ts) = 1 + depths ts
  depth (FunctionType result params variadic) = 1 + max (depth result) (depths params)
  depth _ = 1

  -- the depth of the deepest
  pub depths : TypeTrees → ℕ
  depths NoTypes = 0
  depths (ThenType t ts) = max (depth t) (depths ts)

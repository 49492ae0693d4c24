-- Which rule of constants is broken first, on a walk from the outside in.
use Rattle.std.specs.Prelude.{ℕ, ◌+◌, ◌^◌, List, nat_eq, nat_le, nat_lt, Bool, true, false, ◌&&◌, Option, Some, None, Result, Ok, Err}
use Rattle.std.specs.Option.{option_map, option_and_then, option_or}
use Rattle.kinds.specs.declared.types.VectorTypeKind.TheVariants as V
use Rattle.kinds.specs.Types.{same_tree, count_types}
use Rattle.kinds.specs.Structs.{struct_in}
use Rattle.dialect_types.specs.Trees.{NamedStruct, StructBody, TypeTree, VoidType, IntType, PointerType, FloatingType, RefusedType, ArrayType, VectorType, StructType, NamedType, FunctionType, TypeTrees, NoTypes, ThenType}
use Rattle.const_attrs.specs.declared.attr_err.AttrErr.{AttrErr}
use Rattle.const_attrs.specs.declared.attr_err.AttrErr.TheVariants as E
use Rattle.const_attrs.specs.Trees.{AttrTree, AttrTrees, IntegerAttr, FilledAttr, BytesAttr, AggregateAttr, SplatAttr, NoAttrs, ThenAttr, type_of}

-- what the elements of a type are: so many of one type, or one of each of some types
pub data Elements : Type 0 where
  OfOne : (count : ℕ) (type : TypeTree) → Elements
  OneOfEach : TypeTrees → Elements

-- the elements of a struct with a name are its fields, where it is not opaque
abbrev pub fields_in : Option NamedStruct → Option Elements
fields_in s = option_and_then (λ (x : NamedStruct). option_map (λ (b : StructBody). OneOfEach b.fields) x.body) s

-- the elements of a type that has a count: an array, a vector that is not scalable, a struct that is not opaque
abbrev pub elements_of : List NamedStruct → TypeTree → Option Elements
elements_of structs VoidType = None
elements_of structs (IntType w) = None
elements_of structs (PointerType space) = None
elements_of structs (FloatingType of) = None
elements_of structs (RefusedType of) = None
elements_of structs (ArrayType count t) = Some (OfOne count t)
elements_of structs (VectorType V.Fixed count t) = Some (OfOne count t)
elements_of structs (VectorType V.Scalable count t) = None
elements_of structs (StructType layout ts) = Some (OneOfEach ts)
elements_of structs (NamedType name) = fields_in (struct_in structs name)
elements_of structs (FunctionType result params variadic) = None

-- what each element of a vector is; none where the type is no vector
abbrev pub lane_of : TypeTree → Option TypeTree
lane_of (VectorType kind count t) = Some t
lane_of _ = None

abbrev pub count_attrs : AttrTrees → ℕ
count_attrs NoAttrs = 0
count_attrs (ThenAttr c cs) = 1 + count_attrs cs

-- its type is that one
abbrev pub has_type : AttrTree → TypeTree → Bool
has_type c t = same_tree (type_of c) t

-- all have that one type
abbrev pub all_have : AttrTrees → TypeTree → Bool
all_have NoAttrs t = true
all_have (ThenAttr c cs) t = has_type c t && all_have cs t

-- there are as many as the types, and each has the one at its place
abbrev pub each_has : AttrTrees → TypeTrees → Bool
each_has NoAttrs NoTypes = true
each_has NoAttrs (ThenType t ts) = false
each_has (ThenAttr c cs) NoTypes = false
each_has (ThenAttr c cs) (ThenType t ts) = has_type c t && each_has cs ts

-- there are as many of them as the type has elements
abbrev pub are_as_many : AttrTrees → Elements → Bool
are_as_many cs (OfOne count t) = nat_eq (count_attrs cs) count
are_as_many cs (OneOfEach ts) = nat_eq (count_attrs cs) (count_types ts)

-- each has the type of the element of the type at its place
abbrev pub have_types : AttrTrees → Elements → Bool
have_types cs (OfOne count t) = all_have cs t
have_types cs (OneOfEach ts) = each_has cs ts

-- an integer of the type: one of an integer type of at most 64 bits, below 2^width
abbrev pub is_in_range : TypeTree → ℕ → Bool
is_in_range (IntType w) n = nat_le w 64 && nat_lt n (2 ^ w)
is_in_range _ n = false

abbrev pub unless : Bool → AttrErr → Option AttrErr
unless true e = None
unless false e = Some e

-- how some elements break the rules of an aggregate: first its count, then their types
abbrev pub misfit : AttrTrees → Option Elements → Option AttrErr
misfit cs None = Some E.ElementCount
misfit cs (Some es) = option_or (unless (are_as_many cs es) E.ElementCount) (unless (have_types cs es) E.ElementType)

-- how an element breaks the rules of a splat: its type is to be a vector, of such elements
abbrev pub splat_misfit : AttrTree → Option TypeTree → Option AttrErr
splat_misfit c None = Some E.ElementCount
splat_misfit c (Some t) = unless (has_type c t) E.ElementType

module _ (structs : List NamedStruct) where
  abbrev mutual
    -- the first rule that a constant breaks: its own, and then those that its elements break, in their order
    pub broken : AttrTree → Option AttrErr
    broken (IntegerAttr t value) = unless (is_in_range t value) E.IntRange
    broken (FilledAttr fill t) = None
    broken (BytesAttr bytes) = None
    broken (AggregateAttr cs t) = option_or (misfit cs (elements_of structs t)) (broken_in cs)
    broken (SplatAttr c t) = option_or (splat_misfit c (lane_of t)) (broken c)

    pub broken_in : AttrTrees → Option AttrErr
    broken_in NoAttrs = None
    broken_in (ThenAttr c cs) = option_or (broken c) (broken_in cs)

-- the fault of an answer
abbrev pub fault_of : Result (Unit {0}) AttrErr → Option AttrErr
fault_of (Ok u) = None
fault_of (Err e) = Some e

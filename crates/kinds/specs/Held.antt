-- What types stand where: those of values, those that are translated, those of functions.
use Rattle.std.specs.Prelude.{◌≡◌, ◌≤◌, ℕ, Bool, true, false, ◌&&◌, ◌||◌, nat_lt, if◌then◌else◌, Option, Some, None, All}
use Rattle.std.specs.Option.{option_or}
use Rattle.kinds.specs.declared.types.OtherType.{OtherType}
use Rattle.kinds.specs.declared.fitting.Shape.{Shape}
use Rattle.kinds.specs.Types.{TypeTree, TypeTrees, NoTypes, ThenType, RefusedType, ArrayType, VectorType, StructType, FunctionType, shape, types_list, depth}
use Rattle.kinds.specs.Fitting.{is_nothing, is_first_class, is_held, is_field, is_array_of, is_vector_of, width_of}

-- ---- no value

abbrev pub is_void : TypeTree → Bool
is_void t = is_nothing (shape t)

-- the type of what has a value, None where it has none
abbrev pub own_type : TypeTree → Option TypeTree
own_type t = if is_void t then None else Some t

-- the width of an integer type, of another type 0
abbrev pub width_in : TypeTree → ℕ
width_in t = width_of (shape t)

-- ---- depth

-- So deep a type may nest. The word is closed, so that no proof meets the number.
unfoldable pub deepest : ℕ
deepest = 1000

-- no type may nest so deep
unfoldable pub too_deep : (depth : ℕ) → Bool
too_deep n = nat_lt deepest n

-- a type nests no deeper than is allowed
abbrev pub IsShallow : TypeTree → Type 0
IsShallow t = too_deep (depth t) ≡ false

-- ---- values

abbrev mutual
  -- the type is made of what may stand there, all the way in, and the innermost parts pass the test: a line for each kind with parts
  pub throughout : (Shape → Bool) → TypeTree → Bool
  throughout p (ArrayType count t) = is_array_of count (shape t) && throughout p t
  throughout p (VectorType kind count t) = is_vector_of count (shape t) && throughout p t
  throughout p (StructType layout ts) = each_throughout p ts
  throughout p t = p (shape t)

  -- of each field
  pub each_throughout : (Shape → Bool) → TypeTrees → Bool
  each_throughout p NoTypes = true
  each_throughout p (ThenType t ts) = (is_field (shape t) && throughout p t) && each_throughout p ts

-- A type of a value (Language Reference, First Class Types), of a width that there is, that nests no deeper than is allowed.
-- These words are closed, so that what is said of them by laws holds of each type that comes later.
unfoldable pub IsFirstClass : TypeTree → Type 0
IsFirstClass t = (throughout is_first_class t ≡ true) × IsShallow t

-- what a function may return: nothing, or a value
unfoldable pub IsReturned : TypeTree → Type 0
IsReturned t = ((is_void t || throughout is_first_class t) ≡ true) × IsShallow t

-- a type of a value that is translated: each for which the dialect has one
unfoldable pub IsHeld : TypeTree → Type 0
IsHeld t = (throughout is_held t ≡ true) × IsShallow t

-- what a function may return that is translated
unfoldable pub IsHeldResult : TypeTree → Type 0
IsHeldResult t = ((is_void t || throughout is_held t) ≡ true) × IsShallow t

-- ---- types for which the dialect has none

abbrev mutual
  -- the first of these types that a type is or is made of, not looking into structs with a name: a line for each kind with parts
  pub refused_of : TypeTree → Option OtherType
  refused_of (RefusedType of) = Some of
  refused_of (ArrayType count t) = refused_of t
  refused_of (VectorType kind count t) = refused_of t
  refused_of (StructType layout ts) = refused_in ts
  refused_of _ = None

  pub refused_in : TypeTrees → Option OtherType
  refused_in NoTypes = None
  refused_in (ThenType t ts) = option_or (refused_of t) (refused_in ts)

-- the width of an integer constant that is translated
abbrev pub IsShortWidth : ℕ → Type 0
IsShortWidth w = (1 ≤ w) × (w ≤ 64)

-- ---- functions

-- the type of a function: void stands only as its result, and a function type in no other type
pub record IsSignature (t : TypeTree) : Type 0 where
  pub result : TypeTree
  pub params : TypeTrees
  pub variadic : Bool
  pub is : t ≡ FunctionType result params variadic
  pub returns : IsReturned result
  pub takes : All IsFirstClass (types_list params)
  pub shallow : IsShallow t

-- the type of a function that is translated: it is not variadic
pub record IsHeldSignature (t : TypeTree) : Type 0 where
  pub result : TypeTree
  pub params : TypeTrees
  pub is : t ≡ FunctionType result params false
  pub returns : IsHeldResult result
  pub takes : All IsHeld (types_list params)
  pub shallow : IsShallow t

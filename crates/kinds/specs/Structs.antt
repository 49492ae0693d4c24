-- Identified structs: what stands in them, beside the types that name them (Language Reference, Structure Type).
use Rattle.std.specs.Prelude.{◌≡◌, ℕ, zero, suc, Bool, true, false, ◌&&◌, List, Option, Some, slice_get}
use Rattle.std.specs.Option.{option_map, option_map_or}
use Rattle.std.specs.List.{find}
use Rattle.std.specs.Str.{bytes_eq}
use Rattle.kinds.specs.declared.types.StructLayout.{StructLayout}
use Rattle.kinds.specs.Types.{TypeTree, VoidType, IntType, PointerType, FloatingType, RefusedType, ArrayType, VectorType, StructType, NamedType, FunctionType, TypeTrees, NoTypes, ThenType, types_list, parts_of}
use Rattle.kinds.specs.Held.{deepest, each_throughout}
use Rattle.kinds.specs.Fitting.{is_first_class}
use Rattle.kinds.specs.Names.{is_good_name}

-- the fields of a struct, and how they lie
pub record StructBody : Type 0 where
  pub fields : TypeTrees
  pub layout : StructLayout

-- a struct with its name; one without a body is opaque
pub record Struct : Type 0 where
  pub name : List ℕ
  pub body : Option StructBody

-- the struct of that name, the first one where there are more
abbrev pub struct_in : List Struct → List ℕ → Option Struct
struct_in structs name = find (λ (s : Struct). bytes_eq s.name name) structs

-- ---- depth

-- each type passes the test
abbrev pub each_type : (TypeTree → Bool) → TypeTrees → Bool
each_type p NoTypes = true
each_type p (ThenType t ts) = p t && each_type p ts

-- each field of a struct does; an opaque one has none
abbrev pub each_field : (TypeTree → Bool) → Struct → Bool
each_field p s = option_map_or (λ (b : StructBody). each_type p b.fields) s.body true

module _ (structs : List Struct) where
  -- A type nests at most so deep, its innermost part counted, through the fields of the structs that it names; and each of
  -- these is there. So a struct that is in itself nests in no depth. A line for each kind with parts.
  abbrev pub nests : (depth : ℕ) → TypeTree → Bool
  nests zero t = false
  nests (suc n) (ArrayType count t) = nests n t
  nests (suc n) (VectorType kind count t) = nests n t
  nests (suc n) (StructType layout ts) = each_type (nests n) ts
  nests (suc n) (NamedType name) = option_map_or (each_field (nests n)) (struct_in structs name) false
  nests (suc n) (FunctionType result params variadic) = nests n result && each_type (nests n) params
  nests (suc n) t = true

  -- no deeper than is allowed
  abbrev pub IsNested : TypeTree → Type 0
  IsNested t = nests deepest t ≡ true

-- ---- other names

module _ (to : List ℕ → List ℕ) where
  abbrev mutual
    -- the type with each struct that it names under another name: a line for each kind
    pub renamed : TypeTree → TypeTree
    renamed VoidType = VoidType
    renamed (IntType w) = IntType w
    renamed (PointerType space) = PointerType space
    renamed (FloatingType of) = FloatingType of
    renamed (RefusedType of) = RefusedType of
    renamed (ArrayType count t) = ArrayType count (renamed t)
    renamed (VectorType kind count t) = VectorType kind count (renamed t)
    renamed (StructType layout ts) = StructType layout (renamed_all ts)
    renamed (NamedType name) = NamedType (to name)
    renamed (FunctionType result params variadic) = FunctionType (renamed result) (renamed_all params) variadic

    pub renamed_all : TypeTrees → TypeTrees
    renamed_all NoTypes = NoTypes
    renamed_all (ThenType t ts) = ThenType (renamed t) (renamed_all ts)

  abbrev pub renamed_body : StructBody → StructBody
  renamed_body b = record b { fields = renamed_all b.fields }

  -- a struct under its other name, its fields too
  abbrev pub renamed_struct : Struct → Struct
  renamed_struct s = record { name = to s.name; body = option_map renamed_body s.body }

-- ---- what a type holds

-- a type, what it is made of, and what stands in the structs that it names, all the way in
pub data Holds (structs : List Struct) (u : TypeTree) : TypeTree → Type 0 where
  Itself : Holds structs u u
  InPart : (t v : TypeTree) → (i : ℕ) → slice_get (parts_of t) i ≡ Some v → Holds structs u v → Holds structs u t
  InField : (name : List ℕ) (s : Struct) (b : StructBody) (v : TypeTree) → (i : ℕ)
      → struct_in structs name ≡ Some s → s.body ≡ Some b → slice_get (types_list b.fields) i ≡ Some v → Holds structs u v → Holds structs u (NamedType name)

-- ---- structs of the form

-- a name that a text can say, and fields of types of values
pub record IsFormStruct (s : Struct) : Type 0 where
  pub name : is_good_name s.name ≡ true
  pub fields : option_map_or (λ (b : StructBody). each_throughout is_first_class b.fields) s.body true ≡ true

-- A constant with another element at one place.
use Rattle.std.specs.Prelude.{ℕ, zero, suc, if◌then◌else◌, nat_lt, List, [], ◌∷◌, Option, Some, None}
use Rattle.std.specs.Option.{option_map, option_and_then}
use Rattle.std.specs.List.{find}
use Rattle.std.specs.Str.{bytes_eq}
use Rattle.kinds.specs.declared.fill.Fill.{Fill}
use Rattle.kinds.specs.declared.types.VectorTypeKind.TheVariants as N
use Rattle.llvm_core.specs.Data.{TypeTree, VoidType, IntType, PointerType, FloatingType, RefusedType, ArrayType, VectorType, StructType, NamedType, FunctionType, TypeTrees, NoTypes, ThenType, StructBody, Struct, ConstTree, IntConst, FilledConst, BytesConst, ListConst, SplatConst, PlaceholderConst, ConstTrees, NoConsts, ThenConst, const_type, filled_const, listed}

-- an integer of 8 bits for each byte
abbrev pub ints_of : List ℕ → ConstTrees
ints_of [] = NoConsts
ints_of (b ∷ bytes) = ThenConst (IntConst 8 b) (ints_of bytes)

-- zero, undef or poison of a type, so many times
abbrev pub so_many : ℕ → Fill → TypeTree → ConstTrees
so_many zero fill t = NoConsts
so_many (suc n) fill t = ThenConst (filled_const fill t) (so_many n fill t)

-- that of each type
abbrev pub of_each : Fill → TypeTrees → ConstTrees
of_each fill NoTypes = NoConsts
of_each fill (ThenType t ts) = ThenConst (filled_const fill t) (of_each fill ts)

-- the types of the fields of the first struct of that name, where they are told
abbrev pub fields_in : List Struct → List ℕ → Option TypeTrees
fields_in structs name = option_and_then (λ (s : Struct). option_map (λ (b : StructBody). b.fields) s.body) (find (λ (s : Struct). bytes_eq s.name name) structs)

-- zero, undef or poison of a type by its elements, a line for each kind of type
abbrev pub opened_fill : List Struct → Fill → TypeTree → Option ConstTrees
opened_fill structs fill VoidType = None
opened_fill structs fill (IntType width) = None
opened_fill structs fill (PointerType space) = None
opened_fill structs fill (FloatingType of) = None
opened_fill structs fill (RefusedType of) = None
opened_fill structs fill (ArrayType count t) = Some (so_many count fill t)
opened_fill structs fill (VectorType N.Fixed count t) = Some (so_many count fill t)
opened_fill structs fill (VectorType N.Scalable count t) = None
opened_fill structs fill (StructType layout fields) = Some (of_each fill fields)
opened_fill structs fill (NamedType name) = option_map (of_each fill) (fields_in structs name)
opened_fill structs fill (FunctionType result params variadic) = None

-- a constant by its elements, where its type is an array, a vector of a known length or a struct whose fields are told
abbrev pub opened : List Struct → ConstTree → Option ConstTrees
opened structs (IntConst width value) = None
opened structs (FilledConst fill type) = opened_fill structs fill type
opened structs (BytesConst bytes) = Some (ints_of bytes)
opened structs (ListConst type elements) = Some elements
opened structs (SplatConst type element) = None
opened structs (PlaceholderConst number type) = None

-- how many there are
abbrev pub count : ConstTrees → ℕ
count NoConsts = 0
count (ThenConst c cs) = suc (count cs)

-- with x at that place
abbrev pub replaced : ConstTrees → (place : ℕ) → (x : ConstTree) → ConstTrees
replaced NoConsts place x = NoConsts
replaced (ThenConst c cs) zero x = ThenConst x cs
replaced (ThenConst c cs) (suc place) x = ThenConst c (replaced cs place x)

-- The constant c with x in place of its element there, in one form; none where it has no elements or no such place.
abbrev pub inserted : List Struct → (c : ConstTree) → (place : ℕ) → (x : ConstTree) → Option ConstTree
inserted structs c place x = option_and_then (λ (cs : ConstTrees). if nat_lt place (count cs) then Some (listed (const_type c) (replaced cs place x)) else None) (opened structs c)

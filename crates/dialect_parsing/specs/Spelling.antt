-- What a type is written as, and the texts that spell it.
use Rattle.std.specs.Prelude.{◌≡◌, ◌<◌, ◌≤◌, ◌^◌, true, List, [], ◌∷◌, ℕ, Some}
use Rattle.kinds.specs.declared.types.VectorTypeKind.{VectorTypeKind}
use Rattle.kinds.specs.declared.types.VectorTypeKind.TheVariants as V
use Rattle.kinds.specs.declared.types.StructLayout.{StructLayout}
use Rattle.kinds.specs.declared.types.StructLayout.TheVariants as L
use Rattle.kinds.specs.Types.{depth, shape}
use Rattle.kinds.specs.Fitting.{is_field, is_array_of, is_vector_of}
use Rattle.kinds.specs.Structs.{struct_in}
pub use Rattle.dialect_types.specs.Trees.{Grows}
use Rattle.dialect_types.specs.Trees.{NamedStruct, TypeTree, VoidType, IntType, PointerType, FloatingType, RefusedType, ArrayType, VectorType, StructType, NamedType, FunctionType, TypeTrees, NoTypes, ThenType}
use Rattle.dialect_parsing.specs.declared.symbol.Symbol.{Symbol}
use Rattle.dialect_parsing.specs.declared.symbol.Symbol.TheVariants as S
use Rattle.dialect_parsing.specs.Symbols.{symbols_of}
use Rattle.dialect_parsing.specs.Tokens.{Text}

-- the word of a vector that stands before how many elements it has
abbrev pub scaled : VectorTypeKind → List Symbol → List Symbol
scaled V.Fixed ss = ss
scaled V.Scalable ss = S.Vscale ∷ ss

-- the word of a struct that stands before its fields
abbrev pub laid : StructLayout → List Symbol → List Symbol
laid L.Unpacked ss = ss
laid L.Packed ss = S.Packed ∷ ss

abbrev mutual
  -- what a type is written as, before what stands behind it: a line for each kind
  pub written : TypeTree → List Symbol → List Symbol
  written VoidType ss = S.Void ∷ ss
  written (IntType w) ss = S.Integer ∷ S.Bits w ∷ ss
  written (PointerType space) ss = S.Pointer ∷ S.OpenParen ∷ S.Number space ∷ S.CloseParen ∷ ss
  written (FloatingType of) ss = S.Floating of ∷ ss
  -- no type of the dialect
  written (RefusedType of) ss = ss
  written (ArrayType count t) ss = S.Array ∷ S.OpenBracket ∷ S.Number count ∷ S.Times ∷ written t (S.CloseBracket ∷ ss)
  written (VectorType kind count t) ss = S.Vector ∷ S.OpenBracket ∷ scaled kind (S.Number count ∷ S.Times ∷ written t (S.CloseBracket ∷ ss))
  written (StructType layout fields) ss = S.Struct ∷ S.Less ∷ laid layout (S.OpenBrace ∷ listed fields (S.CloseBrace ∷ S.Greater ∷ ss))
  written (NamedType name) ss = S.Struct ∷ S.Less ∷ S.Name name ∷ S.Greater ∷ ss
  written (FunctionType result params variadic) ss =
      S.Func ∷ S.Less ∷ written result (S.OpenParen ∷ listed params (S.CloseParen ∷ S.Variadic ∷ S.Equals ∷ S.Truth variadic ∷ S.Greater ∷ ss))

  -- types with commas between them
  pub listed : TypeTrees → List Symbol → List Symbol
  listed NoTypes ss = ss
  listed (ThenType t ts) ss = written t (others ts ss)

  -- each type behind a comma
  pub others : TypeTrees → List Symbol → List Symbol
  others NoTypes ss = ss
  others (ThenType t ts) ss = S.Comma ∷ written t (others ts ss)

-- each of these may be a field of a struct
abbrev pub AreFields : TypeTrees → Type 0
AreFields NoTypes = Unit {0}
AreFields (ThenType t ts) = (is_field (shape t) ≡ true) × AreFields ts

-- one of the structs has the name
abbrev pub IsThere : List NamedStruct → List ℕ → Type 0
IsThere structs name = (s : NamedStruct) × (struct_in structs name ≡ Some s)

module _ (structs : List NamedStruct) where
  abbrev mutual
    -- A type that the dialect has: integers of 1 to 2^23 bits, pointers of an address space below 2^24, structs with the name
    -- of one that there is, and what is made of types that may make it.
    pub IsOfDialect : TypeTree → Type 0
    IsOfDialect VoidType = Unit {0}
    IsOfDialect (IntType w) = (1 ≤ w) × (w ≤ 2 ^ 23)
    IsOfDialect (PointerType space) = space < 2 ^ 24
    IsOfDialect (FloatingType of) = Unit {0}
    IsOfDialect (RefusedType of) = ⊥
    IsOfDialect (ArrayType count t) = (is_array_of count (shape t) ≡ true) × IsOfDialect t
    IsOfDialect (VectorType kind count t) = (is_vector_of count (shape t) ≡ true) × IsOfDialect t
    IsOfDialect (StructType layout fields) = AreFields fields × AreOfDialect fields
    IsOfDialect (NamedType name) = IsThere structs name
    IsOfDialect (FunctionType result params variadic) = IsOfDialect result × AreOfDialect params

    pub AreOfDialect : TypeTrees → Type 0
    AreOfDialect NoTypes = Unit {0}
    AreOfDialect (ThenType t ts) = IsOfDialect t × AreOfDialect ts

  -- The text spells the type, where there are these structs with names: its tokens say what the type is written as, the
  -- dialect has the type, and it nests at most 1000 deep.
  abbrev pub Spells : Text → TypeTree → Type 0
  Spells bytes t = (symbols_of bytes ≡ Some (written t [])) × IsOfDialect t × (depth t ≤ 1000)

-- What conversions of single types have given: for types of a context, by number, types of a module, each with the structs that it names.
use Rattle.std.specs.Prelude.{◌≡◌, ◌<◌, ◌≤◌, ◌^◌, ◌⊎◌, ℕ, List, [], ◌∷◌, ◌++◌, Option, Some, None, All, length, map, slice_get}
use Rattle.std.specs.Option.{option_and_then}
use Rattle.support.specs.Interned.{IsDistinctList}
use Rattle.kinds.specs.Structs.{Struct, struct_in}
use Rattle.llvm_core.specs.declared.numbers.LLVMType.{LLVMType}
use Rattle.llvm_core.specs.Module.{Module}
use Rattle.llvm_core.specs.Data as L
use Rattle.llvm_core.specs.Data.{data_of, trees_of}
use Rattle.dialect_types.specs.declared.types.TypeHandle.{TypeHandle}
use Rattle.dialect_types.specs.declared.types.StructFields.{StructFields}
use Rattle.dialect_types.specs.declared.types.TypeKind.{TypeKind}
use Rattle.dialect_types.specs.declared.types.TypeKind.TheVariants.{Integer, Array, Vector, Struct as Literal, Named, Func}
use Rattle.dialect_types.specs.Trees.{type_at, type_trees, struct_of}
use Rattle.to_llvm_ir.specs.Growth.{Grows}
use Rattle.to_llvm_ir.specs.declared.type_conversion.TypeConversionContext.{TypeConversionContext}

-- ---- parts of types, by number

-- the types of the fields of a struct, none where these are not told
abbrev pub types_in : Option StructFields → List TypeHandle
types_in None = []
types_in (Some b) = b.types

-- the numbers that a kind is made of, those of the fields of a struct with a name among them: a line for each kind that has parts
abbrev pub numbers_in : TypeKind → List TypeHandle
numbers_in (Array t count) = t ∷ []
numbers_in (Vector t count kind) = t ∷ []
numbers_in (Literal fields layout) = fields
numbers_in (Named name body) = types_in body
numbers_in (Func result params variadic) = result ∷ params
numbers_in _ = []

-- u is one of those of the type of the number t
abbrev pub IsPart : List TypeKind → TypeHandle → TypeHandle → Type 0
IsPart ks u t = (k : TypeKind) × (i : ℕ) × (slice_get ks t.0 ≡ Some k) × (slice_get (numbers_in k) i ≡ Some u)

-- u is t, or a part of it, all the way in
pub data IsWithin (ks : List TypeKind) (u : TypeHandle) : TypeHandle → Type 0 where
  Itself : IsWithin ks u u
  Inside : (t v : TypeHandle) → IsPart ks v t → IsWithin ks u v → IsWithin ks u t

-- a width that LLVM has (Language Reference, Integer Type)
abbrev pub IsWidth : ℕ → Type 0
IsWidth w = (1 ≤ w) × (w ≤ 2 ^ 23)

-- each integer type within it has such a width
abbrev pub HasWidths : List TypeKind → TypeHandle → Type 0
HasWidths ks t = (u : TypeHandle) (w : ℕ) → IsWithin ks u t → slice_get ks u.0 ≡ Some (Integer w) → IsWidth w

-- the type of the number is that struct with a name
abbrev pub IsStruct : List TypeKind → TypeHandle → Struct → Type 0
IsStruct ks t s = (k : TypeKind) × (slice_get ks t.0 ≡ Some k) × (struct_of (type_trees ks) k ≡ Some s)

-- ---- what was given

-- the type that was given for a number, none where none was
abbrev pub given_at : TypeConversionContext → TypeHandle → Option LLVMType
given_at c t = option_and_then (λ (o : Option LLVMType). o) (slice_get c.given.items t.0)

-- the struct is one of a module, with these very fields
abbrev pub IsAmong : Module → Struct → Type 0
IsAmong m s = (i : ℕ) × (slice_get (data_of m).structs i ≡ Some s)

-- The type of the module has the tree of the type of the context; each struct with a name within that is among those of the
-- module, with the same name and fields. So where no two structs of the module share a name, as `check` asks, it is the one meant.
pub record StandsFor (ks : List TypeKind) (m : Module) (t : TypeHandle) (l : LLVMType) : Type 0 where
  pub within : l.0 < length m.types
  pub is : L.type_at (trees_of m).types l ≡ type_at (type_trees ks) t
  pub structs : (u : TypeHandle) (s : Struct) → IsWithin ks u t → IsStruct ks u s → IsAmong m s

-- each type that was given stands for that of its number, and what is within that was given too
pub record IsGiven (ks : List TypeKind) (m : Module) (c : TypeConversionContext) (t : TypeHandle) (l : LLVMType) : Type 0 where
  pub there : t.0 < length ks
  pub within : l.0 < length m.types
  pub is : L.type_at (trees_of m).types l ≡ type_at (type_trees ks) t
  pub parts : (u : TypeHandle) → IsPart ks u t → ¬ (given_at c u ≡ None)
  pub struct : (s : Struct) → IsStruct ks t s → IsAmong m s

abbrev pub IsContextFor : List TypeKind → Module → TypeConversionContext → Type 0
IsContextFor ks m c = (t : TypeHandle) (l : LLVMType) → given_at c t ≡ Some l → IsGiven ks m c t l

-- Each struct with a name of the context is the one that its name means in the module; or its type was not given, and the
-- module has none of that name. So it is of a new context and a module that has none of these names.
abbrev pub AreMeant : List TypeKind → Module → TypeConversionContext → Type 0
AreMeant ks m c = (u : TypeHandle) (s : Struct) → IsStruct ks u s → (struct_in (data_of m).structs s.name ≡ Some s) ⊎ ((given_at c u ≡ None) × (struct_in (data_of m).structs s.name ≡ None))

-- The kinds of a store stand at their places in another, as the same types: so it is of one that got more.
abbrev pub HasTypesOf : (ks ls : List TypeKind) → Type 0
HasTypesOf ks ls =
    ((i : ℕ) (k : TypeKind) → slice_get ks i ≡ Some k → slice_get ls i ≡ Some k)
    × ((t : TypeHandle) → t.0 < length ks → type_at (type_trees ls) t ≡ type_at (type_trees ks) t)

-- ---- what a conversion gives

-- The module has more types, and behind its structs each struct that was given, once; all else stays. What W holds of may be
-- given, and nothing else; what was given stays.
pub record Gives (ks : List TypeKind) (W : TypeHandle → Type 0) (old : Module) (x : TypeConversionContext) (new : Module) (y : TypeConversionContext) : Type 0 where
  pub more : List Struct
  pub «data» : data_of new ≡ record (data_of old) { structs = (data_of old).structs ++ more }
  pub each : All (λ (s : Struct). (u : TypeHandle) × W u × IsStruct ks u s × (given_at x u ≡ None) × ¬ (given_at y u ≡ None)) more
  pub once : IsDistinctList (map (λ (s : Struct). s.name) more)
  pub rest : new ≡ record old { types = new.types; structs = new.structs }
  pub grows : Grows old new
  pub kept : (t : TypeHandle) (l : LLVMType) → given_at x t ≡ Some l → given_at y t ≡ Some l
  pub only : (t : TypeHandle) (l : LLVMType) → given_at y t ≡ Some l → (given_at x t ≡ Some l) ⊎ W t
  pub context : IsContextFor ks new y

-- What conversions of one module into one context have given: identifiers for names, and types of the dialect by number.
use Rattle.std.specs.Prelude.{◌≡◌, ◌<◌, ◌⊎◌, ℕ, List, [], ◌++◌, Option, Some, None, All, length, slice_get}
use Rattle.std.specs.Option.{option_and_then}
use Rattle.kinds.specs.declared.types.OtherType.{OtherType}
use Rattle.kinds.specs.Structs.{Struct, struct_in, renamed}
use Rattle.llvm_core.specs.declared.numbers.LLVMType.{LLVMType}
use Rattle.llvm_core.specs.declared.types.LLVMTypeKind.TheVariants as T
use Rattle.llvm_core.specs.Module.{Module}
use Rattle.llvm_core.specs.Data as L
use Rattle.llvm_core.specs.Data.{trees_of}
use Rattle.dialect_types.specs.declared.types.TypeHandle.{TypeHandle}
use Rattle.dialect_types.specs.declared.types.TypeKind.{TypeKind}
use Rattle.dialect_types.specs.Legalised.{Named, Gave, GoesOn, IsLegalised}
use Rattle.dialect_types.specs.Trees.{type_at, type_trees, structs_of}
use Rattle.dialect_core.specs.ContextData.{ContextData}
use Rattle.held_types.specs.Table.{IsTable}
use Rattle.from_consts.specs.Types.{AddsTypes}
use Rattle.from_consts.specs.Parts.{IsNamed, IsPart, IsWithin, HasNamed}
use Rattle.from_consts.specs.Names.{called, IsCalled, IsConverted}
use Rattle.from_consts.specs.declared.const_context.ConstContext.{ConstContext}

-- the type that was given for a number, none where none was
abbrev pub given_at : ConstContext → LLVMType → Option TypeHandle
given_at c t = option_and_then (λ (o : Option TypeHandle). o) (slice_get c.given.items t.0)

-- the struct of that name stands among those of a context, under its identifier and with its fields
abbrev pub IsMade : Module → List Named → (target : List Struct) → List ℕ → Type 0
IsMade m given target name = (s : Struct) × IsConverted (L.structs_of m) given name s × (struct_in target s.name ≡ Some s)

-- The type of the context is that of the module, as the dialect calls its structs. Each struct with a name within it stands in the
-- context, and no type within it is one that the dialect lacks.
pub record StandsFor (m : Module) (given : List Named) (ks : List TypeKind) (t : LLVMType) (h : TypeHandle) : Type 0 where
  pub within : h.0 < length ks
  pub is : type_at (type_trees ks) h ≡ renamed (called given) (L.type_at (trees_of m).types t)
  pub structs : (name : List ℕ) → HasNamed m (λ u. IsWithin m u t) name → IsMade m given (structs_of ks) name
  pub none : (u : LLVMType) (of : OtherType) → IsWithin m u t → ¬ (slice_get m.types u.0 ≡ Some (T.Other of))

-- ---- what holds of a context between conversions

-- the type that was given for one number: it is that type, and all its parts were given types
pub record IsGiven (m : Module) (ks : List TypeKind) (c : ConstContext) (t : LLVMType) (h : TypeHandle) : Type 0 where
  pub within : h.0 < length ks
  pub is : type_at (type_trees ks) h ≡ renamed (called c.names) (L.type_at (trees_of m).types t)
  pub known : IsCalled c.names (L.type_at (trees_of m).types t)
  pub parts : (u : LLVMType) → IsPart m u t → ¬ (given_at c u ≡ None)
  pub struct : (name : List ℕ) → IsNamed m t name → IsMade m c.names (structs_of ks) name
  pub own : (of : OtherType) → ¬ (slice_get m.types t.0 ≡ Some (T.Other of))

-- it has a place for each type of the module, and the first struct of each name
pub record IsReady (m : Module) (c : ConstContext) : Type 0 where
  pub count : length c.given.items ≡ length m.types
  pub table : IsTable m c.table

-- it serves this module, and a context with these types: what it has given is right
pub record IsContextFor (m : Module) (ks : List TypeKind) (c : ConstContext) : Type 0 where
  pub legal : IsLegalised c.names
  pub ready : (c.given.items ≡ []) ⊎ IsReady m c
  pub each : (t : LLVMType) (h : TypeHandle) → given_at c t ≡ Some h → IsGiven m ks c t h

-- ---- what a conversion gives

-- the structs are as before, and behind them new ones: what structs are in the dialect that types name of which W holds
abbrev pub AddsStructs : Module → (LLVMType → Type 0) → List Named → (old new : List Struct) → Type 0
AddsStructs m W given old new = (more : List Struct) × (new ≡ old ++ more) × All (λ (s : Struct). (name : List ℕ) × HasNamed m W name × IsConverted (L.structs_of m) given name s) more

-- The context has more types. Structs are new, names were met and types given for what W holds of alone; what was given stays, and
-- is right.
pub record Gives (m : Module) (W : LLVMType → Type 0) (a : ContextData) (x : ConstContext) (b : ContextData) (y : ConstContext) : Type 0 where
  pub types : AddsTypes a b
  pub structs : AddsStructs m W y.names (structs_of a.types) (structs_of b.types)
  pub names : GoesOn x.names y.names
  pub met : (name identifier : List ℕ) → Gave y.names name identifier → Gave x.names name identifier ⊎ HasNamed m W name
  pub kept : (t : LLVMType) (h : TypeHandle) → given_at x t ≡ Some h → given_at y t ≡ Some h
  pub only : (t : LLVMType) (h : TypeHandle) → given_at y t ≡ Some h → (given_at x t ≡ Some h) ⊎ W t
  pub context : IsContextFor m b.types y

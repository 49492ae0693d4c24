-- The structs with a name that an import translates: what the dialect calls them, and what a context holds of them.
use Rattle.std.specs.Prelude.{ℕ, ◌≡◌, ◌⊎◌, List, [], ◌∷◌, ◌++◌, Some, All, map, slice_get}
use Rattle.support.specs.Interned.{IsDistinctList}
use Rattle.kinds.specs.Types.{NamedType}
use Rattle.kinds.specs.Structs.{Struct, struct_in, renamed_struct}
use Rattle.llvm_core.specs.Data.{ModuleData, Function}
use Rattle.dialect_types.specs.Legalised.{Named, Gave, IsLegalised}
use Rattle.held_types.specs.Held.{HasTypeWith}
use Rattle.renamed_source.specs.Names.{struct_name}
use Rattle.from_llvm_ir.specs.Imported.{IsIn, FirstUses}
use Rattle.from_llvm_ir.specs.Naming.{HasMet, names_in}

-- names with identifiers
abbrev pub StructNames : Type 0
StructNames = List (List ℕ × List ℕ)

abbrev pub source_names : StructNames → List (List ℕ)
source_names pairs = map (λ (p : List ℕ × List ℕ). p.0) pairs

abbrev pub identifiers : StructNames → List (List ℕ)
identifiers pairs = map (λ (p : List ℕ × List ℕ). p.1) pairs

-- the names of structs, in order
abbrev pub struct_names : List Struct → List (List ℕ)
struct_names structs = map (λ (s : Struct). s.name) structs

-- the items of the first list are some of those of the second, in their order
pub data IsInOrder {A : Type 0} : (some all : List A) → Type 0 where
  NoneInOrder : IsInOrder [] []
  SkippedInOrder : (some all : List A) (x : A) → IsInOrder some all → IsInOrder some (all ++ x ∷ [])
  TakenInOrder : (some all : List A) (x : A) → IsInOrder some all → IsInOrder (some ++ x ∷ []) (all ++ x ∷ [])

-- the names are those of the structs that types of values hold, each once and in the order of the source, with the identifier
-- that it was given
pub record AreNamed (d : ModuleData) (given : List Named) (pairs : StructNames) : Type 0 where
  pub once : IsDistinctList (source_names pairs)
  pub gave : All (λ (p : List ℕ × List ℕ). Gave given p.0 p.1) pairs
  pub held : (name : List ℕ) → IsIn (source_names pairs) name → HasTypeWith d (NamedType name)
  pub all : (name : List ℕ) → HasTypeWith d (NamedType name) → IsIn (source_names pairs) name
  pub ordered : IsInOrder (source_names pairs) (struct_names d.structs)

-- the structs of these names stand among those of a context, under their identifiers, with their fields as the dialect calls them
abbrev pub AreMade : ModuleData → StructNames → (target : List Struct) → Type 0
AreMade d pairs target =
    (i : ℕ) (p : List ℕ × List ℕ) → slice_get pairs i ≡ Some p
    → (s : Struct) × (struct_in d.structs p.0 ≡ Some s) × (struct_in target p.1 ≡ Some (renamed_struct (struct_name pairs) s))

-- a struct that is there now was there before, or has one of these identifiers
abbrev pub AddsOnly : (before now : List Struct) → List (List ℕ) → Type 0
AddsOnly before now names = (j : ℕ) (s : Struct) → slice_get now j ≡ Some s → IsIn before s ⊎ IsIn names s.name

-- The match of structs: one-to-one from the structs of the source that types of values hold, in its order, onto identifiers, of
-- which each is that of a struct of the context with the same fields and layout, or with none where the source's has none.
pub record IsStructMatch (d : ModuleData) (pairs : StructNames) (target : List Struct) : Type 0 where
  pub names : IsDistinctList (source_names pairs)
  pub identifiers : IsDistinctList (identifiers pairs)
  pub held : (name : List ℕ) → IsIn (source_names pairs) name → HasTypeWith d (NamedType name)
  pub all : (name : List ℕ) → HasTypeWith d (NamedType name) → IsIn (source_names pairs) name
  pub ordered : IsInOrder (source_names pairs) (struct_names d.structs)
  pub made : AreMade d pairs target

-- What stops the making of these structs in a context that had others before: one of these has an identifier of theirs and
-- another body.
pub record HasOtherBody (before : List Struct) (d : ModuleData) (pairs : StructNames) (identifier : List ℕ) : Type 0 where
  pub place : ℕ
  pub name : List ℕ
  pub at : slice_get pairs place ≡ Some (name, identifier)
  pub struct : Struct
  pub is : struct_in d.structs name ≡ Some struct
  pub other : Struct
  pub there : struct_in before identifier ≡ Some other
  pub differs : ¬ (other ≡ renamed_struct (struct_name pairs) struct)

-- A context that had these structs before has the identifier with another body than the struct of the source that gets it. The
-- names that were met are those of the module, of its functions and of its structs, each where it stands first.
pub record HasOtherStruct (before : List Struct) (d : ModuleData) (identifier : List ℕ) : Type 0 where
  pub given : List Named
  pub legalised : IsLegalised given
  pub pairs : StructNames
  pub met : (firsts : List (List ℕ)) × FirstUses (d.name ∷ map (λ (f : Function). f.name) d.functions ++ source_names pairs) firsts × (names_in given ≡ firsts)
  pub named : AreNamed d given pairs
  pub other : HasOtherBody before d pairs identifier

-- the same once the first names were met, which were these
pub record HasOtherAfter (names : List Named) (before : List Struct) (d : ModuleData) (identifier : List ℕ) : Type 0 where
  pub given : List Named
  pub legalised : IsLegalised given
  pub pairs : StructNames
  pub met : HasMet names given (map (λ (f : Function). f.name) d.functions ++ source_names pairs)
  pub named : AreNamed d given pairs
  pub other : HasOtherBody before d pairs identifier

-- How a store of types keeps them; no clause of another crate cites what follows.
use Rattle.std.specs.Prelude.{◌≡◌, ◌≢◌, ◌<◌, ◌≤◌, ℕ, suc, true, List, All, Option, Some, IfSome, length, slice_get}
use Rattle.kinds.specs.Held.{deepest}
use Rattle.kinds.specs.Structs.{each_type, nests}
use Rattle.dialect_types.specs.declared.types.TypeHandle.{TypeHandle}
use Rattle.dialect_types.specs.declared.types.StructFields.{StructFields}
use Rattle.dialect_types.specs.declared.types.TypeKind.{TypeKind}
use Rattle.dialect_types.specs.declared.types.TypeKind.TheVariants.{Named}
use Rattle.dialect_types.specs.declared.struct_err.StructErr.{StructErr}
use Rattle.dialect_types.specs.declared.struct_err.StructErr.TheVariants as E
use Rattle.dialect_types.specs.Trees.{TypeTree, NamedStruct, type_at, types_at, type_tree, type_trees, structs_of, IsStored}

-- names, each with the number at its place
pub record Numbered : Type 0 where
  pub names : List (List ℕ)
  pub types : List TypeHandle

-- the name has the number beside it
abbrev pub IsNumberOf : Numbered → List ℕ → TypeHandle → Type 0
IsNumberOf s n t = (at : ℕ) × (slice_get s.names at ≡ Some n) × (slice_get s.types at ≡ Some t)

-- each struct with a name has its number beside the name, and each name is that of one
pub record HasNumbers (ks : List TypeKind) (s : Numbered) : Type 0 where
  pub even : length s.types ≡ length s.names
  pub each : (t : ℕ) (n : List ℕ) (b : Option StructFields) → slice_get ks t ≡ Some (Named n b) → IsNumberOf s n (record { 0 = t })
  pub only : (n : List ℕ) (t : TypeHandle) → IsNumberOf s n t → (b : Option StructFields) × (slice_get ks t.0 ≡ Some (Named n b))

-- the number at each place is enough for the type of that number
abbrev pub AreDepths : List TypeKind → List ℕ → Type 0
AreDepths ks ds = (t : TypeHandle) (d : ℕ) → t.0 < length ks → slice_get ds t.0 ≡ Some d → nests (structs_of ks) d (type_at (type_trees ks) t) ≡ true

-- the number at each place is enough for the type of that number, whatever types and structs there are
abbrev pub AreEnough : List NamedStruct → List TypeTree → List ℕ → Type 0
AreEnough ss ts ds = (t : TypeHandle) (d : ℕ) → slice_get ds t.0 ≡ Some d → nests ss d (type_at ts t) ≡ true

-- so many levels are enough for a type of that kind, and one less for the fields of a struct with a name
abbrev pub NestsAs : List NamedStruct → List TypeTree → ℕ → TypeKind → Type 0
NestsAs ss ts d (Named name body) = (m : ℕ) × (d ≡ suc m) × IfSome body (λ (b : StructFields). each_type (nests ss m) (types_at ts b.types) ≡ true)
NestsAs ss ts d k = nests ss d (type_tree ts k) ≡ true

-- they are by what is enough for its parts
abbrev pub IsDepthOf : TypeKind → List ℕ → ℕ → Type 0
IsDepthOf k ds d = (ss : List NamedStruct) (ts : List TypeTree) → AreEnough ss ts ds → NestsAs ss ts d k

-- why a struct of that name and body is refused: the store holds the name with another body; want of memory needs no reason
abbrev pub IsStructErr : List TypeKind → List ℕ → Option StructFields → StructErr → Type 0
IsStructErr ks name body (E.DifferentBody n) = (n ≡ name) × (t : ℕ) × (b : Option StructFields) × (slice_get ks t ≡ Some (Named name b)) × (b ≢ body)
IsStructErr ks name body E.NoMemory = Unit {0}

-- what a store keeps of its kinds, of their depths and of the names of structs
pub record IsWhole (ks : List TypeKind) (ds : List ℕ) (s : Numbered) : Type 0 where
  pub stored : IsStored ks
  pub depths : AreDepths ks ds
  pub long : length ks ≤ length ds
  pub few : All (λ (d : ℕ). d ≤ deepest) ds
  pub numbers : HasNumbers ks s

-- A store that grows.
use Rattle.std.proofs.Common.{◌≡◌, ℕ, zero, suc, Bool, true, false, Option, Some, None, List, [], ◌∷◌, length, refl, arith}
use Rattle.std.specs.Option.{option_map_or}
use Rattle.kinds.specs.Held.{deepest}
use Rattle.kinds.specs.Structs.{struct_in, each_field, nests, IsNested}
use Rattle.dialect_types.specs.declared.types.TypeHandle.{TypeHandle}
use Rattle.dialect_types.specs.declared.types.TypeKind.{TypeKind}
use Rattle.dialect_types.specs.Trees.{NamedStruct, NamedType, AllBelow}
use Rattle.dialect_parsing.specs.Spelling.{Grows, IsThere}
pub use Rattle.dialect_types.proofs.GrowthLaws.{grows_not, grows_then, grows_by, grows_same, grown_length, got_within, grown_trees}

pub below_more : (old new : List TypeKind) → Grows old new → (ts : List TypeHandle) → AllBelow (length old) ts → AllBelow (length new) ts
below_more old new g [] h = tt
below_more old new g (t ∷ ts) h = (let l = h.0 in omega (arith, grown_length old new g), below_more old new g ts h.1)

-- ---- a struct that a type names is there

some_there : (o : Option NamedStruct) (p : NamedStruct → Bool) → option_map_or p o false ≡ true → (s : NamedStruct) × (o ≡ Some s)
some_there None p h = cc
some_there (Some s) p h = (s, refl)

named_nests : (structs : List NamedStruct) (name : List ℕ) (n : ℕ) → nests structs n (NamedType name) ≡ true → IsThere structs name
named_nests structs name zero h = cc
named_nests structs name (suc n) h = some_there (struct_in structs name) (each_field (nests structs n)) h

pub nested_there : (structs : List NamedStruct) (name : List ℕ) → IsNested structs (NamedType name) → IsThere structs name
nested_there structs name h = named_nests structs name deepest h

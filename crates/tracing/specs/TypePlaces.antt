-- Where the types of a module or a context stand in a table.
use Rattle.std.specs.Prelude.{◌≡◌, ℕ, List, Some, slice_index_or}
use Rattle.support.specs.NumberMaps.{value_at}
use Rattle.llvm_core.specs.declared.numbers.LLVMType.{LLVMType}
use Rattle.llvm_core.specs.Data.{TypeTree, VoidType, type_trees}
use Rattle.tracing.specs.declared.type_places.TypePlaces.{TypePlaces}
use Rattle.tracing.specs.Types.{KeepsTypes, Stands}

abbrev pub trees_in : TypePlaces → List TypeTree
trees_in p = type_trees p.table

-- where the type at a number of the source has a place, it stands there
abbrev pub ArePlacesOf : List TypeTree → TypePlaces → Type 0
ArePlacesOf source p = (q : ℕ) (t : LLVMType) → value_at p.places q ≡ Some t → Stands (trees_in p) t (slice_index_or source q VoidType)

-- types of the source may have come to the table, and the others stand where they stood
pub record IsGrown (source : List TypeTree) (old new : TypePlaces) : Type 0 where
  pub kept : KeepsTypes (trees_in old) (trees_in new)
  pub places : ArePlacesOf source new

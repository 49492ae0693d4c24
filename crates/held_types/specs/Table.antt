-- Structs by their names: the first of each name.
use Rattle.std.specs.Prelude.{ℕ, ◌≡◌, List, Some, length, position, slice_get, take}
use Rattle.std.specs.Str.{bytes_eq}
use Rattle.kinds.specs.Structs.{Struct, struct_in}
use Rattle.llvm_core.specs.declared.numbers.LLVMStruct.{LLVMStruct}
use Rattle.llvm_core.specs.Module.{Module}
use Rattle.llvm_core.specs.Data.{data_of, structs_of}
use Rattle.held_types.specs.declared.table.Table.{Table}
use Rattle.held_types.specs.Held.{IsStructOf}

-- the table has that struct for the name
abbrev pub IsFirst : Table → List ℕ → LLVMStruct → Type 0
IsFirst t name n = (i : ℕ) × (position (bytes_eq name) t.names ≡ Some i) × (slice_get t.firsts.items i ≡ Some n)

-- for each name that one of these structs has, the table has the first struct of the module that has it
abbrev pub HasFirsts : Module → List Struct → Table → Type 0
HasFirsts m structs t = (name : List ℕ) (s : Struct) → struct_in structs name ≡ Some s → (n : LLVMStruct) × IsFirst t name n × IsStructOf (data_of m) name n

-- so for all of a module
abbrev pub IsTable : Module → Table → Type 0
IsTable m t = HasFirsts m (structs_of m) t

-- so for as many of them, and it has no other name
pub record IsTableTo (m : Module) (count : ℕ) (t : Table) : Type 0 where
  pub lengths : length t.firsts.items ≡ length t.names
  pub known : (i : ℕ) (name : List ℕ) → slice_get t.names i ≡ Some name → (s : Struct) × (struct_in (take count (structs_of m)) name ≡ Some s)
  pub firsts : HasFirsts m (take count (structs_of m)) t

-- What clauses see of a module that structs are added to.
use Rattle.std.specs.Prelude.{◌≡◌, ℕ, List, ◌++◌, map, Some}
use Rattle.llvm_core.specs.Module.{Module}
use Rattle.llvm_core.specs.Data.{Struct, data_of, trees_of, with_struct}
use Rattle.llvm_core.specs.Sound.{IsModule}
use Rattle.ll_lines.specs.declared.lines.StructLine.{StructLine}
use Rattle.ll_lines.specs.Views.{struct_view}
use Rattle.ll_bodies.specs.Meaning.{all_of, struct_data}

-- the struct that is said goes behind those that are there
pub record AddsStruct (bytes : List ℕ) (x : StructLine) (old new : Module) : Type 0 where
  pub made : Struct
  pub is : struct_data (struct_view bytes (trees_of old) x) ≡ Some made
  pub rest : new ≡ record old { structs = new.structs }
  pub given : data_of new ≡ with_struct (data_of old) made
  pub sound : IsModule new

-- the structs that are said go behind those that are there
pub record AddsStructs (bytes : List ℕ) (xs : List StructLine) (old new : Module) : Type 0 where
  pub made : List Struct
  pub is : all_of struct_data (map (struct_view bytes (trees_of old)) xs) ≡ Some made
  pub rest : new ≡ record old { structs = new.structs }
  pub given : data_of new ≡ record (data_of old) { structs = (data_of old).structs ++ made }
  pub sound : IsModule new

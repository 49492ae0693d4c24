-- Types of a context that grow.
use Rattle.std.specs.Prelude.{◌≡◌, ◌<◌, ◌≤◌, ℕ, List, [], Some, None, All, length, slice_get}
use Rattle.kinds.specs.Types.{TypeTree, NamedType}
use Rattle.kinds.specs.Structs.{Struct, Holds, struct_in}
use Rattle.llvm_core.specs.Data.{Function}
use Rattle.llvm_core.specs.Form.{value_types, HasMadeOperands}
use Rattle.llvm_core.specs.declared.numbers.LLVMType.{LLVMType}
use Rattle.llvm_core.specs.declared.types.LLVMTypeKind.TheVariants as T
use Rattle.llvm_core.specs.Module.{Module}
use Rattle.dialect_types.specs.declared.types.TypeHandle.{TypeHandle}
use Rattle.dialect_types.specs.declared.types.TypeKind.{TypeKind}
use Rattle.dialect_types.specs.Trees.{type_at, type_trees, structs_of}
use Rattle.dialect_core.specs.ContextData.{ContextData}
pub use Rattle.from_consts.specs.Types.{MoreTypes, AddsTypes}

-- it has more types, but no more structs with a name
pub record GrowsTypes (old new : ContextData) : Type 0 where
  pub rest : new ≡ record old { types = new.types }
  pub more : MoreTypes old.types new.types
  pub structs : structs_of new.types ≡ structs_of old.types

-- ---- structs that are there

-- each struct that the type itself names, not looking into their fields, is one of these
abbrev pub NamesAmong : List Struct → TypeTree → Type 0
NamesAmong structs t = (name : List ℕ) → Holds [] (NamedType name) t → ¬ (struct_in structs name ≡ None)

-- so is each that the type of a value of the function names; and the elements of each constant that is used are those that these
-- structs ask for
abbrev pub IsReadyFor : Function → List Struct → Type 0
IsReadyFor g structs = All (NamesAmong structs) (value_types g) × HasMadeOperands structs g

-- the type names the struct of that name
abbrev pub IsNamedAs : Module → LLVMType → List ℕ → Type 0
IsNamedAs m t name = slice_get m.types t.0 ≡ Some (T.Named name)

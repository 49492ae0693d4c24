-- Structs with a name that are exported: what is known of their fields, and how they are added to a module.
use Rattle.std.specs.Prelude.{◌≡◌, ◌<◌, ◌^◌, true, List, All, ◌++◌, length}
use Rattle.std.specs.Option.{option_map_or}
use Rattle.std.specs.List.{filter_map}
use Rattle.kinds.specs.Types.{shape, count_types}
use Rattle.kinds.specs.Fitting.{is_field}
use Rattle.kinds.specs.Held.{IsHeld}
use Rattle.kinds.specs.Structs.{StructBody, Struct}
use Rattle.llvm_core.specs.Data.{ModuleData}
use Rattle.dialect_types.specs.declared.types.TypeHandle.{TypeHandle}
use Rattle.dialect_types.specs.declared.types.TypeKind.{TypeKind}
use Rattle.dialect_types.specs.declared.types.StructFields.{StructFields}
use Rattle.dialect_types.specs.Trees.{type_at, type_trees, struct_of}

-- the fields of a struct of a store: types that are there and translated, each such as a struct may have
pub record AreFieldsOf (ks : List TypeKind) (b : StructFields) : Type 0 where
  pub within : All (λ (t : TypeHandle). t.0 < length ks) b.types
  pub held : All (λ (t : TypeHandle). IsHeld (type_at (type_trees ks) t)) b.types
  pub fit : All (λ (t : TypeHandle). is_field (shape (type_at (type_trees ks) t)) ≡ true) b.types

-- the structs among some types of a store, in order
abbrev pub structs_in : (store some : List TypeKind) → List Struct
structs_in store some = filter_map (struct_of (type_trees store)) some

-- a list of fewer than 2^31 fields
abbrev pub HasFewFields : Struct → Type 0
HasFewFields s = option_map_or (λ (b : StructBody). count_types b.fields) s.body 0 < 2 ^ 31

-- the structs stand behind those that were there, and all else stays; none of them has too many fields
pub record AddsStructs (more : List Struct) (old new : ModuleData) : Type 0 where
  pub is : new ≡ record old { structs = old.structs ++ more }
  pub few : All HasFewFields more

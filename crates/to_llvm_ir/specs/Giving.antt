-- What holds while types of a context are given: before a number is, and between its parts and its own mark.
use Rattle.std.specs.Prelude.{◌≡◌, ◌<◌, ◌≤◌, ◌++◌, ℕ, List, [], None, Some, length, slice_get}
use Rattle.std.specs.List.{cons_option}
use Rattle.llvm_core.specs.declared.numbers.LLVMType.{LLVMType}
use Rattle.llvm_core.specs.Module.{Module}
use Rattle.llvm_core.specs.Data as L
use Rattle.llvm_core.specs.Data.{data_of, trees_of}
use Rattle.dialect_types.specs.declared.types.TypeHandle.{TypeHandle}
use Rattle.dialect_types.specs.declared.types.TypeKind.{TypeKind}
use Rattle.dialect_types.specs.declared.types.TypeKind.TheVariants.{Integer}
use Rattle.dialect_types.specs.Trees.{IsStored, struct_of, type_tree, type_trees}
use Rattle.to_llvm_ir.specs.Conversion.{Gives, IsContextFor, IsWidth, IsWithin, given_at, numbers_in}
use Rattle.to_llvm_ir.specs.declared.type_conversion.TypeConversionContext.{TypeConversionContext}

-- u is within one of the types
abbrev pub IsWithinSome : List TypeKind → List TypeHandle → TypeHandle → Type 0
IsWithinSome ks us u = (i : ℕ) × (t : TypeHandle) × (slice_get us i ≡ Some t) × IsWithin ks u t

-- what W holds of may be given: those numbers are there, with widths that LLVM has, and each has a place
pub record MayGive (ks : List TypeKind) (W : TypeHandle → Type 0) (m : Module) (c : TypeConversionContext) : Type 0 where
  pub stored : IsStored ks
  pub there : (u : TypeHandle) → W u → u.0 < length ks
  pub widths : (u : TypeHandle) (w : ℕ) → W u → slice_get ks u.0 ≡ Some (Integer w) → IsWidth w
  pub context : IsContextFor ks m c
  pub room : length ks ≤ length c.given.items

-- each of the types was given
abbrev pub AreGiven : TypeConversionContext → List TypeHandle → Type 0
AreGiven c us = (i : ℕ) (u : TypeHandle) → slice_get us i ≡ Some u → ¬ (given_at c u ≡ None)

-- The type stands for one of the kind k, whose parts were given. The struct that k is, where it is one with a name, is the last
-- of the module; the number of that type is still to be marked.
pub record Makes (ks : List TypeKind) (k : TypeKind) (old : Module) (x : TypeConversionContext) (new : Module) (y : TypeConversionContext) (l : LLVMType) : Type 0 where
  pub middle : Module
  pub gives : Gives ks (IsWithinSome ks (numbers_in k)) old x middle y
  pub «data» : data_of new ≡ record (data_of middle) { structs = (data_of middle).structs ++ cons_option (struct_of (type_trees ks) k) [] }
  pub rest : new ≡ record middle { structs = new.structs }
  pub within : l.0 < length new.types
  pub is : L.type_at (trees_of new).types l ≡ type_tree (type_trees ks) k
  pub parts : AreGiven y (numbers_in k)

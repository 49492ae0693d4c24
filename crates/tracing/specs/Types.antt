-- Types in a table, by their numbers there.
use Rattle.std.specs.Prelude.{◌≡◌, ◌<◌, ℕ, true, List, Some, All, slice_get}
use Rattle.llvm_core.specs.declared.numbers.LLVMType.{LLVMType}
use Rattle.dialect_types.specs.declared.types.TypeHandle.{TypeHandle}
use Rattle.llvm_core.specs.declared.types.LLVMTypeKind.{LLVMTypeKind}
use Rattle.llvm_core.specs.Parts.{IsTypeOver}
use Rattle.llvm_core.specs.Data.{TypeTree, ArrayType, VectorType, StructType, type_tree, type_trees}
use Rattle.kinds.specs.Types.{shape, types_list}
use Rattle.kinds.specs.Fitting.{is_field, is_array_of, is_vector_of}
use Rattle.meaning.specs.Pairs.{Matched}
use Rattle.tracing.specs.declared.trace.Types.{Types}

-- the parts of each type stand before it
abbrev pub AreOver : List LLVMTypeKind → Type 0
AreOver ks = (i : ℕ) (k : LLVMTypeKind) → slice_get ks i ≡ Some k → IsTypeOver i k

-- a type is made of what it may be made of: a line for each kind with parts
abbrev pub IsFitTree : TypeTree → Type 0
IsFitTree (ArrayType count t) = is_array_of count (shape t) ≡ true
IsFitTree (VectorType kind count t) = is_vector_of count (shape t) ≡ true
IsFitTree (StructType layout ts) = All (λ (t : TypeTree). is_field (shape t) ≡ true) (types_list ts)
IsFitTree _ = Unit {0}

-- what holds of the kinds of a table
pub record IsTypeTable (ks : List LLVMTypeKind) : Type 0 where
  pub over : AreOver ks
  pub fit : (i : ℕ) (k : LLVMTypeKind) → slice_get ks i ≡ Some k → IsFitTree (type_tree (type_trees ks) k)

-- a type of that tree stands at the number
abbrev pub Stands : List TypeTree → LLVMType → TypeTree → Type 0
Stands trees t tree = slice_get trees t.0 ≡ Some tree

-- types of those trees stand at the numbers
abbrev pub AllStand : List TypeTree → List LLVMType → List TypeTree → Type 0
AllStand trees ts us = Matched (Stands trees) ts us

-- each is a number below n
abbrev pub AreBelow : ℕ → List LLVMType → Type 0
AreBelow n ts = All (λ (t : LLVMType). t.0 < n) ts

abbrev pub AreHandlesBelow : ℕ → List TypeHandle → Type 0
AreHandlesBelow n ts = All (λ (t : TypeHandle). t.0 < n) ts

-- the types of a result and of operands are numbers below n
abbrev pub HasTypesBelow : ℕ → Types → Type 0
HasTypesBelow n types = (types.result.0 < n) × AreBelow n types.operands

-- ---- a table that grows

-- what stood at a number stands there
abbrev pub KeepsTypes : List TypeTree → List TypeTree → Type 0
KeepsTypes old new = (k : ℕ) (t : TypeTree) → slice_get old k ≡ Some t → slice_get new k ≡ Some t

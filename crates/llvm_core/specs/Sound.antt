-- What is true of every module that calls have built.
use Rattle.std.specs.Prelude.{◌≡◌, ◌<◌, ℕ, true, List, length, slice_get, Option, None, Some, All, IfSome}
use Rattle.kinds.specs.declared.types.Lanes.{Lanes}
use Rattle.kinds.specs.declared.types.Lanes.TheVariants as N
use Rattle.kinds.specs.Fitting.{is_field}
use Rattle.llvm_core.specs.declared.types.LLVMTypeKind.{LLVMTypeKind}
use Rattle.llvm_core.specs.declared.types.LLVMTypeKind.TheVariants as T
use Rattle.llvm_core.specs.declared.types.ResultType.{ResultType}
use Rattle.llvm_core.specs.declared.types.ResultType.TheVariants as R
use Rattle.llvm_core.specs.declared.consts.LLVMConstKind.{LLVMConstKind}
use Rattle.llvm_core.specs.declared.numbers.LLVMType.{LLVMType}
use Rattle.llvm_core.specs.declared.numbers.LLVMBasicBlock.{LLVMBasicBlock}
use Rattle.llvm_core.specs.declared.numbers.LLVMInstRef.{LLVMInstRef}
use Rattle.llvm_core.specs.declared.structs.StructFields.{StructFields}
use Rattle.llvm_core.specs.declared.structs.StructData.{StructData}
use Rattle.llvm_core.specs.declared.code.FunctionData.{FunctionData}
use Rattle.llvm_core.specs.declared.code.BlockData.{BlockData}
use Rattle.llvm_core.specs.declared.code.InstData.{InstData}
use Rattle.support.specs.Interned.{IsDistinctList}
use Rattle.llvm_core.specs.Module.{Module}
use Rattle.llvm_core.specs.Consts.{IsConstIn, IsMadeBelow}
use Rattle.llvm_core.specs.Parts.{IsTypeOver, HasFitParts, shape_at, IsFunctionType, HasValues, type_params, result_type}

-- fields that are there, each of a type that a struct may have a field of
pub record AreFieldsIn (types : List LLVMTypeKind) (b : StructFields) : Type 0 where
  pub within : All (λ (t : LLVMType). t.0 < length types) b.types
  pub fit : All (λ (t : LLVMType). is_field (shape_at types t) ≡ true) b.types

-- the fields of a struct are; an opaque one has none
abbrev pub IsStructIn : List LLVMTypeKind → StructData → Type 0
IsStructIn types x = IfSome x.body (AreFieldsIn types)

-- a function of a function type, with a name for each parameter, and blocks that are there, each listed once
pub record IsFunctionIn (m : Module) (x : FunctionData) : Type 0 where
  pub typed : IsFunctionType m.types x.ty
  pub params : length x.params ≡ length (type_params m.types x.ty)
  pub blocks : All (λ (b : LLVMBasicBlock). b.0 < length m.blocks) x.blocks
  pub once : IsDistinctList x.blocks

-- a block of a function that is there, with instructions that are there
pub record IsBlockIn (m : Module) (x : BlockData) : Type 0 where
  pub function : x.function.0 < length m.functions
  pub insts : All (λ (i : LLVMInstRef). i.0 < length m.insts) x.insts

-- the number is that of i1 in so many lanes
abbrev pub IsOfBits : List LLVMTypeKind → Lanes → LLVMType → Type 0
IsOfBits types N.One ty = slice_get types ty.0 ≡ Some (T.Int 1)
IsOfBits types (N.Many kind count) ty = (bit : LLVMType) × (slice_get types ty.0 ≡ Some (T.Vector kind count bit)) × (slice_get types bit.0 ≡ Some (T.Int 1))

-- the number stands for the type of a result
abbrev pub StandsFor : List LLVMTypeKind → Option ResultType → LLVMType → Type 0
StandsFor types (Some (R.There t)) ty = ty ≡ t
StandsFor types (Some (R.Bits lanes)) ty = IsOfBits types lanes ty
StandsFor types None ty = slice_get types ty.0 ≡ Some T.Void

-- an instruction of a block that is there, with a type that is there and is that of its operands, and operands that are there
pub record IsInstIn (m : Module) (x : InstData) : Type 0 where
  pub block : x.block.0 < length m.blocks
  pub typed : x.ty.0 < length m.types
  pub result : StandsFor m.types (result_type m x.inst) x.ty
  pub values : HasValues m x.inst

-- the block b stands in the list of the function that it names
abbrev pub IsListedBlock : Module → (b : ℕ) → BlockData → Type 0
IsListedBlock m b y = (x : FunctionData) × (place : ℕ) × (slice_get m.functions y.function.0 ≡ Some x) × (slice_get x.blocks place ≡ Some (record { 0 = b }))

-- the instruction i stands in the list of the block that it names
abbrev pub IsListedInst : Module → (i : ℕ) → InstData → Type 0
IsListedInst m i z = (y : BlockData) × (place : ℕ) × (slice_get m.blocks z.block.0 ≡ Some y) × (slice_get y.insts place ≡ Some (record { 0 = i }))

-- the block b lists only instructions that name it
abbrev pub OwnsInsts : Module → (b : ℕ) → BlockData → Type 0
OwnsInsts m b y = (place : ℕ) (i : LLVMInstRef) (z : InstData) → slice_get y.insts place ≡ Some i → slice_get m.insts i.0 ≡ Some z → z.block.0 ≡ b

-- the function f lists only blocks that name it
abbrev pub OwnsBlocks : Module → (f : ℕ) → FunctionData → Type 0
OwnsBlocks m f x = (place : ℕ) (b : LLVMBasicBlock) (y : BlockData) → slice_get x.blocks place ≡ Some b → slice_get m.blocks b.0 ≡ Some y → y.function.0 ≡ f

-- types and constants are made of earlier ones and stand once each; code names only what is there, and stands in the list of its owner; a function lists only its own blocks, and a block only its own instructions
pub record IsModule (m : Module) : Type 0 where
  pub types : (i : ℕ) (k : LLVMTypeKind) → slice_get m.types i ≡ Some k → IsTypeOver i k
  pub types_fit : (i : ℕ) (k : LLVMTypeKind) → slice_get m.types i ≡ Some k → HasFitParts m.types k
  pub types_once : IsDistinctList m.types
  pub consts : (i : ℕ) (k : LLVMConstKind) → slice_get m.consts i ≡ Some k → IsConstIn m k
  pub consts_below : (i : ℕ) (k : LLVMConstKind) → slice_get m.consts i ≡ Some k → IsMadeBelow i k
  pub consts_once : IsDistinctList m.consts
  pub structs : All (IsStructIn m.types) m.structs
  pub functions : (f : ℕ) (x : FunctionData) → slice_get m.functions f ≡ Some x → IsFunctionIn m x
  pub blocks : (b : ℕ) (x : BlockData) → slice_get m.blocks b ≡ Some x → IsBlockIn m x
  pub insts : (i : ℕ) (x : InstData) → slice_get m.insts i ≡ Some x → IsInstIn m x
  pub listed_blocks : (b : ℕ) (y : BlockData) → slice_get m.blocks b ≡ Some y → IsListedBlock m b y
  pub listed_insts : (i : ℕ) (z : InstData) → slice_get m.insts i ≡ Some z → IsListedInst m i z
  pub owned_blocks : (f : ℕ) (x : FunctionData) → slice_get m.functions f ≡ Some x → OwnsBlocks m f x
  pub owned_insts : (b : ℕ) (y : BlockData) → slice_get m.blocks b ≡ Some y → OwnsInsts m b y

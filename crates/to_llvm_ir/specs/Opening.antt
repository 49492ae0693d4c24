-- A function with its blocks, none of which has an instruction yet.
use Rattle.std.specs.Prelude.{◌≡◌, ◌+◌, ℕ, List, [], Some, length, take, slice_get}
use Rattle.llvm_core.specs.declared.numbers.LLVMType.{LLVMType}
use Rattle.llvm_core.specs.declared.numbers.LLVMFunction.{LLVMFunction}
use Rattle.llvm_core.specs.declared.code.FunctionData.{FunctionData}
use Rattle.llvm_core.specs.declared.code.LLVMValue.TheVariants as V
use Rattle.llvm_core.specs.Module.{Module}
use Rattle.llvm_core.specs.Sound.{IsModule}
use Rattle.llvm_core.specs.Data as L
use Rattle.llvm_core.specs.Data.{data_of, with_function}
use Rattle.dialect_types.specs.Trees.{TypeTree}
use Rattle.dialect_core.specs.declared.numbers.BlockRef.{BlockRef}
use Rattle.dialect_core.specs.ContextData.{ContextData}
use Rattle.dialect_core.specs.Data.{DialectBlock}
use Rattle.to_llvm_ir.specs.declared.blocks.Blocks.{Blocks}
use Rattle.to_llvm_ir.specs.Made.{empty_blocks, function_with}
use Rattle.to_llvm_ir.specs.Growth.{IsTypeOf, HasType}
use Rattle.to_llvm_ir.specs.States.{Task, IsTask, IsBlockAt, AreMapped}

-- the parameters of the function have the types of the block's arguments
pub record HasParams (t : Task) (c : DialectBlock) (f : LLVMFunction) (m : Module) : Type 0 where
  pub number : f.0 ≡ t.numbers.function
  pub typed : (i : ℕ) (type : TypeTree) → slice_get c.args i ≡ Some type → HasType m (V.Param f i) type

-- the function is there, of that type
pub record HasFunction (f : LLVMFunction) (ty : LLVMType) (tree : L.TypeTree) (m : Module) : Type 0 where
  pub function : FunctionData
  pub there : slice_get m.functions f.0 ≡ Some function
  pub type : function.ty ≡ ty
  pub typed : IsTypeOf m ty tree

-- the first i blocks are there and known
pub record IsOpening (t : Task) (i : ℕ) (f : LLVMFunction) (ty : LLVMType) (blocks : Blocks) (m : Module) : Type 0 where
  pub is : data_of m ≡ with_function t.before (function_with t.source t.numbers (empty_blocks t.source t.numbers 0 (take i t.source.blocks)))
  pub sound : IsModule m
  pub number : f.0 ≡ t.numbers.function
  pub function : HasFunction f ty t.source.type m
  pub block_count : length m.blocks ≡ t.numbers.block + i
  pub inst_count : length m.insts ≡ t.numbers.inst
  pub mapped : AreMapped t.source t.numbers i blocks

-- the function has no blocks yet
pub record IsDeclared (t : Task) (f : LLVMFunction) (ty : LLVMType) (m : Module) : Type 0 where
  pub is : data_of m ≡ with_function t.before (function_with t.source t.numbers [])
  pub sound : IsModule m
  pub number : f.0 ≡ t.numbers.function
  pub function : HasFunction f ty t.source.type m
  pub block_count : length m.blocks ≡ t.numbers.block
  pub inst_count : length m.insts ≡ t.numbers.inst

-- the blocks of the function, by their numbers
pub record AreBlocks (c : ContextData) (t : Task) (bs : List BlockRef) : Type 0 where
  pub task : IsTask c t
  pub count : length bs ≡ length t.source.blocks
  pub each : (i : ℕ) (b : BlockRef) → slice_get bs i ≡ Some b → (block : DialectBlock) × IsBlockAt c t i block b

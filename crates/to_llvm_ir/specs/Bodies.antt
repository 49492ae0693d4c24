-- The blocks of a function while they are filled.
use Rattle.std.specs.Prelude.{◌≡◌, ◌<◌, ◌^◌, ℕ, List, Some, length, slice_get}
use Rattle.llvm_core.specs.declared.numbers.LLVMFunction.{LLVMFunction}
use Rattle.llvm_core.specs.declared.numbers.LLVMType.{LLVMType}
use Rattle.llvm_core.specs.Module.{Module}
use Rattle.dialect_core.specs.declared.numbers.BlockRef.{BlockRef}
use Rattle.dialect_core.specs.ContextData.{ContextData}
use Rattle.dialect_core.specs.Data.{DialectOp, DialectBlock, Func}
use Rattle.to_llvm_ir.specs.declared.values.Values.{Values}
use Rattle.to_llvm_ir.specs.declared.blocks.Blocks.{Blocks}
use Rattle.to_llvm_ir.specs.Accepted.{IsAcceptedOp}
use Rattle.to_llvm_ir.specs.Opening.{HasParams, AreBlocks, IsOpening}
use Rattle.to_llvm_ir.specs.States.{Task, IsBlockAt, IsBetween, AreAllMapped, turn, first_at}

-- the block at a place is next, and its first value has that number
pub record IsBlockBegun (c : ContextData) (t : Task) (j : ℕ) (block : DialectBlock) (b : BlockRef) (first : ℕ) (f : LLVMFunction) (blocks : Blocks) (values : Values) (m : Module) : Type 0 where
  pub at : IsBlockAt c t j block b
  pub mapped : AreAllMapped t blocks
  pub params : j ≡ 0 → HasParams t block f m
  pub number : first ≡ first_at t.source j
  pub state : IsBetween t (turn t j) values m

-- the block's lists are short, and its operations are not refused
pub record IsBodyAccepted (order : List ℕ) (g : Func) (j : ℕ) (c : DialectBlock) : Type 0 where
  pub args : length c.args < 2 ^ 30
  pub few : length c.ops < 2 ^ 30
  pub ops : (i : ℕ) (o : DialectOp) → slice_get c.ops i ≡ Some o → IsAcceptedOp order g j i o

-- the blocks are there and empty
pub record IsBlocksBegun (c : ContextData) (t : Task) (bs : List BlockRef) (order : List ℕ) (f : LLVMFunction) (blocks : Blocks) (m : Module) : Type 0 where
  pub are : AreBlocks c t bs
  pub order_is : order ≡ t.numbers.order
  pub type : LLVMType
  pub opening : IsOpening t (length t.source.blocks) f type blocks m

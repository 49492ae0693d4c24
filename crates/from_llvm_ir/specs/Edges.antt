-- Edges of the dialect for those of a source function.
use Rattle.std.specs.Prelude.{◌≡◌, List, Some, IsSome, map}
use Rattle.llvm_core.specs.declared.numbers.LLVMBasicBlock.{LLVMBasicBlock}
use Rattle.llvm_core.specs.declared.numbers.LLVMFunction.{LLVMFunction}
use Rattle.llvm_core.specs.declared.code.LLVMValue.{LLVMValue}
use Rattle.llvm_core.specs.Module.{Module}
use Rattle.llvm_core.specs.Data as L
use Rattle.llvm_core.specs.Data.{trees_of, operand_of}
use Rattle.dialect_core.specs.declared.ops.Successor.{Successor}
use Rattle.from_llvm_ir.specs.declared.entries.Entries.{Entries}
use Rattle.from_llvm_ir.specs.declared.values.Values.{Values}
use Rattle.from_llvm_ir.specs.Imported.{IsIn, passed}
use Rattle.from_llvm_ir.specs.Source.{LeadsTo, IsUsed}
use Rattle.from_llvm_ir.specs.Values.{AreNoted, IsSettled, Targets, target_at}

-- the edge leads to what stands for a block, and passes what stands for what the edge to that block passes
pub record IsKnownEdge (m : Module) (g : L.Function) (values : Values) (targets : Targets) (from to : LLVMBasicBlock) (s : Successor) : Type 0 where
  pub leads : target_at targets to ≡ Some s.block
  pub taken : List LLVMValue
  pub passes : map (operand_of (trees_of m)) taken ≡ passed g from.0 to.0
  pub args : AreNoted values taken s.args

-- an edge leads from the one block to the other, which has its block of the dialect; what is passed is noted, but for
-- results of instructions
pub record IsReady (m : Module) (f : LLVMFunction) (g : L.Function) (values : Values) (targets : Targets) (entries : Entries) (from to : LLVMBasicBlock) : Type 0 where
  pub leads : LeadsTo m f g entries from to
  pub there : IsSome (target_at targets to)
  pub settled : (v : LLVMValue) → IsUsed m g v → IsIn (passed g from.0 to.0) (operand_of (trees_of m) v) → IsSettled m values v

-- The entries of phis while they are added, edge by edge.
use Rattle.std.specs.Prelude.{◌≡◌, ◌<◌, ◌+◌, ℕ, suc, List, Some, All, length, slice_get}
use Rattle.llvm_core.specs.declared.numbers.LLVMBasicBlock.{LLVMBasicBlock}
use Rattle.llvm_core.specs.Module.{Module}
use Rattle.llvm_core.specs.Data.{Operand, Placed, AllPlaced}
use Rattle.dialect_types.specs.Trees.{TypeTree}
use Rattle.dialect_core.specs.declared.numbers.OpRef.{OpRef}
use Rattle.dialect_core.specs.declared.numbers.BlockRef.{BlockRef}
use Rattle.dialect_core.specs.declared.ops.Value.{Value}
use Rattle.dialect_core.specs.declared.ops.Successor.{Successor}
use Rattle.dialect_core.specs.ContextData.{ContextData}
use Rattle.dialect_core.specs.Data.{DialectBlock, Func, value_type}
use Rattle.dialect_core.specs.Form.{IsFormFunc}
use Rattle.to_llvm_ir.specs.declared.values.Values.{Values}
use Rattle.to_llvm_ir.specs.declared.blocks.Blocks.{Blocks}
use Rattle.to_llvm_ir.specs.declared.blocks.Target.{Target}
use Rattle.to_llvm_ir.specs.Order.{IsTaken}
use Rattle.to_llvm_ir.specs.Made.{values_by}
use Rattle.to_llvm_ir.specs.States.{Task, Spot, IsSpot, IsBlockAt, IsArgument, IsLinking, AreAllMapped}

-- where an edge leads: behind the entry
pub record HasTarget (g : Func) (s : Successor) : Type 0 where
  pub place : ℕ
  pub block : DialectBlock
  pub here : slice_get g.blocks (suc place) ≡ Some block
  pub number : block.number ≡ s.block.0
  pub count : length s.args ≡ length block.args

-- the entries of the phi that stands for each argument
abbrev pub Given : Type 0
Given = Value → List (Operand × ℕ)

-- two edges to one block pass the same values
abbrev pub AreEqualEdges : List Successor → Type 0
AreEqualEdges ss = (i j : ℕ) (s t : Successor) → slice_get ss i ≡ Some s → slice_get ss j ≡ Some t → s.block ≡ t.block → s.args ≡ t.args

-- the value has a type
abbrev pub IsTypedValue : Func → Value → Type 0
IsTypedValue g v = (type : TypeTree) × (value_type g v ≡ Some type)

-- an argument that became a phi, and what it takes from a block
pub record IsEntryNext (t : Task) (argument value : Value) (from : LLVMBasicBlock) (given : Given) (known : Values) (m : Module) : Type 0 where
  pub form : IsFormFunc t.source
  pub order : IsTaken t.source t.numbers.order
  pub insts : AllPlaced (λ (p : Placed). p.number < t.numbers.inst) t.before
  pub place : ℕ
  pub at : slice_get (values_by t.numbers.order t.source) place ≡ Some argument
  pub is_argument : IsArgument argument
  pub typed : IsTypedValue t.source argument
  pub passes : IsTypedValue t.source value
  pub there : from.0 < length m.blocks
  pub state : IsLinking t given known m

-- an edge from a block, which passes as many values as its target has arguments
pub record IsEdgeNext (t : Task) (e : Successor) (from : LLVMBasicBlock) (given : Given) (known : Values) (m : Module) : Type 0 where
  pub form : IsFormFunc t.source
  pub order : IsTaken t.source t.numbers.order
  pub insts : AllPlaced (λ (p : Placed). p.number < t.numbers.inst) t.before
  pub target : HasTarget t.source e
  pub args : All (IsTypedValue t.source) e.args
  pub there : from.0 < length m.blocks
  pub state : IsLinking t given known m

-- an edge of the operation at a spot
pub record IsLinkedTo (c : ContextData) (op : OpRef) (s : Spot) (l : ℕ) (e : Successor) (from : LLVMBasicBlock) (blocks : Blocks) (given : Given) (known : Values) (m : Module) : Type 0 where
  pub spot : IsSpot c op s
  pub mapped : AreAllMapped s.task blocks
  pub at : slice_get s.op.successors l ≡ Some e
  pub here : from.0 ≡ s.task.numbers.block + s.place
  pub state : IsLinking s.task given known m

-- the operation at a spot
pub record IsOpLinked (c : ContextData) (op : OpRef) (s : Spot) (from : Target) (blocks : Blocks) (given : Given) (known : Values) (m : Module) : Type 0 where
  pub spot : IsSpot c op s
  pub mapped : AreAllMapped s.task blocks
  pub place_is : from.place ≡ s.place
  pub here : from.block.0 ≡ s.task.numbers.block + s.place
  pub state : IsLinking s.task given known m

-- a block of the function
pub record IsBlockLinked (c : ContextData) (t : Task) (j : ℕ) (block : DialectBlock) (b : BlockRef) (blocks : Blocks) (given : Given) (known : Values) (m : Module) : Type 0 where
  pub at : IsBlockAt c t j block b
  pub mapped : AreAllMapped t blocks
  pub state : IsLinking t given known m

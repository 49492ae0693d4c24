-- What an export has found of a function that it does not refuse.
use Rattle.std.specs.Prelude.{◌≡◌, ◌<◌, ◌^◌, ℕ, false, List, Some, All, length, slice_get}
use Rattle.kinds.specs.Names.{IsGoodOrNone}
use Rattle.dialect_core.specs.Data.{DialectOp, DialectBlock, Func}
use Rattle.dialect_core.specs.Form.{is_constant, uses_of, edges_of, FitsTarget, HasEqualEdges}
use Rattle.to_llvm_ir.specs.Order.{StandsBeforeIn}
use Rattle.to_llvm_ir.specs.Exported.{block_name, result_name}

-- what it uses stands before, the blocks taken in the order; its result can be named
pub record IsAcceptedOp (order : List ℕ) (g : Func) (block place : ℕ) (o : DialectOp) : Type 0 where
  pub uses : All (StandsBeforeIn order g block place) (uses_of o)
  pub named : is_constant o ≡ false → (k : ℕ) → k < 2 ^ 64 → IsGoodOrNone (result_name o.name o.result k)

pub record IsAcceptedBlock (order : List ℕ) (g : Func) (place : ℕ) (c : DialectBlock) : Type 0 where
  pub label : IsGoodOrNone (block_name c.label place)
  pub args : length c.args < 2 ^ 30
  pub few : length c.ops < 2 ^ 30
  pub ops : (i : ℕ) (o : DialectOp) → slice_get c.ops i ≡ Some o → IsAcceptedOp order g place i o

-- edges fit their targets, and those that lead to one block are equal
pub record AreAcceptedEdges (g : Func) (c : DialectBlock) : Type 0 where
  pub targets : All (FitsTarget g) (edges_of c)
  pub equal : HasEqualEdges c

pub record IsAccepted (order : List ℕ) (g : Func) : Type 0 where
  pub few : length g.blocks < 2 ^ 30
  pub blocks : (j : ℕ) (c : DialectBlock) → slice_get g.blocks j ≡ Some c → IsAcceptedBlock order g j c
  pub edges : (j : ℕ) (c : DialectBlock) → slice_get g.blocks j ≡ Some c → AreAcceptedEdges g c

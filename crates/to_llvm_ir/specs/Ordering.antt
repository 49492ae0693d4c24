-- How the order of an export is found: which values stand before, and where edges lead.
use Rattle.std.specs.Prelude.{◌≡◌, ◌<◌, ◌++◌, ℕ, Bool, true, List, Option, Some, is_some, All, length, map, take, slice_get}
use Rattle.std.specs.List.{filter_map}
use Rattle.support.specs.NumberMaps.{value_at}
use Rattle.dialect_types.specs.Trees.{type_trees}
use Rattle.dialect_core.specs.declared.numbers.OpRef.{OpRef}
use Rattle.dialect_core.specs.declared.numbers.BlockRef.{BlockRef}
use Rattle.dialect_core.specs.declared.ops.Value.{Value}
use Rattle.dialect_core.specs.ContextData.{ContextData}
use Rattle.dialect_core.specs.Data.{DialectOp, DialectBlock, Func, op_at, block_in}
use Rattle.dialect_core.specs.Form.{uses_of}
use Rattle.to_llvm_ir.specs.declared.order.Seen.{Seen}
use Rattle.to_llvm_ir.specs.declared.graph.Places.{Places}
use Rattle.to_llvm_ir.specs.RunMaps.{looked_up}
use Rattle.to_llvm_ir.specs.Order.{block_place}
use Rattle.to_llvm_ir.specs.Exported.{result}
use Rattle.to_llvm_ir.specs.States.{Has}

-- the operations among numbers of the context, in order
abbrev pub ops_of : ContextData → List OpRef → List DialectOp
ops_of c ops = filter_map (op_at (type_trees c.types) c.ops) ops

-- the block of a function at a place, by its number in the context
pub record IsBlockOf (c : ContextData) (g : Func) (j : ℕ) (block : DialectBlock) (b : BlockRef) : Type 0 where
  pub here : slice_get g.blocks j ≡ Some block
  pub is : block_in (type_trees c.types) c b ≡ Some block

-- the blocks of a function, by their numbers: there is one, and no two have one number
pub record AreBlocksOf (c : ContextData) (g : Func) (bs : List BlockRef) : Type 0 where
  pub some : 0 < length g.blocks
  pub apart : (i j : ℕ) (a b : DialectBlock) → slice_get g.blocks i ≡ Some a → slice_get g.blocks j ≡ Some b → a.number ≡ b.number → i ≡ j
  pub count : length bs ≡ length g.blocks
  pub each : (i : ℕ) (b : BlockRef) → slice_get bs i ≡ Some b → (block : DialectBlock) × IsBlockOf c g i block b

-- ---- values that stand before

-- whether a value is noted
abbrev pub is_seen : Seen → Value → Bool
is_seen seen v = is_some (looked_up seen.values v)

-- the values of a list, and no others, are noted
abbrev pub AreSeen : Seen → List Value → Type 0
AreSeen seen vs = (v : Value) → (is_seen seen v ≡ true → Has vs v) × (Has vs v → is_seen seen v ≡ true)

-- the value is one of the list, or the result of one of the first k operations
abbrev pub IsAmong : List Value → List DialectOp → ℕ → Value → Type 0
IsAmong vs os k v = Has (vs ++ map result (take k os)) v

-- each of the operations uses only values of the list and results of operations before
abbrev pub HasUsesAmong : List Value → List DialectOp → Type 0
HasUsesAmong vs os = (k : ℕ) (o : DialectOp) → slice_get os k ≡ Some o → All (IsAmong vs os k) (uses_of o)

-- ---- places

-- the place that is noted for a block
abbrev pub noted_place : Places → BlockRef → Option ℕ
noted_place places b = value_at places.map b.0

-- the blocks of the function have their places, and no others have one
abbrev pub ArePlacesOf : Func → Places → Type 0
ArePlacesOf g places = (b : BlockRef) → noted_place places b ≡ block_place g b.0

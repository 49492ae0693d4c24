-- The numbers that were noted, as functions of values and blocks.
use Rattle.std.specs.Prelude.{◌≡◌, ℕ, List, [], ◌∷◌, Option}
use Rattle.std.specs.Map.{lookup}
use Rattle.support.specs.Options.{or_else}
use Rattle.support.specs.NumberMaps.{value_at as number_at}
use Rattle.dialect_types.specs.Trees.{type_trees}
use Rattle.dialect_core.specs.declared.numbers.OpRef.{OpRef}
use Rattle.dialect_core.specs.declared.numbers.BlockRef.{BlockRef}
use Rattle.dialect_core.specs.declared.ops.Value.{Value}
use Rattle.dialect_core.specs.declared.numbering.Numbering.{Numbering}
use Rattle.dialect_core.specs.ContextData.{ContextData}
use Rattle.dialect_core.specs.Data.{DialectOp, Func, op_at, block_in, func_in}
use Rattle.dialect_core.specs.Text.{same_value, same_block, option_items, result_of, block_values, func_values, func_blocks, numbered_from}
use Rattle.dialect_core.specs.ValueMaps.{mapped}

-- the number of a value
abbrev pub value_at : Numbering → Value → Option ℕ
value_at n v = mapped n.values v

-- the number of a block
abbrev pub block_at : Numbering → BlockRef → Option ℕ
block_at n b = number_at n.blocks b.0

-- the values and blocks of the lists have their numbers there, where they had none before; all others are as before
pub record Numbered (old new : Numbering) (vs : List (Value × ℕ)) (bs : List (BlockRef × ℕ)) : Type 0 where
  pub values : (q : Value) → value_at new q ≡ or_else (value_at old q) (lookup (same_value q) vs)
  pub blocks : (q : BlockRef) → block_at new q ≡ or_else (block_at old q) (lookup (same_block q) bs)

-- the values that an operation or a block of this number adds to its function's
abbrev pub op_values : ContextData → OpRef → List Value
op_values c o = option_items (λ (x : DialectOp). option_items (λ (v : Value). v ∷ []) (result_of x)) (op_at (type_trees c.types) c.ops o)

abbrev pub values_of_block : ContextData → BlockRef → List Value
values_of_block c b = option_items block_values (block_in (type_trees c.types) c b)

-- the values and blocks of a function, numbered
abbrev pub values_of_func : ContextData → OpRef → List (Value × ℕ)
values_of_func c o = option_items (λ (f : Func). numbered_from 0 (func_values f)) (func_in (type_trees c.types) c o)

abbrev pub blocks_of_func : ContextData → OpRef → List (BlockRef × ℕ)
blocks_of_func c o = option_items (λ (f : Func). numbered_from 0 (func_blocks f)) (func_in (type_trees c.types) c o)

-- The order in which an export takes the blocks of a function.
use Rattle.std.specs.Prelude.{◌≡◌, ◌⊎◌, ℕ, nat_eq, List, Option, Some, length, map, slice_get}
use Rattle.std.specs.List.{filter_map, position_from, position_or_len, range_with_len}
use Rattle.block_order.specs.Order.{IsOrder}
use Rattle.block_order.specs.DepthFirst.{IsDepthFirst}
use Rattle.dialect_core.specs.declared.ops.Value.{Value}
use Rattle.dialect_core.specs.declared.ops.Successor.{Successor}
use Rattle.dialect_core.specs.Data.{DialectBlock, Func}
use Rattle.dialect_core.specs.Form.{StandsBefore, IsInOrder, edges_of}

-- ---- the graph of a function

-- the place of the block of a number, where the function has one
abbrev pub block_place : Func → ℕ → Option ℕ
block_place g n = position_from (λ (b : DialectBlock). nat_eq b.number n) 0 g.blocks

-- the places that the edges of a block lead to, in order; an edge that leads to no block of the function adds none
abbrev pub targets_of : Func → DialectBlock → List ℕ
targets_of g b = filter_map (λ (s : Successor). block_place g s.block.0) (edges_of b)

-- for each block, in order, the places of the blocks that it leads to
abbrev pub graph_of : Func → List (List ℕ)
graph_of g = map (targets_of g) g.blocks

-- ---- blocks in an order of their places

-- the function with its blocks in the order
abbrev pub arranged : List ℕ → Func → Func
arranged order g = record g { blocks = filter_map (slice_get g.blocks) order }

-- where the order names a place
abbrev pub turn_of : List ℕ → ℕ → ℕ
turn_of order p = position_or_len (nat_eq p) order

-- the value stands before the operation at a place of the block at a place, the blocks taken in the order
abbrev pub StandsBeforeIn : List ℕ → Func → (block place : ℕ) → Value → Type 0
StandsBeforeIn order g block place v = StandsBefore (arranged order g) (turn_of order block) place v

-- ---- the order of an export

-- the dialect's order where each value stands before its uses in it, else depth first
abbrev pub IsExportOrder : Func → List ℕ → Type 0
IsExportOrder g order = (IsInOrder g × (order ≡ range_with_len 0 (length g.blocks))) ⊎ (¬ IsInOrder g × IsDepthFirst (graph_of g) order)

-- such an order, which names each place once, that of the entry first
pub record IsTaken (g : Func) (order : List ℕ) : Type 0 where
  pub is : IsExportOrder g order
  pub once : IsOrder (length g.blocks) order
  pub entry_first : slice_get order 0 ≡ Some 0

-- An order of a function's blocks, and the place that it gives each.
use Rattle.std.specs.Prelude.{ℕ, ◌≡◌, ◌<◌, List, Some, length, slice_get}
use Rattle.std.specs.List.{filter_map}
use Rattle.llvm_core.specs.Data as L
use Rattle.block_order.specs.DepthFirst.{IsDepthFirst}
use Rattle.block_order.specs.Order.{IsOrder, HasReachedFirst, HasPassedBefore}

-- each block has the place where the order names it
abbrev pub IsInverse : (order places : List ℕ) → Type 0
IsInverse order places = (j i : ℕ) → slice_get order j ≡ Some i → slice_get places i ≡ Some j

-- the blocks in an order
abbrev pub ordered : List ℕ → List L.Block → List L.Block
ordered order blocks = filter_map (slice_get blocks) order

-- the depth-first order of the nodes of a graph, and what is known of it
pub record IsRpo (graph : List (List ℕ)) (order : List ℕ) : Type 0 where
  pub depth_first : IsDepthFirst graph order
  pub once : IsOrder (length graph) order
  pub first : 0 < length graph → slice_get order 0 ≡ Some 0
  pub reached : HasReachedFirst graph order
  pub passed : HasPassedBefore graph order

-- The depth-first order of a function's blocks, as it is made.
use Rattle.std.proofs.Common.{ℕ, ◌≡◌, ◌<◌, sym, subst, List, Some, length, slice_get}
use Rattle.llvm_core.specs.Form as LF
use Rattle.llvm_core.specs.Data as L
use Rattle.block_order.specs.DepthFirst.{IsDepthFirst}
use Rattle.block_order.specs.Order.{IsOrder, HasReachedFirst, HasPassedBefore}
use Rattle.from_llvm_ir.specs.Match.{IsPlaces}
use Rattle.from_llvm_ir.specs.Order.{IsRpo}
use Rattle.from_llvm_ir.specs.Walks.{graph_of}
use Rattle.from_llvm_ir.proofs.GraphLaws.{length-graph}
use Rattle.from_llvm_ir.proofs.UndefinedLaws.{order_places}

-- of a graph that is that of a function
pub is_rpo : (g : L.Function) (graph : List (List ℕ)) (made order : List ℕ) → graph ≡ graph_of g → order ≡ made → IsDepthFirst graph made → IsOrder (length graph) made → (0 < length graph → slice_get made 0 ≡ Some 0) → HasReachedFirst graph made → HasPassedBefore graph made → IsRpo (graph_of g) order
is_rpo g graph made order same read depth_first once first reached passed =
    subst (λ (n : List (List ℕ)). IsRpo n order) same (subst (IsRpo graph) (sym read) (record { depth_first = depth_first; once = once; first = first; reached = reached; passed = passed }))

pub rpo_places : (g : L.Function) (order : List ℕ) → LF.IsFormFunction g → IsRpo (graph_of g) order → IsPlaces (length g.blocks) order
rpo_places g order form h = order_places (length (graph_of g)) (length g.blocks) order h.once (length-graph g form) h.first

-- as many as it has
pub places_counted : (n : ℕ) (order : List ℕ) → IsPlaces n order → IsPlaces (length order) order
places_counted n order h = subst (λ (k : ℕ). IsPlaces k order) (sym h.count) h

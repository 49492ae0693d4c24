-- What the loop of `order::push_row` keeps.
use Rattle.std.proofs.Common.{◌≡◌, map, take}
use Rattle.std.specs.List.{flat_map}
use Rattle.llvm_core.specs.declared.numbers.LLVMFunction.{LLVMFunction}
use Rattle.llvm_core.specs.Data.{Block, Function, Placed, targets}
use Rattle.from_llvm_ir.specs.Graph.{ArePlacesOf, IsBlockIn}
use Rattle.from_llvm_ir.specs.Walks.{place_of_block}
use Rattle.from_llvm_ir.proofs.order.push_row.Given as goal

abbrev pub invariant-loop-i : goal.invariant-loop-i
invariant-loop-i l = (f : LLVMFunction) → (g : Function) → (b : Block) → IsBlockIn l.source f g l.fn.block b → ArePlacesOf g l.places
    → l.row.items ≡ map (place_of_block g) (flat_map (λ (p : Placed). targets p.instruction) (take l.i-index b.instructions))

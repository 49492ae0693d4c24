-- What the loop of `order::push_targets` keeps.
use Rattle.std.proofs.Common.{◌≡◌, ◌++◌, map, take}
use Rattle.llvm_core.specs.declared.numbers.LLVMFunction.{LLVMFunction}
use Rattle.llvm_core.specs.declared.numbers.LLVMBasicBlock.{LLVMBasicBlock}
use Rattle.llvm_core.specs.Data.{Block, Function, Placed, targets}
use Rattle.from_llvm_ir.specs.Graph.{ArePlacesOf, IsInstIn}
use Rattle.from_llvm_ir.specs.Walks.{place_of_block}
use Rattle.from_llvm_ir.proofs.order.push_targets.Given as goal

abbrev pub invariant-loop-target : goal.invariant-loop-target
invariant-loop-target l = (f : LLVMFunction) → (g : Function) → (n : LLVMBasicBlock) → (b : Block) → (p : Placed) → IsInstIn l.source f g n b l.fn.i p → ArePlacesOf g l.places
    → l.row.items ≡ l.fn.row.items ++ map (place_of_block g) (take l.target-index (targets p.instruction))

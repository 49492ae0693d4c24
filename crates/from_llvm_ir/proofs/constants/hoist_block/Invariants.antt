-- What the loop of `constants::hoist_block` keeps.
use Rattle.std.proofs.Common.{◌≤◌, ℕ, ◌≡◌, ◌++◌, not, List, filter, take}
use Rattle.std.specs.List.{flat_map}
use Rattle.llvm_core.specs.declared.numbers.LLVMFunction.{LLVMFunction}
use Rattle.llvm_core.specs.Data.{Block, ConstTree, Function, Placed, data_of}
use Rattle.llvm_core.specs.Form.{is_phi}
use Rattle.from_llvm_ir.specs.Imported.{constants_in}
use Rattle.from_llvm_ir.specs.Source.{IsSource, IsBlockOf, AreEntries}
use Rattle.from_llvm_ir.specs.Known.{Frame}
use Rattle.from_llvm_ir.specs.Body.{IsHoisting}
use Rattle.from_llvm_ir.specs.Keeping.{Keeps}
use Rattle.from_llvm_ir.proofs.constants.hoist_block.Given as goal

abbrev pub invariant-loop-i : goal.invariant-loop-i
invariant-loop-i g l = record {
  hoisting : (f : LLVMFunction) → (h : Function) → (place : ℕ) → (b : Block) → IsSource l.source f h → AreEntries l.source h l.entries → IsBlockOf l.source h l.from place b → (fr : Frame) → (uses : List ConstTree) → IsHoisting fr l.source l.fn.ctx l.fn.values uses → l.block.0 ≡ fr.base
      → IsHoisting fr l.source l.ctx l.values (uses ++ flat_map (constants_in (data_of l.source) h b) (filter (λ (p : Placed). not (is_phi p)) (take l.i-index b.instructions)));
  kept : (n b : ℕ) → b ≤ l.block.0 → Keeps n b l.fn.ctx l.ctx;
}

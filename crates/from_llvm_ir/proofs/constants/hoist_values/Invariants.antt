-- What the loop of `constants::hoist_values` keeps.
use Rattle.std.proofs.Common.{ℕ, ◌≤◌, ◌≡◌, ◌++◌, List, map, take}
use Rattle.std.specs.List.{filter_map}
use Rattle.llvm_core.specs.Data.{ConstTree, trees_of, operand_of}
use Rattle.from_llvm_ir.specs.Imported.{constant_in}
use Rattle.from_llvm_ir.specs.Known.{Frame}
use Rattle.from_llvm_ir.specs.Body.{IsHoisting}
use Rattle.from_llvm_ir.specs.Keeping.{Keeps}
use Rattle.from_llvm_ir.proofs.constants.hoist_values.Given as goal

abbrev pub invariant-loop-operand : goal.invariant-loop-operand
invariant-loop-operand g l = record {
  hoisting : (fr : Frame) → (uses : List ConstTree) → IsHoisting fr l.source l.fn.ctx l.fn.values uses → l.block.0 ≡ fr.base
      → IsHoisting fr l.source l.ctx l.values (uses ++ filter_map constant_in (map (operand_of (trees_of l.source)) (take l.operand-index l.operands)));
  kept : (n b : ℕ) → b ≤ l.block.0 → Keeps n b l.fn.ctx l.ctx;
}

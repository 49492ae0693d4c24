-- What the loop of `constants::hoist_constants` keeps.
use Rattle.std.proofs.Common.{ℕ, ◌≤◌, ◌≡◌, [], take}
use Rattle.std.specs.List.{flat_map}
use Rattle.llvm_core.specs.Data.{Block, data_of}
use Rattle.from_llvm_ir.specs.Imported.{constants_in, rest_of}
use Rattle.from_llvm_ir.specs.Source.{AreEntries}
use Rattle.from_llvm_ir.specs.Known.{Frame, blocks_of}
use Rattle.from_llvm_ir.specs.Body.{IsFramed, IsHoisting}
use Rattle.from_llvm_ir.specs.Keeping.{Keeps}
use Rattle.from_llvm_ir.proofs.constants.hoist_constants.Given as goal

abbrev pub invariant-loop-place : goal.invariant-loop-place
invariant-loop-place g l = record {
  hoisting : (fr : Frame) → IsFramed l.source l.fn.f fr → fr.order ≡ l.order → AreEntries l.source fr.source l.entries → IsHoisting fr l.source l.fn.ctx l.fn.values [] → l.block.0 ≡ fr.base
      → IsHoisting fr l.source l.ctx l.values (flat_map (λ (b : Block). flat_map (constants_in (data_of l.source) fr.source b) (rest_of b)) (take l.place-index (blocks_of fr)));
  kept : (n b : ℕ) → b ≤ l.block.0 → Keeps n b l.fn.ctx l.ctx;
}

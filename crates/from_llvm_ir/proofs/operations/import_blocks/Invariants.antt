-- What the loop of `operations::import_blocks` keeps.
use Rattle.std.proofs.Common.{ℕ, ◌≡◌, ◌≤◌}
use Rattle.dialect_types.specs.Legalised.{GoesOn}
use Rattle.from_llvm_ir.specs.Source.{AreEntries}
use Rattle.from_llvm_ir.specs.Known.{Frame}
use Rattle.from_llvm_ir.specs.Body.{AreTargets, IsFilled, IsFramed}
use Rattle.from_llvm_ir.specs.Keeping.{Keeps}
use Rattle.from_llvm_ir.proofs.operations.import_blocks.Given as goal

abbrev pub invariant-loop-place : goal.invariant-loop-place
invariant-loop-place g l = record {
  filled : (fr : Frame) → IsFramed l.source l.fn.f fr → fr.order ≡ l.order → AreTargets fr l.targets → AreEntries l.source fr.source l.entries → IsFilled fr l.source l.fn.ctx l.fn.values 0 → GoesOn l.names fr.given → IsFilled fr l.source l.ctx l.values l.place-index;
  grown : GoesOn l.fn.names l.names;
  kept : (fr : Frame) → IsFramed l.source l.fn.f fr → fr.order ≡ l.order → AreTargets fr l.targets → (n b : ℕ) → b ≤ fr.base → Keeps n b l.fn.ctx l.ctx;
}

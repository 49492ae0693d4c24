-- What the loop of `functions::add_blocks` keeps.
use Rattle.std.proofs.Common.{ℕ, ◌≡◌, ◌≤◌, length}
use Rattle.dialect_types.specs.Legalised.{GoesOn}
use Rattle.from_llvm_ir.specs.Known.{Frame}
use Rattle.from_llvm_ir.specs.Body.{HasHeads, IsFramed}
use Rattle.from_llvm_ir.proofs.StartLaws.{AreTargetsTo}
use Rattle.from_llvm_ir.specs.Keeping.{Keeps}
use Rattle.from_llvm_ir.proofs.functions.add_blocks.Given as goal

abbrev pub invariant-loop-j : goal.invariant-loop-j
invariant-loop-j l = record {
  behind : 1 ≤ l.j;
  within : l.j ≤ length l.order;
  heads : (fr : Frame) → IsFramed l.source l.fn.f fr → fr.order ≡ l.order → HasHeads fr l.func l.fn.ctx 0 → GoesOn l.names fr.given → HasHeads fr l.func l.ctx l.j;
  grown : GoesOn l.fn.names l.names;
  kept : (n b : ℕ) → n ≤ l.func.0.0 → Keeps n b l.fn.ctx l.ctx;
  targets : (fr : Frame) → IsFramed l.source l.fn.f fr → fr.order ≡ l.order → HasHeads fr l.func l.fn.ctx 0 → GoesOn l.names fr.given → AreTargetsTo fr l.targets l.j;
}

-- What the loop of `operations::import_insts` keeps.
use Rattle.std.proofs.Common.{ℕ, ◌≤◌}
use Rattle.llvm_core.specs.declared.numbers.LLVMFunction.{LLVMFunction}
use Rattle.llvm_core.specs.Data.{Block}
use Rattle.dialect_types.specs.Legalised.{GoesOn}
use Rattle.from_llvm_ir.specs.Known.{Frame}
use Rattle.from_llvm_ir.specs.Body.{IsBegun, IsBody}
use Rattle.from_llvm_ir.specs.Keeping.{Keeps}
use Rattle.from_llvm_ir.proofs.operations.import_insts.Given as goal

abbrev pub invariant-loop-place : goal.invariant-loop-place
invariant-loop-place g l = record {
  body : (fr : Frame) → (f : LLVMFunction) → (j : ℕ) → (b : Block) → IsBegun fr l.source f l.targets l.entries l.fn.ctx l.fn.values l.from l.block j b → GoesOn l.names fr.given → IsBody fr l.source l.ctx l.values j l.place b;
  grown : GoesOn l.fn.names l.names;
  kept : (n b : ℕ) → b ≤ l.block.0 → Keeps n b l.fn.ctx l.ctx;
}

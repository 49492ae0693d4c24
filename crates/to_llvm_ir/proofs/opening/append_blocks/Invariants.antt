-- The blocks so far are there, under names that the form takes.
use Rattle.std.proofs.Common.{◌≡◌, ◌<◌, ℕ, Some, slice_get}
use Rattle.llvm_core.specs.declared.numbers.LLVMType.{LLVMType}
use Rattle.kinds.specs.Names.{IsGoodOrNone}
use Rattle.dialect_core.specs.Data.{DialectBlock}
use Rattle.to_llvm_ir.specs.Exported.{block_name}
use Rattle.to_llvm_ir.specs.Opening.{AreBlocks, IsDeclared, IsOpening}
use Rattle.to_llvm_ir.specs.States.{Task}
use Rattle.to_llvm_ir.proofs.opening.append_blocks.Given as goal

abbrev pub invariant-loop-i : goal.invariant-loop-i
invariant-loop-i l = record {
  ok : (t : Task) (ty : LLVMType) → AreBlocks l.ctx t l.list → IsDeclared t l.f ty l.fn.back → IsOpening t l.i l.f ty l.blocks l.back;
  labelled : (t : Task) → AreBlocks l.ctx t l.list → (j : ℕ) (c : DialectBlock) → j < l.i → slice_get t.source.blocks j ≡ Some c → IsGoodOrNone (block_name c.label j);
}

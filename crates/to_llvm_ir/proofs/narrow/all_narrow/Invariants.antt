-- What the loop of `narrow::all_narrow` keeps.
use Rattle.std.proofs.Common.{ℕ, ◌<◌, get_or}
use Rattle.dialect_core.specs.declared.numbers.BlockRef.{BlockRef}
use Rattle.to_llvm_ir.specs.Narrow.{IsNarrowBlockAt}
use Rattle.to_llvm_ir.proofs.narrow.all_narrow.Given as goal

abbrev pub invariant-loop-block : goal.invariant-loop-block
invariant-loop-block l = (k : ℕ) (d : BlockRef) → k < l.block-index → IsNarrowBlockAt l.ctx (get_or l.blocks k d)

-- What the loop of `few::blocks_have_few` keeps.
use Rattle.std.proofs.Common.{ℕ, ◌<◌, get_or}
use Rattle.dialect_core.specs.declared.numbers.BlockRef.{BlockRef}
use Rattle.dialect_core.specs.WellFormed.{IsFewBlock}
use Rattle.dialect_core.proofs.few.blocks_have_few.Given as goal

abbrev pub invariant-loop-block : goal.invariant-loop-block
invariant-loop-block l = (k : ℕ) (d : BlockRef) → k < l.block-index → IsFewBlock l.ctx (get_or l.blocks k d)

-- What the loop of `well_formed::blocks_fit` keeps.
use Rattle.std.proofs.Common.{ℕ, ◌<◌, get_or}
use Rattle.dialect_core.specs.declared.numbers.BlockRef.{BlockRef}
use Rattle.dialect_core.specs.Checking.{IsBlockAt, func_at}
use Rattle.dialect_core.proofs.well_formed.blocks_fit.Given as goal

abbrev pub invariant-loop-block : goal.invariant-loop-block
invariant-loop-block l = (k : ℕ) (d : BlockRef) → k < l.block-index → IsBlockAt l.ctx (func_at l.ctx l.fn.func) (get_or l.blocks k d)

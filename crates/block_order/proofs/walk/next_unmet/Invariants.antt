-- The targets before this place are met.
use Rattle.std.proofs.Common.{◌<◌, ◌≤◌, ℕ, slice_index}
use Rattle.block_order.specs.Marks.{IsMet}
use Rattle.block_order.proofs.walk.next_unmet.Given as goal

abbrev pub invariant-loop-place : goal.invariant-loop-place
invariant-loop-place l = (k : ℕ) → l.from ≤ k → k < l.place → IsMet l.met (slice_index l.targets k)

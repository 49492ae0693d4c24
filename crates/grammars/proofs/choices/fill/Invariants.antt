-- The alternatives behind are written.
use Rattle.std.proofs.Common.{◌≡◌, ◌<◌, ◌≤◌, ◌+◌, ℕ, suc, length, drop, slice_index_or}
use Rattle.grammars.specs.Lines.{begun}
use Rattle.grammars.proofs.choices.fill.Given as goal

abbrev pub invariant-loop-left : goal.invariant-loop-left
invariant-loop-left l = (l.left ≤ length l.alternatives) × (length l.line ≡ length l.initial.line) × ((c : ℕ) → c < length l.initial.line → slice_index_or l.line c 0 ≡ begun l.firsts (drop l.left l.alternatives) (suc (l.start + l.left)) c (slice_index_or l.initial.line c 0))

abbrev pub decreases-loop-left : goal.decreases-loop-left
decreases-loop-left l = l.left

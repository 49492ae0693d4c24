-- What was counted, and what is left.
use Rattle.std.proofs.Common.{◌≡◌, ◌≤◌, ◌+◌, length}
use Rattle.ll_values.specs.Lists.{list_at}
use Rattle.ll_values.proofs.lists.Lists.count.Given as goal

abbrev pub invariant-loop-rest : goal.invariant-loop-rest
invariant-loop-rest g l = (l.next ≤ length l.self) × (l.count + l.next ≤ l.n) × (l.count + length (list_at l.self l.next) ≡ length (list_at l.self l.n))

abbrev pub decreases-loop-rest : goal.decreases-loop-rest
decreases-loop-rest g l = l.next

-- The values on the stack are those of the events behind.
use Rattle.std.proofs.Common.{◌≡◌, ◌≤◌, ◌-◌, Some, drop, length}
use Rattle.ll_values.specs.Stack.{over, IsStanding, fold_of}
use Rattle.ll_values.specs.Growing.{Interns}
use Rattle.ll_values.proofs.fold.fold.Given as goal

abbrev pub invariant-loop-done : goal.invariant-loop-done
invariant-loop-done l =
    (l.done ≤ length l.events) × IsStanding l.m l.store l.stack × Interns l.fn.m l.m × (fold_of l.source (drop (length l.events - l.done) l.events) ≡ Some (over l.source l.m l.store l.stack))

abbrev pub decreases-loop-done : goal.decreases-loop-done
decreases-loop-done l = length l.events - l.done

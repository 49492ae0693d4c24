-- What was found stands before what the rest of the list says.
use Rattle.std.proofs.Common.{◌≤◌, ◌∷◌, length, All}
use Rattle.ll_lines.specs.declared.lines.Incoming as code
use Rattle.ll_lines.specs.Views.{IsSaidIn}
use Rattle.llvm_core.specs.Data.{trees_of}
use Rattle.ll_values.specs.Views.{made_in, entry_view, entries_at, IsStoreIn}
use Rattle.ll_values.specs.Growing.{Interns, Keeps}
use Rattle.ll_values.proofs.PhiLaws.{Continues}
use Rattle.ll_values.proofs.typed.entries.Given as goal

abbrev pub invariant-loop-entry : goal.invariant-loop-entry
invariant-loop-entry l =
    (l.next ≤ length l.fn.store.entries) × Interns l.fn.m l.m × IsStoreIn l.m l.store × Keeps l.fn.store l.store × All (λ (e : code.Incoming). IsSaidIn l.m (made_in l.store) e.said) l.found
    × Continues l.bytes l.fn.m l.m l.fn.store l.store l.ty (entry_view l.bytes (trees_of l.fn.m) l.fn.store l.fn.first ∷ entries_at l.bytes (trees_of l.fn.m) l.fn.store l.rest) l.next l.found

abbrev pub decreases-loop-entry : goal.decreases-loop-entry
decreases-loop-entry l = l.next

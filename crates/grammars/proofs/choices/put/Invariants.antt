-- The classes that were passed are written.
use Rattle.std.proofs.Common.{◌≡◌, ◌<◌, ℕ, length, take, slice_index_or, if◌then◌else◌}
use Rattle.grammars.specs.Rows.{has}
use Rattle.grammars.proofs.choices.put.Given as goal

abbrev pub invariant-loop-class : goal.invariant-loop-class
invariant-loop-class l = (length l.line ≡ length l.initial.line) × ((c : ℕ) → c < length l.initial.line → slice_index_or l.line c 0 ≡ (if has (take l.class-index l.classes) c then l.number else slice_index_or l.initial.line c 0))

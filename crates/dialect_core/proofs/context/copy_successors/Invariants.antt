-- What the loop of `context::copy_successors` keeps.
use Rattle.std.proofs.Common.{◌≡◌, take}
use Rattle.dialect_core.proofs.context.copy_successors.Given as goal

abbrev pub invariant-loop-s : goal.invariant-loop-s
invariant-loop-s l = l.copies ≡ take l.s-index l.successors

-- What the loop of `lacks::used_lack` keeps.
use Rattle.std.proofs.Common.{ℕ, ◌<◌}
use Rattle.held_types.specs.Lacks.{UsesHeld}
use Rattle.held_types.proofs.lacks.used_lack.Given as goal

abbrev pub invariant-loop-i : goal.invariant-loop-i
invariant-loop-i l = (k : ℕ) → k < l.i → UsesHeld l.m k

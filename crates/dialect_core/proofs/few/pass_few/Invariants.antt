-- What the loop of `few::pass_few` keeps.
use Rattle.std.proofs.Common.{ℕ, ◌<◌, get_or}
use Rattle.dialect_core.specs.declared.ops.Successor.{Successor}
use Rattle.dialect_core.specs.WellFormed.{IsFew}
use Rattle.dialect_core.proofs.few.pass_few.Given as goal

abbrev pub invariant-loop-edge : goal.invariant-loop-edge
invariant-loop-edge l = (k : ℕ) (d : Successor) → k < l.edge-index → IsFew (get_or l.edges k d).args

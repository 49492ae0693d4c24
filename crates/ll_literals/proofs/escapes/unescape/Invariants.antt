use Rattle.std.proofs.Common.{◌≡◌, ◌++◌, length}
use Rattle.ll_literals.specs.Escapes.{unescaped}
use Rattle.ll_literals.proofs.escapes.unescape.Given as goal

abbrev pub invariant-loop-b : goal.invariant-loop-b
invariant-loop-b l = l.out.items ++ unescaped l.left ≡ l.fn.out.items ++ unescaped l.inside

abbrev pub decreases-loop-b : goal.decreases-loop-b
decreases-loop-b l = length l.left

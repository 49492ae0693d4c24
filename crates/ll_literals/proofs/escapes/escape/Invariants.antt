use Rattle.std.proofs.Common.{◌≡◌, ◌++◌, take}
use Rattle.ll_literals.specs.Escapes.{escaped}
use Rattle.ll_literals.proofs.escapes.escape.Given as goal

abbrev pub invariant-loop-b : goal.invariant-loop-b
invariant-loop-b l = l.out.items ≡ l.fn.out.items ++ escaped (take l.b-index l.bytes)

-- What the loop of `lacks::operand_lack` keeps.
use Rattle.std.proofs.Common.{All, take}
use Rattle.held_types.specs.Lacks.{LacksNone}
use Rattle.held_types.proofs.lacks.operand_lack.Given as goal

abbrev pub invariant-loop-value : goal.invariant-loop-value
invariant-loop-value l = All (LacksNone l.m) (take l.value-index l.values)

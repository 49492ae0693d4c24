-- What the loop of `constants::walk_operands` keeps.
use Rattle.std.proofs.Common.{take}
use Rattle.held_types.specs.Values.{IsInConstant}
use Rattle.held_types.specs.Walk.{IsOfOne, Walked}
use Rattle.held_types.proofs.constants.walk_operands.Given as goal

abbrev pub invariant-loop-value : goal.invariant-loop-value
invariant-loop-value l = Walked l.m (IsOfOne (IsInConstant l.m) (take l.value-index l.values)) l.fn.walk l.walk

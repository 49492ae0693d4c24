-- What the loop of `names::finds_twice_in_few` keeps.
use Rattle.std.proofs.Common.{take}
use Rattle.llvm_core.specs.Names.{texts, HasTwice}
use Rattle.llvm_core.proofs.names.finds_twice_in_few.Given as goal

abbrev pub invariant-loop-place : goal.invariant-loop-place
invariant-loop-place l = ¬ HasTwice (take l.place (texts l.names))

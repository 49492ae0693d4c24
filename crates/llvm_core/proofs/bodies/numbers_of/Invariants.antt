-- What the loop of `bodies::numbers_of` keeps: a number for each instruction that it went over.
use Rattle.std.proofs.Common.{◌≡◌, ◌<◌, ◌+◌, ◌^◌, take}
use Rattle.llvm_core.specs.Bodies.{inst_numbers}
use Rattle.llvm_core.proofs.bodies.numbers_of.Given as goal

abbrev pub invariant-loop-inst : goal.invariant-loop-inst
invariant-loop-inst l =
    (l.next < 2 ^ 32)
    × (l.next ≡ l.fn.first + l._inst-index)
    × (l.numbers ≡ inst_numbers l.fn.first (take l._inst-index l.fn.insts))

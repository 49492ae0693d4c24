-- What the loop of `bodies::place` keeps: what stands before the index is in the block, and what stands from there on is as it was.
use Rattle.std.proofs.Common.{◌≡◌, ◌++◌, map, take, drop}
use Rattle.llvm_core.specs.Bodies.{inst_in}
use Rattle.llvm_core.proofs.bodies.place.Given as goal

abbrev pub invariant-loop-inst : goal.invariant-loop-inst
invariant-loop-inst l = l.insts ≡ map (inst_in l.block.0) (take l.inst-index l.initial.insts) ++ drop l.inst-index l.initial.insts

-- The operations so far use only what is the function's.
use Rattle.std.proofs.Common.{All, take}
use Rattle.to_llvm_ir.specs.Own.{UsesHeld}
use Rattle.to_llvm_ir.proofs.own.foreign_in.Given as goal

abbrev pub invariant-loop-op : goal.invariant-loop-op
invariant-loop-op l = All (UsesHeld l.ctx l.fn.func) (take l.op-index l.ops)

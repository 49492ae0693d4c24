-- The values so far are the function's.
use Rattle.std.proofs.Common.{All, take}
use Rattle.to_llvm_ir.specs.Own.{IsHeldBy}
use Rattle.to_llvm_ir.proofs.own.foreign_among.Given as goal

abbrev pub invariant-loop-value : goal.invariant-loop-value
invariant-loop-value l = All (IsHeldBy l.ctx l.fn.func) (take l.value-index l.values)

-- What the loop of `values::known_each` keeps.
use Rattle.std.proofs.Common.{take}
use Rattle.from_llvm_ir.specs.Values.{AreNoted}
use Rattle.from_llvm_ir.proofs.values.known_each.Given as goal

abbrev pub invariant-loop-value : goal.invariant-loop-value
invariant-loop-value l = AreNoted l.values (take l.value-index l.used) l.known

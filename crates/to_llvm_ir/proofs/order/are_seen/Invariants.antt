-- The values so far are noted.
use Rattle.std.proofs.Common.{◌≡◌, true, All, take}
use Rattle.dialect_core.specs.declared.ops.Value.{Value}
use Rattle.to_llvm_ir.specs.Ordering.{is_seen}
use Rattle.to_llvm_ir.proofs.order.are_seen.Given as goal

abbrev pub invariant-loop-value : goal.invariant-loop-value
invariant-loop-value l = All (λ (v : Value). is_seen l.seen v ≡ true) (take l.value-index l.values)

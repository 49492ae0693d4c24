-- What the loop of `order::turned` keeps.
use Rattle.std.proofs.Common.{◌≡◌, length}
use Rattle.from_llvm_ir.proofs.OrderLaws.{AreTurned}
use Rattle.from_llvm_ir.proofs.order.turned.Given as goal

abbrev pub invariant-loop-j : goal.invariant-loop-j
invariant-loop-j l = record {
  long : length l.places.items ≡ length l.order;
  turned : AreTurned l.order l.j l.places.items;
}

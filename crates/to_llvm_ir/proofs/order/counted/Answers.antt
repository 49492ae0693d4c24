-- One number more.
use Rattle.to_llvm_ir.proofs.GraphLaws.{counted_more}
use Rattle.to_llvm_ir.proofs.order.counted.Goals as goal

pub loop-i-preserved : goal.loop-i-preserved
loop-i-preserved c = counted_more c.loop-i.i c.in_ok-place_of.field-0 c.loop-i.order.items c.push.new.self.items c.loop-i.invariant c.in_ok-place_of.ensures c.in_ok-push.ensures.items

-- One value more.
use Rattle.to_llvm_ir.specs.Own.{IsHeldBy}
use Rattle.to_llvm_ir.proofs.OwnLaws.{take_more, all_taken}
use Rattle.to_llvm_ir.proofs.own.foreign_among.Goals as goal

pub loop-value-preserved : goal.loop-value-preserved
loop-value-preserved c = take_more (IsHeldBy c.args.ctx.now c.args.func) c.args.values.now c.loop-value.value-index _ c.loop-value-test.true c.loop-value.invariant (c.is_held.ensures.0 c.if-not-is_held.false)

pub returns-clause-found : goal.returns-clause-found
returns-clause-found c = all_taken (IsHeldBy c.args.ctx.now c.args.func) c.args.values.now c.loop-value.value-index c.loop-value-test.false c.loop-value.invariant

-- One operation more.
use Rattle.std.proofs.Common.{Option, length, subst}
use Rattle.std.specs.Prelude.{IfSome}
use Rattle.std.proofs.lemmas.List.Elements.{All-nil}
use Rattle.std.proofs.lemmas.Option.{slice_get-get_or}
use Rattle.dialect_core.specs.declared.ops.Value.{Value}
use Rattle.dialect_core.specs.ContextData.{IsValueWithin}
use Rattle.to_llvm_ir.specs.Own.{IsForeignAt, UsesHeld}
use Rattle.to_llvm_ir.proofs.OwnLaws.{take_more, all_taken}
use Rattle.to_llvm_ir.proofs.own.foreign_in.Goals as goal

pub loop-op-preserved : goal.loop-op-preserved
loop-op-preserved c =
    take_more (UsesHeld c.args.ctx.now c.args.func) c.args.ops.now c.loop-op.op-index _ c.loop-op-test.true c.loop-op.invariant
    (subst (IsForeignAt c.args.ctx.now c.args.func _) c.in_default.is c.foreign_at.ensures.found)

pub returns-clause-found : goal.returns-clause-found
returns-clause-found c = all_taken (UsesHeld c.args.ctx.now c.args.func) c.args.ops.now c.loop-op.op-index c.loop-op-test.false c.loop-op.invariant

pub foreign_at-requires : goal.foreign_at-requires
foreign_at-requires c = c.requires c.loop-op.op-index _ c.loop-op-test.true

pub loop-op-init : goal.loop-op-init
loop-op-init c = All-nil (UsesHeld c.args.ctx.now c.args.func)

pub returns-in-Some-clause-found : goal.returns-in-Some-clause-found
returns-in-Some-clause-found c =
    (c.loop-op.op-index, _, slice_get-get_or c.args.ops.now c.loop-op.op-index _ c.loop-op-test.true, subst (IsForeignAt c.args.ctx.now c.args.func _) c.in-Some.is c.foreign_at.ensures.found)

pub returns-in-Some-clause-within : goal.returns-in-Some-clause-within
returns-in-Some-clause-within c = subst (λ (o : Option Value). IfSome o (IsValueWithin (length c.args.ctx.now.ops) (length c.args.ctx.now.blocks))) c.in-Some.is c.foreign_at.ensures.within

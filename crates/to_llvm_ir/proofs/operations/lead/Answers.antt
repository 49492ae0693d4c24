-- What an edge passes is used there, and its target is one of the blocks.
use Rattle.std.proofs.Common.{◌+◌, All, List, length, take, sym, ap, subst, arith}
use Rattle.std.proofs.lemmas.List.{take_all}
use Rattle.std.proofs.lemmas.List.Elements.{All-more}
use Rattle.dialect_core.specs.declared.ops.Value.{Value}
use Rattle.to_llvm_ir.specs.Order.{StandsBeforeIn}
use Rattle.to_llvm_ir.specs.Causes.{IsFuncCause}
use Rattle.to_llvm_ir.proofs.ResultLaws.{passed}
use Rattle.to_llvm_ir.proofs.LeadLaws.{passed_as, lead_is}
use Rattle.to_llvm_ir.proofs.operations.lead.Goals as goal

pub returns-in_err-known-clause-cause : goal.returns-in_err-known-clause-cause
returns-in_err-known-clause-cause c = λ s op m l next mapped at.
    let p = passed_as c.args.ctx.now op s l c.loop-value.value-index c.args.edge.now c.as_slice-value-items.result.now _ next.spot at c.as_slice-value-items.ensures c.loop-value-test.true in
    passed c.from_residual.result c.in_err-known.field-0.0 (IsFuncCause c.args.ctx.now s.task.source) c.from_residual.ensures.1 (c.in_err-known.ensures.cause s op m p.0 next p.1)

pub returns-in_err-target-clause-cause : goal.returns-in_err-target-clause-cause
returns-in_err-target-clause-cause c = λ s op m l next mapped at.
    passed c.from_residual-in_err-target.result c.in_err-target.field-0.0 (IsFuncCause c.args.ctx.now s.task.source) c.from_residual-in_err-target.ensures.1 (c.in_err-target.ensures.cause s op l next.spot mapped at)

pub loop-value-preserved : goal.loop-value-preserved
loop-value-preserved c = λ s op m l next at.
    let xs = c.as_slice-value-items.result.now in
    let p = passed_as c.args.ctx.now op s l c.loop-value.value-index c.args.edge.now xs _ next.spot at c.as_slice-value-items.ensures c.loop-value-test.true in
    let more = All-more (StandsBeforeIn s.task.numbers.order s.task.source s.place s.at) xs c.loop-value.value-index _ c.loop-value-test.true
    (subst (λ (ys : List Value). All (StandsBeforeIn s.task.numbers.order s.task.source s.place s.at) (take c.loop-value.value-index ys)) (sym c.as_slice-value-items.ensures) (c.loop-value.invariant s op m l next at))
    (c.in_ok-known.ensures.ok s op m p.0 next p.1).before in
    subst (λ (ys : List Value). All (StandsBeforeIn s.task.numbers.order s.task.source s.place s.at) (take (c.loop-value.value-index + 1) ys)) c.as_slice-value-items.ensures more

pub returns-clause-ok : goal.returns-clause-ok
returns-clause-ok c = λ s op m l next mapped at.
    let xs = c.as_slice-value-items.result.now in
    let all = subst (λ (ys : List Value). All (StandsBeforeIn s.task.numbers.order s.task.source s.place s.at) ys) (take_all c.loop-value.value-index c.args.edge.now.args (let e = ap (λ (ys : List Value). length ys) c.as_slice-value-items.ensures in let f = c.loop-value-test.false in omega (arith, e, f))) (c.loop-value.invariant s op m l next at) in
    lead_is c.args.ctx.now op s c.args.values.now m c.args.blocks.now c.args.edge.now c.in_ok-target.target next mapped c.in_ok-target.ensures.ok all

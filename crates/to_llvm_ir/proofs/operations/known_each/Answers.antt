-- Each operand is used, so it has a type; what was found for it is one more.
use Rattle.std.proofs.Common.{List, subst}
use Rattle.std.proofs.lemmas.List.{take_all}
use Rattle.std.proofs.lemmas.Option.{slice_get-get_or}
use Rattle.dialect_core.specs.declared.ops.Value.{Value}
use Rattle.to_llvm_ir.specs.Causes.{IsFuncCause}
use Rattle.to_llvm_ir.specs.States.{IsUseOf, AreUses}
use Rattle.to_llvm_ir.proofs.ListLaws.{matched_more}
use Rattle.to_llvm_ir.proofs.ResultLaws.{passed}
use Rattle.to_llvm_ir.proofs.LeadLaws.{operand_as}
use Rattle.to_llvm_ir.proofs.operations.known_each.Goals as goal

pub loop-operand-init : goal.loop-operand-init
loop-operand-init c = λ s op m next are. rw c.zero-stand.ensures tt

pub loop-operand-preserved : goal.loop-operand-preserved
loop-operand-preserved c = λ s op m next are.
    let xs = c.args.operands.now in
    let i = c.loop-operand.operand-index in
    let p = operand_as c.args.ctx.now op s i xs _ next.spot are c.loop-operand-test.true in
    matched_more (IsUseOf s m) xs i _ c.loop-operand.stand c.push.new.self c.in_ok-known.field-0 (slice_get-get_or xs i _ c.loop-operand-test.true) c.in_ok-push.ensures.ok (c.loop-operand.invariant s op m next are)
    (record { type = p.0; is = p.1.typed; used = c.in_ok-known.ensures.ok s op m p.0 next p.1 })

pub returns-in_err-known-clause-cause : goal.returns-in_err-known-clause-cause
returns-in_err-known-clause-cause c = λ s op m next are.
    let p = operand_as c.args.ctx.now op s c.loop-operand.operand-index c.args.operands.now _ next.spot are c.loop-operand-test.true in
    passed c.from_residual.result c.in_err-known.field-0.0 (IsFuncCause c.args.ctx.now s.task.source) c.from_residual.ensures.1 (c.in_err-known.ensures.cause s op m p.0 next p.1)

pub returns-clause-ok : goal.returns-clause-ok
returns-clause-ok c = λ s op m next are.
    subst (λ (vs : List Value). AreUses s m vs c.loop-operand.stand) (take_all c.loop-operand.operand-index c.args.operands.now c.loop-operand-test.false) (c.loop-operand.invariant s op m next are)

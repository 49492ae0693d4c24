-- Each edge is one of the operation; the block that it leads to is one more.
use Rattle.std.proofs.Common.{◌≡◌, ◌∙◌, List, Some, slice_get, ap, sym, subst}
use Rattle.std.proofs.lemmas.List.{take_all}
use Rattle.std.proofs.lemmas.Option.{slice_get-get_or}
use Rattle.dialect_core.specs.declared.ops.Successor.{Successor}
use Rattle.meaning.specs.Pairs.{Matched}
use Rattle.to_llvm_ir.specs.Causes.{IsFuncCause}
use Rattle.to_llvm_ir.specs.States.{IsLead}
use Rattle.to_llvm_ir.proofs.ListLaws.{matched_more}
use Rattle.to_llvm_ir.proofs.ResultLaws.{passed}
use Rattle.to_llvm_ir.proofs.LeadLaws.{edge_at}
use Rattle.to_llvm_ir.proofs.operations.leads.Goals as goal

pub loop-edge-init : goal.loop-edge-init
loop-edge-init c = λ s op m next mapped are. rw c.zero-targets.ensures tt

pub loop-edge-preserved : goal.loop-edge-preserved
loop-edge-preserved c = λ s op m next mapped are.
    let es = c.args.edges.now in
    let i = c.loop-edge.edge-index in
    let at = edge_at s es i c.edge-item.result are c.loop-edge-test.true c.edge-item.is in
    let there : slice_get es i ≡ Some c.edge-item.result = slice_get-get_or es i c.edge-item.result c.loop-edge-test.true ∙ ap Some (sym c.edge-item.is) in
    matched_more (IsLead s m) es i c.edge-item.result c.loop-edge.targets c.push.new.self c.in_ok-lead.field-0 there c.in_ok-push.ensures.ok (c.loop-edge.invariant s op m next mapped are) (c.in_ok-lead.ensures.ok s op m i next mapped at)

pub returns-in_err-lead-clause-cause : goal.returns-in_err-lead-clause-cause
returns-in_err-lead-clause-cause c = λ s op m next mapped are.
    let at = edge_at s c.args.edges.now c.loop-edge.edge-index c.edge-item.result are c.loop-edge-test.true c.edge-item.is in
    passed c.from_residual.result c.in_err-lead.field-0.0 (IsFuncCause c.args.ctx.now s.task.source) c.from_residual.ensures.1 (c.in_err-lead.ensures.cause s op m c.loop-edge.edge-index next mapped at)

pub returns-clause-ok : goal.returns-clause-ok
returns-clause-ok c = λ s op m next mapped are.
    subst (λ (es : List Successor). Matched (IsLead s m) es c.loop-edge.targets) (take_all c.loop-edge.edge-index c.args.edges.now c.loop-edge-test.false) (c.loop-edge.invariant s op m next mapped are)

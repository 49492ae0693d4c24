-- One edge more.
use Rattle.std.proofs.Common.{◌<◌, ◌+◌, refl, All, List, length, take, sym, subst}
use Rattle.std.proofs.lemmas.List.Elements.{All-nil}
use Rattle.dialect_core.specs.declared.ops.Successor.{Successor}
use Rattle.dialect_core.specs.Form.{FitsTarget}
use Rattle.to_llvm_ir.specs.Causes.{IsFuncCause}
use Rattle.to_llvm_ir.specs.Links.{AreEqualEdges}
use Rattle.to_llvm_ir.specs.States.{IsLinking}
use Rattle.to_llvm_ir.proofs.ResultLaws.{passed}
use Rattle.to_llvm_ir.proofs.SuccessorLaws.{few_edges}
use Rattle.to_llvm_ir.proofs.LinkedLaws.{more, more_none, more_edge, edges_are, linked_next, edge_more, edges_done, all_push}
use Rattle.to_llvm_ir.proofs.edges.link_edges.Goals as goal

pub loop-edge-init : goal.loop-edge-init
loop-edge-init c = record {
  state = λ s given h. more_none s.task given c.args.from.block.0 (take 0 s.op.successors) c.args.values.now c.args.back.now refl h.state;
  fits = λ s given h. All-nil (FitsTarget s.task.source);
}

pub add_edge-requires-clause-next : goal.add_edge-requires-clause-next
add_edge-requires-clause-next c =
    let s = c.requires.next.0 in
    let given = c.requires.next.1 in
    let h = c.requires.next.2 in (
      s,
      c.args.op,
      c.loop-edge.edge-index,
      more s.task given c.args.from.block.0 (take c.loop-edge.edge-index s.op.successors),
      linked_next c.args.ctx.now c.args.op s c.args.from c.args.blocks.now given c.args.values.now c.args.back.now c.loop-edge.back c.op_successors-edges.result.now c.loop-edge.edge-index c.edge-item.result c.edge-item.is h c.op_successors-edges.ensures.successors c.loop-edge-test.true (c.loop-edge.invariant.state s given h),
    )

pub returns-in_err-check_equal-clause-cause : goal.returns-in_err-check_equal-clause-cause
returns-in_err-check_equal-clause-cause c = λ s given h.
    passed c.from_residual.result c.in_err-check_equal.field-0.0 (IsFuncCause c.args.ctx.now s.task.source) c.from_residual.ensures.1
    (c.in_err-check_equal.ensures.cause s c.args.op h.spot (edges_are c.args.ctx.now c.args.op s c.op_successors-edges.result.now h.spot c.op_successors-edges.ensures.successors) h.mapped h.place_is)

pub returns-in_err-add_edge-clause-cause : goal.returns-in_err-add_edge-clause-cause
returns-in_err-add_edge-clause-cause c = λ s given h.
    let next = linked_next c.args.ctx.now c.args.op s c.args.from c.args.blocks.now given c.args.values.now c.args.back.now c.loop-edge.back c.op_successors-edges.result.now c.loop-edge.edge-index c.edge-item.result c.edge-item.is h c.op_successors-edges.ensures.successors c.loop-edge-test.true (c.loop-edge.invariant.state s given h) in
    passed c.from_residual-in_err-add_edge.result c.in_err-add_edge.field-0.0 (IsFuncCause c.args.ctx.now s.task.source) c.from_residual-in_err-add_edge.ensures.1
    (c.in_err-add_edge.ensures.cause s c.args.op c.loop-edge.edge-index (more s.task given c.args.from.block.0 (take c.loop-edge.edge-index s.op.successors)) next)

pub loop-edge-preserved : goal.loop-edge-preserved
loop-edge-preserved c = record {
  state = λ s given h.
      let next = linked_next c.args.ctx.now c.args.op s c.args.from c.args.blocks.now given c.args.values.now c.args.back.now c.loop-edge.back c.op_successors-edges.result.now c.loop-edge.edge-index c.edge-item.result c.edge-item.is h c.op_successors-edges.ensures.successors c.loop-edge-test.true (c.loop-edge.invariant.state s given h) in
      more_edge s.task given c.args.from.block.0 (take c.loop-edge.edge-index s.op.successors) (take (c.loop-edge.edge-index + 1) s.op.successors) c.edge-item.result c.args.values.now c.add_edge.new.back
      (edge_more s.op.successors c.loop-edge.edge-index c.edge-item.result next.at)
      (c.in_ok-add_edge.ensures.ok s c.args.op c.loop-edge.edge-index (more s.task given c.args.from.block.0 (take c.loop-edge.edge-index s.op.successors)) next);
  fits = λ s given h.
      let next = linked_next c.args.ctx.now c.args.op s c.args.from c.args.blocks.now given c.args.values.now c.args.back.now c.loop-edge.back c.op_successors-edges.result.now c.loop-edge.edge-index c.edge-item.result c.edge-item.is h c.op_successors-edges.ensures.successors c.loop-edge-test.true (c.loop-edge.invariant.state s given h) in
      all_push (FitsTarget s.task.source) (take c.loop-edge.edge-index s.op.successors) (take (c.loop-edge.edge-index + 1) s.op.successors) c.edge-item.result (edge_more s.op.successors c.loop-edge.edge-index c.edge-item.result next.at)
      (c.loop-edge.invariant.fits s given h)
      (c.in_ok-add_edge.ensures.fits s c.args.op c.loop-edge.edge-index (more s.task given c.args.from.block.0 (take c.loop-edge.edge-index s.op.successors)) next);
}

pub returns-clause-ok : goal.returns-clause-ok
returns-clause-ok c = λ s given h.
    let all = edges_done c.args.ctx.now c.args.op s c.op_successors-edges.result.now c.loop-edge.edge-index h.spot c.op_successors-edges.ensures.successors c.loop-edge-test.false in
    subst (λ (ss : List Successor). IsLinking s.task (more s.task given c.args.from.block.0 ss) c.args.values.now c.loop-edge.back) all (c.loop-edge.invariant.state s given h)

pub returns-clause-fits : goal.returns-clause-fits
returns-clause-fits c = λ s given h.
    let all = edges_done c.args.ctx.now c.args.op s c.op_successors-edges.result.now c.loop-edge.edge-index h.spot c.op_successors-edges.ensures.successors c.loop-edge-test.false in
    subst (λ (ss : List Successor). All (FitsTarget s.task.source) ss) all (c.loop-edge.invariant.fits s given h)

pub returns-clause-equal : goal.returns-clause-equal
returns-clause-equal c = λ s given h.
    let are = edges_are c.args.ctx.now c.args.op s c.op_successors-edges.result.now h.spot c.op_successors-edges.ensures.successors in
    subst (λ (ss : List Successor). AreEqualEdges ss) (sym are) (c.in_ok-check_equal.ensures.ok (subst (λ (ss : List Successor). length ss < 3) are (few_edges c.args.ctx.now c.args.op s h.spot)))

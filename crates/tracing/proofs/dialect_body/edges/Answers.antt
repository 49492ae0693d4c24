-- What `dialect_body::edges` owes besides what the check finds.
use Rattle.std.proofs.Common.{List, map, ap, ◌∙◌}
use Rattle.std.specs.List.{flat_map}
use Rattle.dialect_core.specs.Data.{DialectOp}
use Rattle.tracing.specs.DialectBodies.{IsOpIn}
use Rattle.tracing.specs.DialectEdges.{edge_to}
use Rattle.tracing.proofs.ListLaws.{take_whole, mapped_joined}
use Rattle.tracing.proofs.DialectLaws.{op_in_at, op_within}
use Rattle.tracing.proofs.DialectBlockLaws.{successors_are}
use Rattle.tracing.proofs.dialect_body.edges.Goals as goal

pub op_successors-requires : goal.op_successors-requires
op_successors-requires c =
    let s = op_in_at c.args.ctx.now c.requires.0 c.args.ops.now c.requires.1 c.loop-op.op-index c.loop-op-test.true c.requires.2 in
    op_within c.args.ctx.now _ s.item s.fits.here

pub loop-op-preserved : goal.loop-op-preserved
loop-op-preserved c = record {
  at = λ h os all.
      let s = op_in_at c.args.ctx.now h c.args.ops.now os c.loop-op.op-index c.loop-op-test.true all in
      let here = successors_are c.args.ctx.now _ s.item c.op_successors.result.now s.fits.here c.op_successors.ensures.successors in
      c.in_ok-push_edges.ensures
      ∙ mapped_joined (edge_to c.args.places.now) (λ (o : DialectOp). o.successors) c.loop-op.edges _ os c.loop-op.op-index s.item s.at (c.loop-op.invariant.at h os all) here;
}

pub returns : goal.returns
returns c = λ h os all.
    let whole = take_whole (IsOpIn c.args.ctx.now h) c.args.ops.now os c.loop-op.op-index c.loop-op-test.false all in
    c.loop-op.invariant.at h os all ∙ ap (λ (l : List DialectOp). map (edge_to c.args.places.now) (flat_map (λ (o : DialectOp). o.successors) l)) whole

-- What `run::jump` owes besides what the check finds.
use Rattle.std.proofs.Common.{◌∙◌, List, slice_get, sym, ap}
use Rattle.llvm_core.proofs.DataLemmas.{within_at}
use Rattle.tracing.specs.Bodies.{IsKnownEdge, IsKnownBlock}
use Rattle.tracing.specs.declared.body.Edge.{Edge}
use Rattle.tracing.specs.declared.body.Block.{Block}
use Rattle.tracing.proofs.MoveLaws.{found, goes, leads}
use Rattle.tracing.proofs.run.jump.Goals as goal

pub follow-requires : goal.follow-requires
follow-requires c =
    let r = c.requires in
    let is = c.as_slice-blocks.ensures in
    let code = c.as_slice-blocks.result.now in
    let b = c.in-Some.ensures.lookup in
    let e = c.in-Some-get.ensures.lookup in
    let t = c.in-Some-get-2.ensures.lookup in
    let block = ap (λ (xs : List Block). slice_get xs c.args.run.now.block) (sym is) ∙ found code c.args.run.now.block c.in-Some.block.now b.3.0 b.1 in
    let edge = ap (λ (xs : List Edge). slice_get xs c.args.choice) (sym c.as_slice.ensures) ∙ found c.as_slice.result.now c.args.choice c.in-Some-get.edge.now e.3.0 e.1 in
    let target = ap (λ (xs : List Block). slice_get xs c.in-Some-get.edge.now.to) (sym is) ∙ found code c.in-Some-get.edge.now.to c.in-Some-get-2.target.now t.3.0 t.1 in
    let typed = within_at c.args.code.now.blocks (IsKnownBlock r.0) r.2 c.args.run.now.block c.in-Some.block.now block in (
      r.0,
      r.1,
      (
        within_at c.in-Some.block.now.edges (IsKnownEdge r.0) typed.1 c.args.choice c.in-Some-get.edge.now edge,
        within_at c.args.code.now.blocks (IsKnownBlock r.0) r.2 c.in-Some-get.edge.now.to c.in-Some-get-2.target.now target,
      ),
      r.3,
    )

pub returns : goal.returns
returns c = λ now s typed h.
    let is = c.as_slice-blocks.ensures in
    let code = c.as_slice-blocks.result.now in
    let b = c.in-Some.ensures.lookup in
    let e = c.in-Some-get.ensures.lookup in
    let t = c.in-Some-get-2.ensures.lookup in
    let here = ap (λ (xs : List Block). slice_get xs c.args.run.now.block) (sym is) ∙ found code c.args.run.now.block c.in-Some.block.now b.3.0 b.1 in
    let block = ap (slice_get _) (sym h.block) ∙ here in
    let edge = ap (λ (xs : List Edge). slice_get xs c.args.choice) (sym c.as_slice.ensures) ∙ found c.as_slice.result.now c.args.choice c.in-Some-get.edge.now e.3.0 e.1 in
    let target = ap (λ (xs : List Block). slice_get xs c.in-Some-get.edge.now.to) (sym is) ∙ found code c.in-Some-get.edge.now.to c.in-Some-get-2.target.now t.3.0 t.1 in
    let blocks_typed = within_at c.args.code.now.blocks (IsKnownBlock now) typed in
    let edge_typed = within_at c.in-Some.block.now.edges (IsKnownEdge now) (blocks_typed c.args.run.now.block c.in-Some.block.now here).1 c.args.choice c.in-Some-get.edge.now edge in
    let followed = rw c.params_of.ensures at (c.in_ok-follow.ensures now s edge_typed (blocks_typed c.in-Some-get.edge.now.to c.in-Some-get-2.target.now target) h) in
    leads now c.follow.new.run s _ _ (goes now c.args.code.now.params _ s c.args.choice c.in-Some.block.now c.in-Some-get.edge.now c.in-Some-get-2.target.now block edge target) followed

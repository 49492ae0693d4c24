-- What `llvm_index::all_phis` owes besides what the check finds.
use Rattle.std.proofs.Common.{◌++◌, ◌∷◌, [], subst, sym, take, List}
use Rattle.support.proofs.ListLaws.{take_next}
use Rattle.llvm_core.specs.Data.{Block}
use Rattle.tracing.specs.Contents.{Contents, Lasts}
use Rattle.tracing.specs.Tables.{contents_in}
use Rattle.tracing.specs.LlvmBodies.{data_in, AreBlockPhis}
use Rattle.tracing.proofs.TablesLaws.{grown_same, grown_then}
use Rattle.tracing.proofs.IndexLaws.{block_at_place, all_blocks, insts_placed, block_phis_push}
use Rattle.tracing.proofs.llvm_index.all_phis.Goals as goal

pub phis-requires-clause-here : goal.phis-requires-clause-here
phis-requires-clause-here c =
    let m = c.args.m.now in
    let h = c.requires.here.0 in
    let s = block_at_place m h c.args.f.0 c.blocks-b-items.result.now c.loop-b.b-index c.requires.here.1 c.blocks-b-items.ensures.blocks c.loop-b-test.true in
    (h, _, s.block.instructions, insts_placed m h _ s.block c.instructions.result.now s.fits c.instructions.ensures.insts)

pub loop-b-init : goal.loop-b-init
loop-b-init c = record { at = λ h is. rw c.new-all.ensures (λ later more. tt); grown = grown_same _ _ c.requires.tables }

pub loop-b-preserved : goal.loop-b-preserved
loop-b-preserved c = record {
  at = λ h is.
      let m = c.args.m.now in
      let new = contents_in c.phis.new.tables in
      let bs = (data_in m h).blocks in
      let s = block_at_place m h c.args.f.0 c.blocks-b-items.result.now c.loop-b.b-index is c.blocks-b-items.ensures.blocks c.loop-b-test.true in
      let placed = insts_placed m h _ s.block c.instructions.result.now s.fits c.instructions.ensures.insts in
      let here = c.in_ok-block_phis.ensures.phis h _ s.block.instructions placed in
      let pushed = block_phis_push m _ new c.loop-b.all (take c.loop-b.b-index bs) c.in_ok-block_phis.block_phis s.block c.in_ok-block_phis.ensures.grown.kept (c.loop-b.invariant.at h is) here in
      rw c.in_ok-push.ensures.ok
      (subst (λ (ys : List Block). Lasts new (λ (d : Contents). AreBlockPhis m d (c.loop-b.all ++ c.in_ok-block_phis.block_phis ∷ []) ys)) (sym (take_next bs c.loop-b.b-index s.block s.at)) pushed);
  grown = grown_then _ _ _ _ c.loop-b.invariant.grown c.in_ok-block_phis.ensures.grown;
}

pub returns-clause-phis : goal.returns-clause-phis
returns-clause-phis c = λ h is.
    let m = c.args.m.now in
    subst (λ (ys : List Block). Lasts (contents_in c.loop-b.tables) (λ (d : Contents). AreBlockPhis m d c.loop-b.all ys)) (all_blocks m h c.args.f.0 c.blocks-b-items.result.now c.loop-b.b-index is c.blocks-b-items.ensures.blocks c.loop-b-test.false)
    (c.loop-b.invariant.at h is)

-- What `llvm_body::block_edges` owes besides what the check finds.
use Rattle.std.proofs.Common.{ap, ◌∙◌, List, map}
use Rattle.std.specs.List.{flat_map}
use Rattle.std.proofs.lemmas.Option.{slice_get_within}
use Rattle.llvm_core.specs.Data.{Placed, targets}
use Rattle.tracing.specs.LlvmBodies.{IsPlacedIn, edge_to}
use Rattle.tracing.proofs.ListLaws.{matched_at, take_whole, mapped_joined}
use Rattle.tracing.proofs.LlvmLaws.{some_inst, kept_at, kept_inst, kept_targets}
use Rattle.tracing.proofs.llvm_body.block_edges.Goals as goal

pub inst-requires : goal.inst-requires
inst-requires c =
    let m = c.args.m.now in
    let h = c.requires.0 in
    let s = matched_at (IsPlacedIn m h c.requires.1) c.args.insts.now c.requires.2 c.loop-i.i-index some_inst c.loop-i-test.true c.requires.3 in
    let k = kept_at m h c.requires.1 _ s.item s.fits in
    slice_get_within m.insts _ k.kept k.here

pub loop-i-preserved : goal.loop-i-preserved
loop-i-preserved c = record {
  at = λ h b ps all.
      let m = c.args.m.now in
      let s = matched_at (IsPlacedIn m h b) c.args.insts.now ps c.loop-i.i-index some_inst c.loop-i-test.true all in
      let e = kept_inst m _ s.item c.inst.result.now (kept_at m h b _ s.item s.fits) c.inst.ensures.inst in
      let here = kept_targets m s.item c.inst.result.now e in
      c.in_ok-push_edges.ensures
      ∙ mapped_joined (edge_to c.args.index.now c.args.from) (λ (p : Placed). targets p.instruction) c.loop-i.edges _ ps c.loop-i.i-index s.item s.at (c.loop-i.invariant.at h b ps all) here;
}

pub returns : goal.returns
returns c = λ h b ps all.
    c.loop-i.invariant.at h b ps all ∙ ap (λ (qs : List Placed). map (edge_to c.args.index.now c.args.from) (flat_map (λ (p : Placed). targets p.instruction) qs)) (take_whole (IsPlacedIn c.args.m.now h b) c.args.insts.now ps c.loop-i.i-index c.loop-i-test.false all)

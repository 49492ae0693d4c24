-- What `llvm_index::phis` owes besides what the check finds.
use Rattle.std.proofs.Common.{List, subst, sym, filter, take}
use Rattle.llvm_core.specs.Data.{Placed}
use Rattle.llvm_core.specs.Form.{is_phi}
use Rattle.tracing.specs.Tables.{contents_in}
use Rattle.tracing.specs.LlvmBodies.{IsPlacedIn, ArePhis}
use Rattle.tracing.proofs.ListLaws.{matched_at, filter_next, take_whole}
use Rattle.tracing.proofs.TablesLaws.{grown_same, grown_then}
use Rattle.tracing.proofs.LlvmLaws.{some_inst}
use Rattle.tracing.proofs.IndexLaws.{no_phis}
use Rattle.tracing.proofs.llvm_index.phis.Goals as goal

pub push_phi-requires-clause-here : goal.push_phi-requires-clause-here
push_phi-requires-clause-here c =
    let r = c.requires.here in
    let s = matched_at (IsPlacedIn c.args.m.now r.0 r.1) c.args.insts.now r.2 c.loop-i.i-index some_inst c.loop-i-test.true r.3 in
    (r.0, r.1, s.item, s.fits)

pub loop-i-init : goal.loop-i-init
loop-i-init c = record { at = λ h b ps all. rw c.new-phis.ensures (no_phis c.args.m.now _); grown = grown_same _ _ c.requires.tables }

pub loop-i-preserved : goal.loop-i-preserved
loop-i-preserved c = record {
  at = λ h b ps all.
      let m = c.args.m.now in
      let s = matched_at (IsPlacedIn m h b) c.args.insts.now ps c.loop-i.i-index some_inst c.loop-i-test.true all in
      subst (ArePhis m (contents_in c.push_phi.new.tables) c.push_phi.new.phis) (sym (filter_next is_phi ps c.loop-i.i-index s.item s.at))
      (c.in_ok-push_phi.ensures.phis h b s.item s.fits (filter is_phi (take c.loop-i.i-index ps)) (c.loop-i.invariant.at h b ps all));
  grown = grown_then _ _ _ _ c.loop-i.invariant.grown c.in_ok-push_phi.ensures.grown;
}

pub returns-clause-phis : goal.returns-clause-phis
returns-clause-phis c = λ h b ps all.
    subst (λ (qs : List Placed). ArePhis c.args.m.now (contents_in c.loop-i.tables) c.loop-i.phis (filter is_phi qs)) (take_whole (IsPlacedIn c.args.m.now h b) c.args.insts.now ps c.loop-i.i-index c.loop-i-test.false all) (c.loop-i.invariant.at h b ps all)

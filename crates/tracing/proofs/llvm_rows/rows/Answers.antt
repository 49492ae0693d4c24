-- What `llvm_rows::rows` owes besides what the check finds.
use Rattle.std.proofs.Common.{refl, subst, List}
use Rattle.llvm_core.specs.Data.{Placed}
use Rattle.std.specs.Prelude.{take}
use Rattle.tracing.specs.Tables.{contents_in}
use Rattle.tracing.specs.Bodies.{AreRows}
use Rattle.tracing.specs.LlvmBodies.{IsPlacedIn, row_in, rows_in}
use Rattle.tracing.proofs.ListLaws.{matched_at, given_next, take_whole}
use Rattle.tracing.proofs.GrowLaws.{no_rows}
use Rattle.tracing.proofs.TablesLaws.{grown_same, grown_then}
use Rattle.tracing.proofs.LlvmLaws.{some_inst}
use Rattle.tracing.proofs.llvm_rows.rows.Goals as goal

pub push_row-requires-clause-here : goal.push_row-requires-clause-here
push_row-requires-clause-here c =
    let r = c.requires.here in
    let s = matched_at (IsPlacedIn c.args.m.now r.0 r.1) c.args.insts.now r.2 c.loop-i.i-index some_inst c.loop-i-test.true r.3 in
    (r.0, r.1, s.item, s.fits)

pub loop-i-init : goal.loop-i-init
loop-i-init c = record { at = λ h b ps all. rw c.new-rows.ensures (no_rows _); grown = grown_same _ _ c.requires.tables }

pub loop-i-preserved : goal.loop-i-preserved
loop-i-preserved c = record {
  at = λ h b ps all.
      let s = matched_at (IsPlacedIn c.args.m.now h b) c.args.insts.now ps c.loop-i.i-index some_inst c.loop-i-test.true all in
      subst (AreRows (contents_in c.push_row.new.tables) c.push_row.new.rows) (given_next (row_in c.args.m.now h) (rows_in c.args.m.now h (take c.loop-i.i-index ps)) ps c.loop-i.i-index s.item s.at refl)
      (c.in_ok-push_row.ensures.rows h b s.item s.fits _ (c.loop-i.invariant.at h b ps all));
  grown = grown_then _ _ _ _ c.loop-i.invariant.grown c.in_ok-push_row.ensures.grown;
}

pub returns-clause-rows : goal.returns-clause-rows
returns-clause-rows c = λ h b ps all.
    subst (λ (qs : List Placed). AreRows (contents_in c.loop-i.tables) c.loop-i.rows (rows_in c.args.m.now h qs)) (take_whole (IsPlacedIn c.args.m.now h b) c.args.insts.now ps c.loop-i.i-index c.loop-i-test.false all) (c.loop-i.invariant.at h b ps all)

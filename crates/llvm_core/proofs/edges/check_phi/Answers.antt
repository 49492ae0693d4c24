-- The goals of `edges::check_phi` that the tactics leave.
use Rattle.std.proofs.Common.{◌∙◌, sym, inl, inr}
use Rattle.llvm_core.proofs.PhiLemmas.{counts_read, no_length, some_length, no_preds, phi_fits, phi_misfits, fails_there, fits_there}
use Rattle.llvm_core.proofs.edges.check_phi.Goals as goal
use Rattle.llvm_core.proofs.edges.check_phi.Goals.{then-is_empty-via-then-is_empty, then-is_empty-via-else-is_empty+in_ok-has_two_values+then-branch, then-is_empty-via-else-is_empty+in_ok-has_two_values+else-branch+in_ok-fits_edges+then-not-branch}

pub returns-then-is_empty-clause-err : goal.returns-then-is_empty-clause-err
returns-then-is_empty-clause-err c =
    let m = c.args.m.now in
    let b = c.inst_block.result.0 in
    let from = c.as_slice-from.result.now in
    let counts = counts_read m c.args.lists.now b _ from c.requires.edges c.inst_block.ensures.within (c.as_slice-from.ensures ∙ c.index-lists-inst_block.is) in
    fails_there m c.args.i.0 c.inst.result.now c.inst_block.result c.inst.ensures.inst c.inst_block.ensures.block
    (rw c.in-Phi.is (elim c.then-is_empty.branch [
      | then-is_empty-via-then-is_empty w ↦ inr (inr (no_preds m b from counts (no_length from (sym c.is_empty.ensures ∙ w.if-is_empty.true))))
      | then-is_empty-via-else-is_empty+in_ok-has_two_values+then-branch w ↦ inr (inl (rw c.as_slice-entries.ensures at w.in_ok-has_two_values.ensures.yes w.if-branch.true))
      | then-is_empty-via-else-is_empty+in_ok-has_two_values+else-branch+in_ok-fits_edges+then-not-branch w ↦
          phi_misfits m b c.in-Phi.field-0 c.in-Phi.entries from counts (rw c.as_slice-entries.ensures at w.in_ok-fits_edges.ensures.no w.if-not-branch.true)
    ]))

pub returns-clause-ok : goal.returns-clause-ok
returns-clause-ok c =
    let m = c.args.m.now in
    let b = c.inst_block.result.0 in
    let from = c.as_slice-from.result.now in
    let counts = counts_read m c.args.lists.now b _ from c.requires.edges c.inst_block.ensures.within (c.as_slice-from.ensures ∙ c.index-lists-inst_block.is) in
    let some = some_length from (sym c.is_empty.ensures ∙ c.if-is_empty.false) in
    let once = c.in_ok-has_two_values.ensures.no c.if-branch.false in
    let fits = c.in_ok-fits_edges.ensures.yes c.if-not-branch.false in
    let entries = c.as_slice-entries.ensures in
    fits_there m c.args.i.0 c.inst.result.now c.inst_block.result c.inst.ensures.inst c.inst_block.ensures.block
    (rw c.in-Phi.is (phi_fits m b c.in-Phi.field-0 c.in-Phi.entries from counts some (rw entries at once) (rw entries at fits)))

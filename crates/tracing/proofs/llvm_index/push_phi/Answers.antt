-- What `llvm_index::push_phi` owes besides what the check finds.
use Rattle.std.proofs.Common.{refl, ap, ◌∙◌}
use Rattle.std.proofs.lemmas.Result.{on_ok_weaker}
use Rattle.llvm_core.specs.Data.{trees_of, instruction_of}
use Rattle.llvm_core.specs.Parts.{is_phi}
use Rattle.tracing.specs.Tables.{contents_in}
use Rattle.tracing.proofs.LlvmLaws.{kept_at, kept_inst, kept_phi}
use Rattle.tracing.proofs.IndexLaws.{no_more, one_more, is_phi_of}
use Rattle.tracing.proofs.llvm_index.push_phi.Goals as goal

pub returns-in-Row-clause-phis : goal.returns-in-Row-clause-phis
returns-in-Row-clause-phis c = λ h b p at xs before.
    let m = c.args.m.now in
    let e = kept_inst m c.args.i p c.inst.result.now (kept_at m h b c.args.i p at) c.inst.ensures.inst in
    no_more m (contents_in c.args.tables.now) c.args.phis.now xs p (kept_phi m p c.inst.result.now e ∙ ap is_phi c.in-Row.is) before

pub returns-in_ok-incoming-in-Phi-clause-phis : goal.returns-in_ok-incoming-in-Phi-clause-phis
returns-in_ok-incoming-in-Phi-clause-phis c =
    on_ok_weaker c.push.result
    (λ ok h b p at xs before.
    let m = c.args.m.now in
    let new = contents_in c.incoming.new.tables in
    let e = kept_inst m c.args.i p c.inst.result.now (kept_at m h b c.args.i p at) c.inst.ensures.inst in
    let phi = ap (instruction_of (trees_of m)) c.in-Phi.is in
    let some = kept_phi m p c.inst.result.now e ∙ ap is_phi c.in-Phi.is in
    let takes = rw c.as_slice.ensures at c.in_ok-incoming-in-Phi.ensures.takes in
    rw ok
    (one_more m _ new c.args.phis.now xs _ p some c.in_ok-incoming-in-Phi.ensures.grown.kept (is_phi_of m new h b c.args.i p c.in-Phi.field-0 c.in-Phi.entries _ at (e ∙ phi) refl takes) before))
    c.push.ensures.ok

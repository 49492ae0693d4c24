-- What `constants::hoist_inst` owes besides what the check finds.
use Rattle.std.proofs.Common.{◌∙◌, sym, ap, subst, List, ◌++◌, All}
use Rattle.std.specs.List.{filter_map}
use Rattle.std.proofs.lemmas.Result.{on_ok_weaker}
use Rattle.llvm_core.specs.Data.{ConstTree, data_of}
use Rattle.from_llvm_ir.specs.Imported.{constant_in}
use Rattle.from_llvm_ir.specs.Source.{IsUsed}
use Rattle.llvm_core.specs.Data.{trees_of, operand_of}
use Rattle.std.proofs.Common.{map}
use Rattle.from_llvm_ir.specs.Body.{IsHoisting}
use Rattle.from_llvm_ir.proofs.SourceLaws.{inst_within, phi_read}
use Rattle.from_llvm_ir.proofs.HoistLaws.{no_constant, inst_uses, phi_uses}
use Rattle.from_llvm_ir.proofs.KeepLaws.{keeps_none}
use Rattle.from_llvm_ir.proofs.constants.hoist_inst.Goals as goal

pub hoist_values-requires-clause-used : goal.hoist_values-requires-clause-used
hoist_values-requires-clause-used g c =
    let r = c.requires.site in
    let other = phi_read c.args.source.now r.2 c.args.i r.4.at r.3 c.inst.result.now r.4.inst c.inst.ensures.inst ∙ sym c.is_phi.ensures ∙ c.if-is_phi.false in
    (r.0, r.1, r.4.source, r.5, subst (All (IsUsed c.args.source.now r.1)) (sym c.as_slice.ensures) (c.in_ok-used.ensures.used r.0 r.1 r.2 r.3 r.4 other))

pub returns-clause-hoisting : goal.returns-clause-hoisting
returns-clause-hoisting g c =
    on_ok_weaker c.hoist_values.result
    (λ hoisted f h b p s fr uses hoisting number.
    let m = c.args.source.now in
    let other = phi_read m b c.args.i s.at p c.inst.result.now s.inst c.inst.ensures.inst ∙ sym c.is_phi.ensures ∙ c.if-is_phi.false in
    let are = ap (map (operand_of (trees_of m))) c.as_slice.ensures ∙ c.in_ok-used.ensures.are f h b p s other in
    subst (λ (us : List ConstTree). IsHoisting fr m c.hoist_values.new.ctx c.hoist_values.new.values (uses ++ us)) (ap (filter_map constant_in) are ∙ inst_uses (data_of m) h b p other) (hoisted fr uses hoisting number))
    c.hoist_values.ensures.hoisting

pub returns-clause-kept : goal.returns-clause-kept
returns-clause-kept g c = c.hoist_values.ensures.kept

pub returns-then-is_phi-clause-kept : goal.returns-then-is_phi-clause-kept
returns-then-is_phi-clause-kept g c = λ n b behind. keeps_none n b c.args.ctx.now

pub returns-in_err-used-clause-kept : goal.returns-in_err-used-clause-kept
returns-in_err-used-clause-kept g c = λ n b behind. keeps_none n b c.args.ctx.now

pub returns-then-is_phi-clause-hoisting : goal.returns-then-is_phi-clause-hoisting
returns-then-is_phi-clause-hoisting g c = λ f h b p s fr uses hoisting number.
    let m = c.args.source.now in
    let phi = phi_read m b c.args.i s.at p c.inst.result.now s.inst c.inst.ensures.inst ∙ sym c.is_phi.ensures ∙ c.if-is_phi.true in
    subst (λ (us : List ConstTree). IsHoisting fr m c.args.ctx.now c.args.values.now (uses ++ us)) (phi_uses (data_of m) h b p phi) (no_constant fr m c.args.ctx.now c.args.values.now uses hoisting)

pub inst-requires : goal.inst-requires
inst-requires g c = let r = c.requires.site in inst_within c.args.source.now r.2 c.args.i r.4.at r.3 r.4.inst

pub used_values-requires : goal.used_values-requires
used_values-requires g c =
    let r = c.requires.site in
    (r.0, r.1, r.2, r.3, r.4, phi_read c.args.source.now r.2 c.args.i r.4.at r.3 c.inst.result.now r.4.inst c.inst.ensures.inst ∙ sym c.is_phi.ensures ∙ c.if-is_phi.false)

pub hoist_values-requires-clause-hoisting : goal.hoist_values-requires-clause-hoisting
hoist_values-requires-clause-hoisting g c = c.requires.hoisting

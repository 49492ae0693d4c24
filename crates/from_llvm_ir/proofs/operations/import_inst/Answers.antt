-- What `operations::import_inst` owes besides what the check finds.
use Rattle.std.proofs.Common.{◌∙◌, sym}
use Rattle.std.proofs.lemmas.Result.{on_ok_weaker, IfErr-weaker}
use Rattle.from_consts.specs.declared.conversion_err.ConversionErr.TheVariants as E
use Rattle.from_llvm_ir.proofs.SourceLaws.{inst_within, phi_read}
use Rattle.held_types.proofs.WalkLaws.{passed_on}
use Rattle.from_llvm_ir.proofs.NameLaws.{goes_same}
use Rattle.from_llvm_ir.proofs.BodyLaws.{phi_taken}
use Rattle.from_llvm_ir.proofs.KeepLaws.{keeps_none}
use Rattle.from_llvm_ir.proofs.operations.import_inst.Goals as goal

pub returns-then-is_phi-clause-ok : goal.returns-then-is_phi-clause-ok
returns-then-is_phi-clause-ok g c = λ fr f j b p at later.
    phi_taken fr c.args.source.now f c.args.targets.now c.args.entries.now c.args.ctx.now c.args.values.now _ c.args.from c.args.block c.args.i j c.args.place b p at
    (phi_read c.args.source.now b c.args.i c.args.place p c.inst.result.now at.inst c.inst.ensures.inst ∙ sym c.is_phi.ensures ∙ c.if-is_phi.true) c.in_ok-import_phi.ensures

pub returns-clause-err : goal.returns-clause-err
returns-clause-err g c =
    IfErr-weaker c.import_op.result _ _
    (λ e late fr f j b p at later. late fr f j c.args.place b p at (phi_read c.args.source.now b c.args.i c.args.place p c.inst.result.now at.inst c.inst.ensures.inst ∙ sym c.is_phi.ensures ∙ c.if-is_phi.false) later)
    c.import_op.ensures.err

pub returns-clause-ok : goal.returns-clause-ok
returns-clause-ok g c =
    on_ok_weaker c.import_op.result
    (λ done fr f j b p at later. done fr f j c.args.place b p at (phi_read c.args.source.now b c.args.i c.args.place p c.inst.result.now at.inst c.inst.ensures.inst ∙ sym c.is_phi.ensures ∙ c.if-is_phi.false) later)
    c.import_op.ensures.ok

pub returns-then-is_phi-clause-kept : goal.returns-then-is_phi-clause-kept
returns-then-is_phi-clause-kept g c = λ n b behind. keeps_none n b c.args.ctx.now

pub returns-clause-kept : goal.returns-clause-kept
returns-clause-kept g c = c.import_op.ensures.kept

pub inst-requires : goal.inst-requires
inst-requires g c = let r = c.requires c.args.names.now (goes_same c.args.names.now) in inst_within c.args.source.now r.3 c.args.i c.args.place r.4 r.5.inst

pub import_op-requires : goal.import_op-requires
import_op-requires g c = λ given on.
    let r = c.requires given on in
    (r.0, r.1, r.2, c.args.place, r.3, r.4, r.5, phi_read c.args.source.now r.3 c.args.i c.args.place r.4 c.inst.result.now r.5.inst c.inst.ensures.inst ∙ sym c.is_phi.ensures ∙ c.if-is_phi.false, r.6)

pub returns-in_err-import_phi-clause-err : goal.returns-in_err-import_phi-clause-err
returns-in_err-import_phi-clause-err g c = passed_on c.from_residual.result E.NoMemory _ c.from_residual.ensures.1 (λ fr f j b p at later places inverse. tt)

pub returns-in_err-import_phi-clause-kept : goal.returns-in_err-import_phi-clause-kept
returns-in_err-import_phi-clause-kept g c = λ n b behind. keeps_none n b c.args.ctx.now

pub returns-then-is_phi-clause-grows : goal.returns-then-is_phi-clause-grows
returns-then-is_phi-clause-grows g c = goes_same c.args.names.now

pub returns-in_err-import_phi-clause-grows : goal.returns-in_err-import_phi-clause-grows
returns-in_err-import_phi-clause-grows g c = goes_same c.args.names.now

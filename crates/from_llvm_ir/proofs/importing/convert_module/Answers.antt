-- What `importing::convert_module` owes besides what the check finds.
use Rattle.std.proofs.lemmas.Result.{IfOk-weaker}
use Rattle.llvm_core.specs.Data.{data_of}
use Rattle.meaning.specs.Code.{SameCode}
use Rattle.meaning.specs.Llvm as Llvm
use Rattle.meaning.specs.Dialect as Dialect
use Rattle.from_llvm_ir.specs.declared.importing.Imported.{Imported}
use Rattle.from_llvm_ir.specs.Match.{match_of}
use Rattle.from_llvm_ir.specs.Imported.{IsImported, imported_data, seen_by}
use Rattle.renamed_source.specs.Source.{pairs_of}
use Rattle.dialect_types.specs.Trees.{structs_of}
use Rattle.from_consts.specs.Forward.{of_held}
use Rattle.from_llvm_ir.specs.Refusals.{IsCause}
use Rattle.held_types.specs.Held.{AreHeld}
use Rattle.held_types.proofs.WalkLaws.{if_err_as, passed_on}
use Rattle.from_llvm_ir.proofs.KeepLaws.{keeps_none, others_kept}
use Rattle.from_llvm_ir.proofs.RefusedLaws.{held_cause, held_late}
use Rattle.from_llvm_ir.proofs.SameLaws.{same_imported}
use Rattle.from_llvm_ir.proofs.importing.convert_module.Goals as goal

pub returns-in_err-held-clause-cause : goal.returns-in_err-held-clause-cause
returns-in_err-held-clause-cause c =
    passed_on c.from_residual.result (of_held c.in_err-held.field-0.0) _ c.from_residual.ensures.1
    (held_cause (data_of c.args.«module».now) (structs_of c.args.ctx.now.types) c.in_err-held.field-0.0 c.in_err-held.ensures.cause)

pub returns-in_err-held-clause-others : goal.returns-in_err-held-clause-others
returns-in_err-held-clause-others c = others_kept c.args.ctx.now c.args.ctx.now (keeps_none _ _ c.args.ctx.now).leaves

pub returns-clause-same : goal.returns-clause-same
returns-clause-same c = λ distinct.
    let d = data_of c.args.«module».now in
    IfOk-weaker c.import_counted.result (λ (i : Imported). IsImported (seen_by i d) c.import_counted.new.ctx i) (λ (i : Imported). SameCode (match_of d i.blocks (pairs_of i.structs.items)) (Llvm.code_of d) (Dialect.code_of (imported_data c.import_counted.new.ctx i)))
    (λ i made. same_imported c.args.«module».now c.import_counted.new.ctx i c.requires.form made distinct) c.import_counted.ensures.imported

pub returns-clause-imported : goal.returns-clause-imported
returns-clause-imported c = c.import_counted.ensures.imported

pub returns-clause-number : goal.returns-clause-number
returns-clause-number c = rw c.make_room.ensures at c.import_counted.ensures.number

pub returns-clause-structs : goal.returns-clause-structs
returns-clause-structs c = c.import_counted.ensures.structs

pub returns-clause-cause : goal.returns-clause-cause
returns-clause-cause c = rw c.make_room.ensures at c.import_counted.ensures.cause

pub returns-clause-others : goal.returns-clause-others
returns-clause-others c = rw c.make_room.ensures at c.import_counted.ensures.others

pub returns-clause-typed : goal.returns-clause-typed
returns-clause-typed c = rw c.make_room.ensures at c.import_counted.ensures.typed

pub import_counted-requires-clause-names : goal.import_counted-requires-clause-names
import_counted-requires-clause-names c = c.new-names.ensures

pub returns-clause-held : goal.returns-clause-held
returns-clause-held c =
    let d = data_of c.args.«module».now in
    IfOk-weaker c.import_counted.result (λ (i : Imported). IsImported (seen_by i d) c.import_counted.new.ctx i) (λ (i : Imported). AreHeld d) (λ i made. c.in_ok-held.ensures.held) c.import_counted.ensures.imported

pub returns-clause-still : goal.returns-clause-still
returns-clause-still c =
    let d = data_of c.args.«module».now in
    let structs = structs_of c.make_room.new.ctx.types in
    if_err_as c.import_counted.result (IsCause structs d) _ (λ e cause early. absurd (held_late d structs c.in_ok-held.ensures.held e cause early)) c.import_counted.ensures.cause

pub returns-clause-only : goal.returns-clause-only
returns-clause-only c = rw c.make_room.ensures at c.import_counted.ensures.only

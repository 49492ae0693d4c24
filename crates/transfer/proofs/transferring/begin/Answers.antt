-- A new context is typed, what an import promises is what an export needs, and a module whose uses are valid and which
-- is held is refused for want of memory alone.
use Rattle.std.proofs.Common.{◌≡◌, IfErr, rules}
use Rattle.std.proofs.lemmas.Result.{IfErr-weaker}
use Rattle.llvm_core.specs.Data.{data_of}
use Rattle.llvm_core.proofs.DistinctLaws.{distinct_of_checked}
use Rattle.from_llvm_ir.specs.Imported.{seen_by}
use Rattle.from_llvm_ir.specs.Structs.{identifiers}
use Rattle.renamed_source.specs.Source.{pairs_of}
use Rattle.from_llvm_ir.proofs.KeepLaws.{empty_typed}
use Rattle.transfer.specs.declared.transfer_err.TransferErr.{TransferErr}
use Rattle.transfer.specs.declared.transfer_err.TransferErr.TheVariants as T
use Rattle.transfer.specs.Same.{IsCause}
use Rattle.transfer.proofs.CauseLaws.{in_empty, only_in_empty, of_import_cause, only_memory}
use Rattle.transfer.proofs.TransferLaws.{readable}
use Rattle.transfer.proofs.transferring.begin.Goals as goal

pub returns-clause-begun : goal.returns-clause-begun
returns-clause-begun c = record {
  form = c.requires.form;
  held = c.in_ok-imported.ensures.held;
  distinct = distinct_of_checked c.args.«module».now c.requires.checked;
  imported = c.in_ok-imported.ensures.imported;
  typed = c.convert_module.ensures.typed (empty_typed c.new-ctx.result c.new-ctx.ensures);
  structs = c.in_ok-imported.ensures.structs;
  only_structs = only_in_empty c.new-ctx.result c.convert_module.new.ctx (identifiers (pairs_of c.in_ok-imported.imported.structs.items)) c.new-ctx.ensures c.in_ok-imported.ensures.only;
}

pub returns-clause-readable : goal.returns-clause-readable
returns-clause-readable c =
    readable (seen_by c.in_ok-imported.imported (data_of c.args.«module».now)) c.convert_module.new.ctx c.in_ok-imported.imported c.in_ok-imported.ensures.imported
    (c.convert_module.ensures.typed (empty_typed c.new-ctx.result c.new-ctx.ensures))

pub returns-in_err-imported-clause-cause : goal.returns-in_err-imported-clause-cause
returns-in_err-imported-clause-cause c =
    let cause = of_import_cause (data_of c.args.«module».now) c.in_err-imported.field-0.0 (in_empty (data_of c.args.«module».now) c.new-ctx.result c.in_err-imported.field-0.0 c.new-ctx.ensures c.in_err-imported.ensures.cause) in
    search rules

pub returns-in_err-imported-clause-complete : goal.returns-in_err-imported-clause-complete
returns-in_err-imported-clause-complete c = λ valid held.
    let m = data_of c.args.«module».now in
    let cause = of_import_cause m c.in_err-imported.field-0.0 (in_empty m c.new-ctx.result c.in_err-imported.field-0.0 c.new-ctx.ensures c.in_err-imported.ensures.cause) in
    let all : IfErr c.from_residual.result (IsCause m) = search rules in
    IfErr-weaker c.from_residual.result (IsCause m) (λ (e : TransferErr). e ≡ T.NoMemory) (λ e h. only_memory m e h valid held) all

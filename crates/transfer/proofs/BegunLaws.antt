-- What an import that is done gives the export.
use Rattle.std.proofs.Common.{◌≡◌, map, All}
use Rattle.llvm_core.specs.Module.{Module}
use Rattle.llvm_core.specs.Checked.{IsChecked}
use Rattle.llvm_core.specs.Form.{IsForm}
use Rattle.llvm_core.specs.Data.{data_of}
use Rattle.dialect_core.specs.Data as D
use Rattle.dialect_core.specs.Form.{HasTargets}
use Rattle.meaning.specs.Code.{IsDistinctNames}
use Rattle.from_llvm_ir.specs.Imported.{imported_data, seen_by}
use Rattle.dialect_types.specs.Trees.{structs_of}
use Rattle.from_llvm_ir.proofs.MatchedLaws.{forms_imported, exportable_imported}
use Rattle.to_llvm_ir.specs.declared.to_llvm_err.ToLLVMErr.{ToLLVMErr}
use Rattle.to_llvm_ir.specs.Exported.{IsExported, IsCause as IsExportCause}
use Rattle.to_llvm_ir.specs.Held.{IsReadable}
use Rattle.transfer.specs.declared.transferring.Begun.{Begun}
use Rattle.transfer.specs.declared.transfer_err.TransferErr.TheVariants as T
use Rattle.transfer.specs.Begun.{IsBegun}
use Rattle.transfer.specs.Same.{SameThroughout, of_export, transferred_of}
use Rattle.transfer.proofs.CauseLaws.{only_memory_exported}
use Rattle.transfer.proofs.TransferLaws.{readable, same_throughout, targets_of, distinct_dialect}

module _ (m : Module) (b : Begun) where
  pub begun_readable : IsBegun m b → IsReadable b.ctx b.imported.«module».0.0
  begun_readable h = readable (seen_by b.imported (data_of m)) b.ctx b.imported h.imported h.typed

  module _ (back : Module) where
    pub begun_same : IsBegun m b → IsExported (structs_of b.ctx.types) (imported_data b.ctx b.imported) back → SameThroughout (data_of m) (transferred_of b.ctx b.imported back)
    begun_same h exported = same_throughout m back b.ctx b.imported h.form h.distinct h.imported h.structs h.only_structs exported

    pub begun_checked : IsBegun m b → (IsDistinctNames (map D.llvm_name_of (imported_data b.ctx b.imported).functions) → All HasTargets (imported_data b.ctx b.imported).functions → IsChecked back) → IsChecked back
    begun_checked h checked = checked (distinct_dialect (data_of m) b.ctx b.imported h.imported h.distinct) (targets_of (seen_by b.imported (data_of m)) b.ctx b.imported h.imported)

    pub begun_form : IsBegun m b → (All HasTargets (imported_data b.ctx b.imported).functions → IsForm (data_of back)) → IsForm (data_of back)
    begun_form h form = form (targets_of (seen_by b.imported (data_of m)) b.ctx b.imported h.imported)

  -- so a refusal of the export is want of memory
  pub begun_memory : (e : ToLLVMErr) → IsBegun m b → IsExportCause b.ctx (imported_data b.ctx b.imported) e → of_export e ≡ T.NoMemory
  begun_memory e h cause =
      let d = imported_data b.ctx b.imported in
      let forms = forms_imported (seen_by b.imported (data_of m)) h.imported.given (seen_by b.imported (data_of m)).functions b.imported.blocks d.functions h.imported.functions in
      let fit = exportable_imported (seen_by b.imported (data_of m)) h.imported.given (seen_by b.imported (data_of m)).functions b.imported.blocks d.functions h.imported.functions in
      only_memory_exported d forms fit b.ctx e cause

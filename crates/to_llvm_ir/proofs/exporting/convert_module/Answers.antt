-- The structs are those of the context, and the functions those that the module holds.
use Rattle.std.proofs.Common.{◌<◌, ◌^◌, length, refl, ap, arith}
use Rattle.llvm_core.specs.Data as L
use Rattle.llvm_core.proofs.FormLaws.{checked_of_form}
use Rattle.dialect_types.specs.Trees.{structs_of}
use Rattle.dialect_core.specs.Data as D
use Rattle.meaning.specs.Llvm as Llvm
use Rattle.meaning.specs.Dialect as Dialect
use Rattle.to_llvm_ir.specs.declared.to_llvm_err.ToLLVMErr.TheVariants as E
use Rattle.to_llvm_ir.specs.Exported.{IsCause}
use Rattle.to_llvm_ir.proofs.ResultLaws.{passed}
use Rattle.to_llvm_ir.proofs.FinishLaws.{with_structs, all_made, all_exported}
use Rattle.to_llvm_ir.proofs.CodeLaws.{same_exported, traces_exported}
use Rattle.to_llvm_ir.proofs.CheckedLaws.{form_exported, held_exported, distinct_exported, few_exported}
use Rattle.to_llvm_ir.proofs.exporting.convert_module.Goals as goal

pub returns-in_err-convert_held_functions-clause-cause : goal.returns-in_err-convert_held_functions-clause-cause
returns-in_err-convert_held_functions-clause-cause c =
    passed c.from_residual-in_err-convert_held_functions.result c.in_err-convert_held_functions.field-0.0 (IsCause c.args.ctx.now (D.data_of c.args.ctx.now c.args.«module».0.0))
    c.from_residual-in_err-convert_held_functions.ensures.1 c.in_err-convert_held_functions.ensures.cause

pub returns-in_err-convert_structs-clause-cause : goal.returns-in_err-convert_structs-clause-cause
returns-in_err-convert_structs-clause-cause c =
    passed c.from_residual-in_err-convert_structs.result E.NoMemory (IsCause c.args.ctx.now (D.data_of c.args.ctx.now c.args.«module».0.0)) c.from_residual-in_err-convert_structs.ensures.1 tt

pub convert_held_functions-requires-clause-structs : goal.convert_held_functions-requires-clause-structs
convert_held_functions-requires-clause-structs c =
    ap (λ (d : L.ModuleData). d.structs) (with_structs _ (structs_of c.args.ctx.now.types) (L.data_of c.in_ok-cctx.cctx.module) (L.data_of c.convert_structs.new.back) c.in_ok-cctx.ensures.module_data c.in_ok-convert_structs.ensures.structs)

pub returns : goal.returns
returns c =
    let context = c.args.ctx.now in
    let root = c.args.«module».0.0 in
    let source = D.data_of context root in
    let back = c.convert_held_functions.new.cctx.module in
    let structs = structs_of context.types in
    let done = c.in_ok-convert_structs.ensures in
    let begun = L.data_of c.convert_structs.new.back in
    let is = with_structs _ structs (L.data_of c.in_ok-cctx.cctx.module) begun c.in_ok-cctx.ensures.module_data done.structs in
    let few : length structs < 2 ^ 31 = let e = ap (λ (d : L.ModuleData). length d.structs) is in let f = done.few in omega (arith, e, f) in
    let adds = c.in_ok-convert_held_functions.ensures.ok in
    let made = all_made context root (D.held context root) _ structs begun back refl is adds in
    let exported = all_exported context root (D.held context root) _ structs begun back refl is adds c.name_of.ensures in
    let typed = c.requires.typed in
    record {
      exported = exported;
      traces = traces_exported context (Llvm.setting_of (L.data_of back)) (Dialect.setting_of source) source.functions (L.data_of back).functions c.requires.functions exported.functions;
      same = λ distinct only. same_exported context source (L.data_of back) c.requires.functions only exported.functions distinct;
      form = λ targets. form_exported context root done.stored typed back exported made c.know_sound.ensures.sound targets;
      held = held_exported context root done.stored typed back exported made;
      checked = λ distinct targets.
          checked_of_form back c.know_sound.ensures.sound c.know_sound.ensures.apart (form_exported context root done.stored typed back exported made c.know_sound.ensures.sound targets) (distinct_exported context root done.stored typed back exported made distinct)
          (few_exported context root done.stored typed back exported made few done.structs.few);
      cause = tt;
    }

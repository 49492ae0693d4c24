-- What `importing::import_bodies` owes besides what the check finds.
use Rattle.std.proofs.Common.{ℕ, List, ◌+◌, sym, subst, arith}
use Rattle.llvm_core.specs.Data.{Function, data_of}
use Rattle.llvm_core.proofs.DataLemmas.{function_count, within_at}
use Rattle.dialect_types.specs.Trees.{structs_of}
use Rattle.from_llvm_ir.specs.Types.{IsReadyFor}
use Rattle.from_llvm_ir.specs.declared.matching.FunctionBlocks.{FunctionBlocks}
use Rattle.from_llvm_ir.specs.Importing.{IsImportedTo}
use Rattle.from_consts.specs.declared.conversion_err.ConversionErr.TheVariants as E
use Rattle.dialect_types.proofs.LegalLaws.{gave_kept}
use Rattle.from_llvm_ir.proofs.NameLaws.{goes_same, goes_then}
use Rattle.from_llvm_ir.proofs.SourceLaws.{source_at}
use Rattle.held_types.proofs.WalkLaws.{passed_on}
use Rattle.from_llvm_ir.proofs.ModuleLaws.{imported_none, imported_more, function_cause, name_given, names_long}
use Rattle.from_llvm_ir.proofs.KeepLaws.{keeps_none, keeps_then}
use Rattle.from_llvm_ir.proofs.importing.import_bodies.Goals as goal

pub import_function-requires-clause-source : goal.import_function-requires-clause-source
import_function-requires-clause-source g c =
    let s = source_at c.args.source.now c.loop-f.f c.functions-f-end.ensures.sound c.requires.form c.requires.held (omega (arith, c.functions-f-end.ensures.len, c.loop-f-test.true)) in
    let b = c.requires.building in
    let old = structs_of c.args.ctx.now.types in
    let ready = within_at (data_of c.args.source.now).functions (λ (g : Function). IsReadyFor g old) c.requires.ready c.loop-f.f s.0 s.1.at in
    (s.0, s.1, subst (IsReadyFor s.0) (sym (c.loop-f.invariant.kept b.0 b.1 b.2 0 0 (omega arith) (omega arith)).structs) ready)

pub import_function-requires-clause-name : goal.import_function-requires-clause-name
import_function-requires-clause-name g c = λ f h.
    gave_kept c.args.names.now c.loop-f.names f.name c.index-given-f.result c.loop-f.invariant.grown
    (name_given c.args.names.now (data_of c.args.source.now).functions c.args.given.now c.loop-f.f f c.index-given-f.result c.requires.given h.at c.index-given-f.is)

pub bounds-given-f : goal.bounds-given-f
bounds-given-f g c =
    let long = names_long (data_of c.args.source.now).functions c.args.names.now c.args.given.now c.requires.given c.loop-f.f (omega (arith, function_count c.args.source.now, c.functions-f-end.ensures.len, c.loop-f-test.true)) in
    omega (arith, long)

pub import_function-requires-clause-module : goal.import_function-requires-clause-module
import_function-requires-clause-module g c = let b = c.requires.building in let h = c.loop-f.invariant.imported b.0 b.1 b.2 c.loop-f.names (goes_same c.loop-f.names) in (b.0, h.so_far, h.building)

pub returns-in_err-import_function-clause-err : goal.returns-in_err-import_function-clause-err
returns-in_err-import_function-clause-err g c =
    let s = source_at c.args.source.now c.loop-f.f c.functions-f-end.ensures.sound c.requires.form c.requires.held (omega (arith, c.functions-f-end.ensures.len, c.loop-f-test.true)) in
    passed_on c.from_residual.result c.in_err-import_function.field-0.0 _ c.from_residual.ensures.1
    (function_cause c.args.source.now (record { 0 = c.loop-f.f }) s.0 c.in_err-import_function.field-0.0 s.1 (c.in_err-import_function.ensures.err s.0 s.1))

pub loop-f-init : goal.loop-f-init
loop-f-init g c = record {
  within = omega arith;
  imported = λ m name h given on. subst (λ (bs : List FunctionBlocks). IsImportedTo (data_of c.args.source.now) given 0 c.args.ctx.now m c.args.body name bs) (sym c.new-blocks.ensures) (imported_none (data_of c.args.source.now) given c.args.ctx.now m c.args.body name h);
  grown = goes_same c.args.names.now;
  kept = λ m name h n b before behind. keeps_none n b c.args.ctx.now;
}

pub loop-f-preserved : goal.loop-f-preserved
loop-f-preserved g c =
    let s = source_at c.args.source.now c.loop-f.f c.functions-f-end.ensures.sound c.requires.form c.requires.held (omega (arith, c.functions-f-end.ensures.len, c.loop-f-test.true)) in
    let x = c.in_ok-import_function.field-0 in
    record {
      within = omega (arith, c.functions-f-end.ensures.len, c.loop-f-test.true);
      imported = λ m name h given on.
          let so = c.loop-f.invariant.imported m name h given (goes_then c.loop-f.names c.import_function.new.names given c.import_function.ensures.grows on) in
          subst (λ (bs : List FunctionBlocks). IsImportedTo (data_of c.args.source.now) given (c.loop-f.f + 1) c.import_function.new.ctx m c.args.body name bs) (sym c.in_ok-push.ensures.ok)
          (imported_more (data_of c.args.source.now) given c.loop-f.f s.0 c.loop-f.ctx c.import_function.new.ctx m c.args.body name c.loop-f.blocks x so s.1.at
          (c.in_ok-import_function.ensures.ok s.0 s.1 m so.so_far so.building given on));
      grown = goes_then c.args.names.now c.loop-f.names c.import_function.new.names c.loop-f.invariant.grown c.import_function.ensures.grows;
      kept = λ m name h n b before behind.
          let so = c.loop-f.invariant.imported m name h c.loop-f.names (goes_same c.loop-f.names) in
          keeps_then n b c.args.ctx.now c.loop-f.ctx c.import_function.new.ctx (c.loop-f.invariant.kept m name h n b before behind) (c.import_function.ensures.kept m so.so_far so.building n b before behind);
    }

pub returns-clause-ok : goal.returns-clause-ok
returns-clause-ok g c = λ m name h given on.
    subst (λ (k : ℕ). IsImportedTo (data_of c.args.source.now) given k c.loop-f.ctx m c.args.body name c.loop-f.blocks)
    (omega (arith, c.functions-f-end.ensures.len, c.loop-f-test.false, c.loop-f.invariant.within))
    (c.loop-f.invariant.imported m name h given on)

pub returns-in_err-import_function-clause-kept : goal.returns-in_err-import_function-clause-kept
returns-in_err-import_function-clause-kept g c = λ m name h n b before behind.
    let so = c.loop-f.invariant.imported m name h c.loop-f.names (goes_same c.loop-f.names) in
    keeps_then n b c.args.ctx.now c.loop-f.ctx c.import_function.new.ctx (c.loop-f.invariant.kept m name h n b before behind) (c.import_function.ensures.kept m so.so_far so.building n b before behind)

pub returns-in_err-push-clause-kept : goal.returns-in_err-push-clause-kept
returns-in_err-push-clause-kept g c = λ m name h n b before behind.
    let so = c.loop-f.invariant.imported m name h c.loop-f.names (goes_same c.loop-f.names) in
    keeps_then n b c.args.ctx.now c.loop-f.ctx c.import_function.new.ctx (c.loop-f.invariant.kept m name h n b before behind) (c.import_function.ensures.kept m so.so_far so.building n b before behind)

pub returns-in_err-push-clause-err : goal.returns-in_err-push-clause-err
returns-in_err-push-clause-err g c = passed_on c.from_residual-in_err-push.result E.NoMemory _ c.from_residual-in_err-push.ensures.1 tt

pub returns-clause-kept : goal.returns-clause-kept
returns-clause-kept g c = c.loop-f.invariant.kept

pub returns-in_err-import_function-clause-grows : goal.returns-in_err-import_function-clause-grows
returns-in_err-import_function-clause-grows g c =
    goes_then c.args.names.now c.loop-f.names c.import_function.new.names c.loop-f.invariant.grown c.import_function.ensures.grows

pub returns-in_err-push-clause-grows : goal.returns-in_err-push-clause-grows
returns-in_err-push-clause-grows g c =
    goes_then c.args.names.now c.loop-f.names c.import_function.new.names c.loop-f.invariant.grown c.import_function.ensures.grows

pub returns-clause-grows : goal.returns-clause-grows
returns-clause-grows g c = c.loop-f.invariant.grown

-- What `importing::import_parts` owes besides what the check finds.
use Rattle.std.proofs.Common.{ℕ, ◌≡◌, ◌∙◌, sym, ap, subst, List, length, arith}
use Rattle.llvm_core.specs.Data as L
use Rattle.llvm_core.specs.Data.{ModuleData, data_of}
use Rattle.llvm_core.specs.Module.{Module}
use Rattle.renamed_source.specs.Names.{AreStructNames, struct_name, renamed_store}
use Rattle.renamed_source.specs.Source.{pairs_of}
use Rattle.from_llvm_ir.specs.Importing.{IsImportedTo}
use Rattle.from_llvm_ir.specs.Structs.{AddsOnly, AreNamed, AreMade, HasOtherBody, identifiers}
use Rattle.from_consts.specs.Forward.{of_struct}
use Rattle.dialect_types.specs.declared.struct_err.StructErr.TheVariants as S
use Rattle.meaning.specs.Pairs.{Matched}
use Rattle.dialect_types.specs.Legalised.{Gave}
use Rattle.dialect_types.specs.Trees.{structs_of}
use Rattle.renamed_source.proofs.DataLaws.{renamed_data}
use Rattle.held_types.proofs.WalkLaws.{passed_on}
use Rattle.from_llvm_ir.proofs.KeepLaws.{leaves_added, leaves_then}
use Rattle.from_llvm_ir.proofs.NameLaws.{goes_then}
use Rattle.from_llvm_ir.proofs.PartsLaws.{named_later, names_given, other_after, seen_form, seen_held, seen_given, seen_ready, seen_cause, struct_match}
use Rattle.from_llvm_ir.proofs.UnderLaws.{added_building}
use Rattle.from_llvm_ir.proofs.importing.import_parts.Goals as goal

pub new-requires : goal.new-requires
new-requires g c = record {
  names =
      subst (λ ps. AreStructNames (pairs_of ps)) (sym c.as_slice.ensures.value)
      (names_given (data_of c.args.«module».now) c.name_structs.new.names (pairs_of c.in_ok-structs.structs.items) c.keeps_legal.ensures c.in_ok-structs.ensures.named);
}

pub make_structs-requires-clause-names : goal.make_structs-requires-clause-names
make_structs-requires-clause-names g c =
    subst (λ ps. AreStructNames (pairs_of ps)) (sym c.as_slice-2.ensures.value)
    (names_given (data_of c.args.«module».now) c.name_structs.new.names (pairs_of c.in_ok-structs.structs.items) c.keeps_legal.ensures c.in_ok-structs.ensures.named)

pub make_structs-requires-clause-listed : goal.make_structs-requires-clause-listed
make_structs-requires-clause-listed g c =
    (c.name_structs.new.names, subst (λ ps. AreNamed (data_of c.args.«module».now) c.name_structs.new.names (pairs_of ps)) (sym c.as_slice-2.ensures.value) c.in_ok-structs.ensures.named)

pub returns-in_err-make_structs-clause-kept : goal.returns-in_err-make_structs-clause-kept
returns-in_err-make_structs-clause-kept g c = λ m name h n b before behind. leaves_added n b c.args.ctx.now c.make_structs.new.ctx c.make_structs.ensures.added

pub import_bodies-requires-clause-form : goal.import_bodies-requires-clause-form
import_bodies-requires-clause-form g c =
    let ps = pairs_of c.in_ok-structs.structs.items in
    let names = names_given (data_of c.args.«module».now) c.name_structs.new.names ps c.keeps_legal.ensures c.in_ok-structs.ensures.named in
    let is = c.in_ok-source.ensures ∙ ap (λ qs. renamed_store (struct_name (pairs_of qs)) c.args.«module».now) c.as_slice.ensures.value in
    seen_form c.args.«module».now c.in_ok-source.source ps names is c.requires.form

pub import_bodies-requires-clause-held : goal.import_bodies-requires-clause-held
import_bodies-requires-clause-held g c =
    let ps = pairs_of c.in_ok-structs.structs.items in
    let names = names_given (data_of c.args.«module».now) c.name_structs.new.names ps c.keeps_legal.ensures c.in_ok-structs.ensures.named in
    let is = c.in_ok-source.ensures ∙ ap (λ qs. renamed_store (struct_name (pairs_of qs)) c.args.«module».now) c.as_slice.ensures.value in
    seen_held c.args.«module».now c.in_ok-source.source ps names is c.requires.form c.requires.taken

pub import_bodies-requires-clause-given : goal.import_bodies-requires-clause-given
import_bodies-requires-clause-given g c =
    let ps = pairs_of c.in_ok-structs.structs.items in
    let names = names_given (data_of c.args.«module».now) c.name_structs.new.names ps c.keeps_legal.ensures c.in_ok-structs.ensures.named in
    let is = c.in_ok-source.ensures ∙ ap (λ qs. renamed_store (struct_name (pairs_of qs)) c.args.«module».now) c.as_slice.ensures.value in
    seen_given c.args.«module».now c.in_ok-source.source ps names is c.function_names.new.names c.name_structs.new.names c.name_structs.ensures.grows c.as_slice-3.result.now
    (subst (λ (ns : List (List ℕ)). Matched (λ (f : L.Function) (n : List ℕ). Gave c.function_names.new.names f.name n) (data_of c.args.«module».now).functions ns) (sym c.as_slice-3.ensures.value) c.in_ok-given.ensures.given)

pub import_bodies-requires-clause-ready : goal.import_bodies-requires-clause-ready
import_bodies-requires-clause-ready g c =
    let ps = pairs_of c.in_ok-structs.structs.items in
    let names = names_given (data_of c.args.«module».now) c.name_structs.new.names ps c.keeps_legal.ensures c.in_ok-structs.ensures.named in
    let is = c.in_ok-source.ensures ∙ ap (λ qs. renamed_store (struct_name (pairs_of qs)) c.args.«module».now) c.as_slice.ensures.value in
    let made = subst (λ qs. AreMade (data_of c.args.«module».now) (pairs_of qs) (structs_of c.make_structs.new.ctx.types)) c.as_slice-2.ensures.value c.in_ok-make_structs.ensures.made in
    seen_ready c.args.«module».now c.in_ok-source.source ps names is c.name_structs.new.names (structs_of c.make_structs.new.ctx.types) c.in_ok-structs.ensures.named made c.requires.form c.requires.taken

pub import_bodies-requires-clause-building : goal.import_bodies-requires-clause-building
import_bodies-requires-clause-building g c =
    let b = c.requires.building in
    (b.0, b.1, added_building c.args.ctx.now c.make_structs.new.ctx b.0 c.args.body _ b.2 c.make_structs.ensures.added)

pub returns-in_err-blocks-clause-err : goal.returns-in_err-blocks-clause-err
returns-in_err-blocks-clause-err g c =
    let ps = pairs_of c.in_ok-structs.structs.items in
    let names = names_given (data_of c.args.«module».now) c.name_structs.new.names ps c.keeps_legal.ensures c.in_ok-structs.ensures.named in
    let is = c.in_ok-source.ensures ∙ ap (λ qs. renamed_store (struct_name (pairs_of qs)) c.args.«module».now) c.as_slice.ensures.value in
    passed_on c.from_residual-in_err-blocks.result c.in_err-blocks.field-0.0 _ c.from_residual-in_err-blocks.ensures.1
    (seen_cause c.args.«module».now c.in_ok-source.source ps names is c.args.names.now (structs_of c.args.ctx.now.types) c.in_err-blocks.field-0.0 c.in_err-blocks.ensures.err)

pub returns-in_err-blocks-clause-kept : goal.returns-in_err-blocks-clause-kept
returns-in_err-blocks-clause-kept g c = λ m name h n b before behind.
    leaves_then n b c.args.ctx.now c.make_structs.new.ctx c.import_bodies.new.ctx (leaves_added n b c.args.ctx.now c.make_structs.new.ctx c.make_structs.ensures.added)
    (c.import_bodies.ensures.kept m name (added_building c.args.ctx.now c.make_structs.new.ctx m c.args.body _ h c.make_structs.ensures.added) n b before behind).leaves

pub returns-clause-ok : goal.returns-clause-ok
returns-clause-ok g c = λ m name h given on.
    let ps = pairs_of c.in_ok-structs.structs.items in
    let names = names_given (data_of c.args.«module».now) c.name_structs.new.names ps c.keeps_legal.ensures c.in_ok-structs.ensures.named in
    let is = c.in_ok-source.ensures ∙ ap (λ qs. renamed_store (struct_name (pairs_of qs)) c.args.«module».now) c.as_slice.ensures.value in
    let building = added_building c.args.ctx.now c.make_structs.new.ctx m c.args.body _ h c.make_structs.ensures.added in
    let made = c.in_ok-blocks.ensures.ok m name building given on in
    let stored = subst (λ (s : Module). IsImportedTo (data_of s) given (length s.functions) c.import_bodies.new.ctx m c.args.body name c.in_ok-blocks.blocks) is made in
    subst (λ (d : ModuleData). IsImportedTo d given (length c.args.«module».now.functions) c.import_bodies.new.ctx m c.args.body name c.in_ok-blocks.blocks) (renamed_data (struct_name ps) c.args.«module».now) stored

pub returns-clause-structs : goal.returns-clause-structs
returns-clause-structs g c =
    let b = c.requires.building in
    let building = added_building c.args.ctx.now c.make_structs.new.ctx b.0 c.args.body _ b.2 c.make_structs.ensures.added in
    let still = (c.import_bodies.ensures.kept b.0 b.1 building 0 0 (omega arith) (omega arith)).leaves.still (omega arith) in
    let made = subst (λ ps. AreMade (data_of c.args.«module».now) (pairs_of ps) (structs_of c.make_structs.new.ctx.types)) c.as_slice-2.ensures.value c.in_ok-make_structs.ensures.made in
    struct_match (data_of c.args.«module».now) c.name_structs.new.names (pairs_of c.in_ok-structs.structs.items) c.make_structs.new.ctx.types c.import_bodies.new.ctx.types c.keeps_legal.ensures c.in_ok-structs.ensures.named made still.types
    c.know_stored.ensures

pub returns-clause-met : goal.returns-clause-met
returns-clause-met g c = record { between = c.function_names.new.names; met = c.in_ok-given.ensures.met; more = goes_then c.function_names.new.names c.name_structs.new.names c.import_bodies.new.names c.name_structs.ensures.grows c.import_bodies.ensures.grows }

pub returns-clause-kept : goal.returns-clause-kept
returns-clause-kept g c = λ m name h n b before behind.
    leaves_then n b c.args.ctx.now c.make_structs.new.ctx c.import_bodies.new.ctx (leaves_added n b c.args.ctx.now c.make_structs.new.ctx c.make_structs.ensures.added)
    (c.import_bodies.ensures.kept m name (added_building c.args.ctx.now c.make_structs.new.ctx m c.args.body _ h c.make_structs.ensures.added) n b before behind).leaves

pub returns-clause-named : goal.returns-clause-named
returns-clause-named g c = named_later (data_of c.args.«module».now) c.name_structs.new.names c.import_bodies.new.names (pairs_of c.in_ok-structs.structs.items) c.import_bodies.ensures.grows c.in_ok-structs.ensures.named

pub returns-clause-only : goal.returns-clause-only
returns-clause-only g c =
    let b = c.requires.building in
    let building = added_building c.args.ctx.now c.make_structs.new.ctx b.0 c.args.body _ b.2 c.make_structs.ensures.added in
    let same = (c.import_bodies.ensures.kept b.0 b.1 building 0 0 (omega arith) (omega arith)).structs in
    let only = subst (λ ps. AddsOnly (structs_of c.args.ctx.now.types) (structs_of c.make_structs.new.ctx.types) (identifiers (pairs_of ps))) c.as_slice-2.ensures.value c.make_structs.ensures.only in
    subst (λ ss. AddsOnly (structs_of c.args.ctx.now.types) ss (identifiers (pairs_of c.in_ok-structs.structs.items))) (sym same) only

pub returns-in_err-make_structs-clause-err : goal.returns-in_err-make_structs-clause-err
returns-in_err-make_structs-clause-err g c =
    let before = structs_of c.args.ctx.now.types in
    let d = data_of c.args.«module».now in
    let other = subst (λ ps. (i : List ℕ) → c.in_err-make_structs.field-0.0 ≡ S.DifferentBody i → HasOtherBody before d (pairs_of ps) i) c.as_slice-2.ensures.value c.in_err-make_structs.ensures.other in
    passed_on c.from_residual-in_err-make_structs.result (of_struct c.in_err-make_structs.field-0.0) _ c.from_residual-in_err-make_structs.ensures.1
    (other_after c.args.names.now c.function_names.new.names c.name_structs.new.names before d (pairs_of c.in_ok-structs.structs.items) c.in_err-make_structs.field-0.0 c.keeps_legal.ensures c.in_ok-given.ensures.met
    c.in_ok-structs.ensures.met c.in_ok-structs.ensures.named other)

-- What `importing::import_counted` owes besides what the check finds.
use Rattle.std.proofs.Common.{ap, subst, arith}
use Rattle.dialect_types.specs.Trees.{structs_of}
use Rattle.from_consts.specs.declared.conversion_err.ConversionErr.TheVariants as E
use Rattle.dialect_types.proofs.LegalLaws.{gave_kept}
use Rattle.held_types.proofs.WalkLaws.{passed_on}
use Rattle.from_llvm_ir.proofs.NameLaws.{goes_same}
use Rattle.from_llvm_ir.proofs.OwnLaws.{held_types}
use Rattle.from_llvm_ir.proofs.ModuleLaws.{begun_with}
use Rattle.from_llvm_ir.proofs.PartsLaws.{cause_after, imported_seen}
use Rattle.from_llvm_ir.specs.Structs.{AddsOnly, identifiers}
use Rattle.renamed_source.specs.Source.{pairs_of}
use Rattle.from_llvm_ir.proofs.KeepLaws.{leaves_begun, others_kept, types_kept}
use Rattle.from_llvm_ir.proofs.importing.import_counted.Goals as goal

pub know_kept-requires : goal.know_kept-requires
know_kept-requires g c = (c.in_ok-blocks.ensures.ok c.in_ok-module.«module».0.0 c.in_ok-module.ensures.building.0 c.in_ok-module.ensures.building.2 c.import_parts.new.names (goes_same c.import_parts.new.names)).building.there

pub has_few-requires-clause-body : goal.has_few-requires-clause-body
has_few-requires-clause-body g c = (c.in_ok-blocks.ensures.ok c.in_ok-module.«module».0.0 c.in_ok-module.ensures.building.0 c.in_ok-module.ensures.building.2 c.import_parts.new.names (goes_same c.import_parts.new.names)).building.held.block

pub has_few-requires-clause-types : goal.has_few-requires-clause-types
has_few-requires-clause-types g c =
    let b = (c.in_ok-blocks.ensures.ok c.in_ok-module.«module».0.0 c.in_ok-module.ensures.building.0 c.in_ok-module.ensures.building.2 c.import_parts.new.names (goes_same c.import_parts.new.names)).building in
    held_types c.import_parts.new.ctx c.in_ok-module.«module».0.0 c.in_ok-module.body b.held b.own

pub returns-clause-imported : goal.returns-clause-imported
returns-clause-imported g c =
    let start = c.in_ok-module.ensures in
    let begins = begun_with c.args.source.now c.args.names.now c.start_module.new.names c.import_parts.new.names c.requires.names start.met c.in_ok-blocks.ensures.met in
    let gave = gave_kept c.start_module.new.names c.import_parts.new.names c.args.source.now.name start.building.0 c.import_parts.ensures.grows start.building.1 in
    imported_seen c.args.source.now c.import_parts.new.names c.import_parts.new.ctx _ c.in_ok-module.body start.building.0 c.keeps_legal.ensures begins gave c.know_kept.ensures.regions c.know_kept.ensures.symbols (c.has_few.ensures.0 c.if-not-has_few.false)
    c.in_ok-blocks.ensures.named.gave
    (c.in_ok-blocks.ensures.ok c.in_ok-module.«module».0.0 c.in_ok-module.ensures.building.0 c.in_ok-module.ensures.building.2 c.import_parts.new.names (goes_same c.import_parts.new.names))
    c.requires.form c.requires.taken c.in_ok-blocks.ensures.named c.in_ok-blocks.ensures.structs.made

pub returns-in_err-module-clause-others : goal.returns-in_err-module-clause-others
returns-in_err-module-clause-others g c = others_kept c.args.ctx.now c.start_module.new.ctx (c.start_module.ensures.kept _ _ (omega arith)).leaves

pub returns-in_err-blocks-clause-others : goal.returns-in_err-blocks-clause-others
returns-in_err-blocks-clause-others g c =
    let start = c.in_ok-module.ensures in
    others_kept c.args.ctx.now c.import_parts.new.ctx
    (leaves_begun c.args.ctx.now c.start_module.new.ctx c.import_parts.new.ctx _ _ c.start_module.ensures.kept start.number start.block (c.import_parts.ensures.kept c.in_ok-module.«module».0.0 start.building.0 start.building.2))

pub returns-then-not-has_few-clause-others : goal.returns-then-not-has_few-clause-others
returns-then-not-has_few-clause-others g c =
    let start = c.in_ok-module.ensures in
    others_kept c.args.ctx.now c.import_parts.new.ctx
    (leaves_begun c.args.ctx.now c.start_module.new.ctx c.import_parts.new.ctx _ _ c.start_module.ensures.kept start.number start.block (c.import_parts.ensures.kept c.in_ok-module.«module».0.0 start.building.0 start.building.2))

pub returns-clause-others : goal.returns-clause-others
returns-clause-others g c =
    let start = c.in_ok-module.ensures in
    others_kept c.args.ctx.now c.import_parts.new.ctx
    (leaves_begun c.args.ctx.now c.start_module.new.ctx c.import_parts.new.ctx _ _ c.start_module.ensures.kept start.number start.block (c.import_parts.ensures.kept c.in_ok-module.«module».0.0 start.building.0 start.building.2))

pub returns-in_err-module-clause-typed : goal.returns-in_err-module-clause-typed
returns-in_err-module-clause-typed g c = types_kept c.args.ctx.now c.start_module.new.ctx (c.start_module.ensures.kept _ _ (omega arith)).leaves

pub returns-in_err-blocks-clause-typed : goal.returns-in_err-blocks-clause-typed
returns-in_err-blocks-clause-typed g c =
    let start = c.in_ok-module.ensures in
    types_kept c.args.ctx.now c.import_parts.new.ctx
    (leaves_begun c.args.ctx.now c.start_module.new.ctx c.import_parts.new.ctx _ _ c.start_module.ensures.kept start.number start.block (c.import_parts.ensures.kept c.in_ok-module.«module».0.0 start.building.0 start.building.2))

pub returns-then-not-has_few-clause-typed : goal.returns-then-not-has_few-clause-typed
returns-then-not-has_few-clause-typed g c =
    let start = c.in_ok-module.ensures in
    types_kept c.args.ctx.now c.import_parts.new.ctx
    (leaves_begun c.args.ctx.now c.start_module.new.ctx c.import_parts.new.ctx _ _ c.start_module.ensures.kept start.number start.block (c.import_parts.ensures.kept c.in_ok-module.«module».0.0 start.building.0 start.building.2))

pub returns-clause-typed : goal.returns-clause-typed
returns-clause-typed g c =
    let start = c.in_ok-module.ensures in
    types_kept c.args.ctx.now c.import_parts.new.ctx
    (leaves_begun c.args.ctx.now c.start_module.new.ctx c.import_parts.new.ctx _ _ c.start_module.ensures.kept start.number start.block (c.import_parts.ensures.kept c.in_ok-module.«module».0.0 start.building.0 start.building.2))

pub import_parts-requires-clause-form : goal.import_parts-requires-clause-form
import_parts-requires-clause-form g c = c.requires.form

pub import_parts-requires-clause-building : goal.import_parts-requires-clause-building
import_parts-requires-clause-building g c = (c.in_ok-module.«module».0.0, c.in_ok-module.ensures.building.0, c.in_ok-module.ensures.building.2)

pub returns-clause-number : goal.returns-clause-number
returns-clause-number g c = c.in_ok-module.ensures.number

pub returns-in_err-module-clause-cause : goal.returns-in_err-module-clause-cause
returns-in_err-module-clause-cause g c = passed_on c.from_residual.result E.NoMemory _ c.from_residual.ensures.1 tt

pub returns-in_err-blocks-clause-cause : goal.returns-in_err-blocks-clause-cause
returns-in_err-blocks-clause-cause g c =
    let start = c.in_ok-module.ensures in
    passed_on c.from_residual-in_err-blocks.result c.in_err-blocks.field-0.0 _ c.from_residual-in_err-blocks.ensures.1
    (cause_after c.args.source.now c.args.names.now c.start_module.new.names (structs_of c.start_module.new.ctx.types) (structs_of c.args.ctx.now.types) c.requires.names start.met (ap structs_of start.types) c.in_err-blocks.field-0.0
    c.in_err-blocks.ensures.err)

pub returns-clause-only : goal.returns-clause-only
returns-clause-only g c =
    subst (λ ks. AddsOnly (structs_of ks) (structs_of c.import_parts.new.ctx.types) (identifiers (pairs_of c.in_ok-blocks.structs.items))) c.in_ok-module.ensures.types c.in_ok-blocks.ensures.only

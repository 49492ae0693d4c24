-- What `functions::import_body` owes besides what the check finds.
use Rattle.std.proofs.Common.{refl, sym, subst, arith}
use Rattle.std.proofs.lemmas.Result.{on_ok_weaker, IfErr-weaker}
use Rattle.dialect_types.specs.Legalised.{GoesOn}
use Rattle.from_consts.specs.declared.conversion_err.ConversionErr.TheVariants as E
use Rattle.held_types.proofs.WalkLaws.{passed_on}
use Rattle.from_llvm_ir.proofs.NameLaws.{goes_same, goes_then}
use Rattle.from_llvm_ir.proofs.SourceLaws.{function_within}
use Rattle.from_llvm_ir.proofs.StartLaws.{blocks_there, first_target, started, not_filled}
use Rattle.from_llvm_ir.proofs.KeepLaws.{keeps_none, keeps_then}
use Rattle.from_llvm_ir.proofs.functions.import_body.Goals as goal

pub blocks-requires : goal.blocks-requires
blocks-requires g c = let r = c.requires c.args.names.now (goes_same c.args.names.now) in function_within c.args.source.now c.args.f r.0.source r.1.source

pub bounds-blocks-0 : goal.bounds-blocks-0
bounds-blocks-0 g c = let r = c.requires c.args.names.now (goes_same c.args.names.now) in blocks_there c.args.source.now c.args.f r.0.source c.blocks-2.result.now r.1.source c.blocks-2.ensures.blocks

pub target_of-block-requires : goal.target_of-block-requires
target_of-block-requires g c =
    let r = c.requires c.add_blocks.new.names c.add_blocks.ensures.grows in
    let goes = subst (GoesOn c.add_blocks.new.names) (sym r.4) (goes_same c.add_blocks.new.names) in
    rw (first_target c.args.source.now c.args.f r.0 c.blocks-2.result.now (record { 0 = 0 }) c.in_ok-targets.targets r.1 c.blocks-2.ensures.blocks (c.in_ok-targets.ensures.targets r.0 r.1 r.2 r.3 goes)) refl

pub hoist_constants-requires : goal.hoist_constants-requires
hoist_constants-requires g c =
    let r = c.requires c.add_blocks.new.names c.add_blocks.ensures.grows in
    let goes = subst (GoesOn c.add_blocks.new.names) (sym r.4) (goes_same c.add_blocks.new.names) in
    let s = started c.args.source.now c.args.f r.0 c.args.func c.add_blocks.new.ctx c.in_ok-values.values c.args.order.now c.blocks-2.result.now (record { 0 = 0 }) c.in_ok-targets.targets c.target_of-block.result c.param_count.result r.1 r.2
    c.blocks-2.ensures.blocks (c.in_ok-targets.ensures.targets r.0 r.1 r.2 r.3 goes) c.target_of-block.ensures (c.in_ok-targets.ensures.heads r.0 r.1 r.2 r.3 goes) (c.param_count.ensures r.0.source r.1.source) c.in_ok-values.ensures in
    (r.0, r.1, r.2, c.in_ok-entries.ensures r.0.source r.1.source, s.hoisting, s.first)

pub import_blocks-requires : goal.import_blocks-requires
import_blocks-requires g c = λ given on.
    let r = c.requires given (goes_then c.args.names.now c.add_blocks.new.names given c.add_blocks.ensures.grows on) in
    let goes = subst (GoesOn c.add_blocks.new.names) (sym r.4) on in
    let m = c.args.source.now in
    let noted = c.in_ok-entries.ensures r.0.source r.1.source in
    let leads = c.in_ok-targets.ensures.targets r.0 r.1 r.2 r.3 goes in
    let s = started m c.args.f r.0 c.args.func c.add_blocks.new.ctx c.in_ok-values.values c.args.order.now c.blocks-2.result.now (record { 0 = 0 }) c.in_ok-targets.targets c.target_of-block.result c.param_count.result r.1 r.2
    c.blocks-2.ensures.blocks leads c.target_of-block.ensures (c.in_ok-targets.ensures.heads r.0 r.1 r.2 r.3 goes) (c.param_count.ensures r.0.source r.1.source) c.in_ok-values.ensures in
    (r.0, r.1, r.2, leads, noted, not_filled r.0 m c.hoist_constants.new.ctx c.hoist_constants.new.values (c.in_ok-hoist_constants.ensures.hoisting r.0 r.1 r.2 noted s.hoisting s.first), r.4)

pub returns-clause-err : goal.returns-clause-err
returns-clause-err g c =
    IfErr-weaker c.import_blocks.result _ _
    (λ e late fr framed order h on.
    let goes = goes_then c.add_blocks.new.names c.import_blocks.new.names fr.given c.import_blocks.ensures.grows on in
    let m = c.args.source.now in
    let noted = c.in_ok-entries.ensures fr.source framed.source in
    let leads = c.in_ok-targets.ensures.targets fr framed order h goes in
    let s = started m c.args.f fr c.args.func c.add_blocks.new.ctx c.in_ok-values.values c.args.order.now c.blocks-2.result.now (record { 0 = 0 }) c.in_ok-targets.targets c.target_of-block.result c.param_count.result framed order
    c.blocks-2.ensures.blocks leads c.target_of-block.ensures (c.in_ok-targets.ensures.heads fr framed order h goes) (c.param_count.ensures fr.source framed.source) c.in_ok-values.ensures in
    late fr framed order leads noted (not_filled fr m c.hoist_constants.new.ctx c.hoist_constants.new.values (c.in_ok-hoist_constants.ensures.hoisting fr framed order noted s.hoisting s.first)) on)
    c.import_blocks.ensures.err

pub returns-clause-ok : goal.returns-clause-ok
returns-clause-ok g c =
    on_ok_weaker c.import_blocks.result
    (λ filled fr framed order h on.
    let goes = goes_then c.add_blocks.new.names c.import_blocks.new.names fr.given c.import_blocks.ensures.grows on in
    let m = c.args.source.now in
    let noted = c.in_ok-entries.ensures fr.source framed.source in
    let leads = c.in_ok-targets.ensures.targets fr framed order h goes in
    let s = started m c.args.f fr c.args.func c.add_blocks.new.ctx c.in_ok-values.values c.args.order.now c.blocks-2.result.now (record { 0 = 0 }) c.in_ok-targets.targets c.target_of-block.result c.param_count.result framed order
    c.blocks-2.ensures.blocks leads c.target_of-block.ensures (c.in_ok-targets.ensures.heads fr framed order h goes) (c.param_count.ensures fr.source framed.source) c.in_ok-values.ensures in
    (c.import_blocks.new.values, filled fr framed order leads noted (not_filled fr m c.hoist_constants.new.ctx c.hoist_constants.new.values (c.in_ok-hoist_constants.ensures.hoisting fr framed order noted s.hoisting s.first)) on))
    c.import_blocks.ensures.ok

pub returns-in_err-values-clause-kept : goal.returns-in_err-values-clause-kept
returns-in_err-values-clause-kept g c = λ n b later behind. c.add_blocks.ensures.kept n b later

pub returns-in_err-hoist_constants-clause-kept : goal.returns-in_err-hoist_constants-clause-kept
returns-in_err-hoist_constants-clause-kept g c = λ n b later behind.
    let r = c.requires c.add_blocks.new.names c.add_blocks.ensures.grows in
    let goes = subst (GoesOn c.add_blocks.new.names) (sym r.4) (goes_same c.add_blocks.new.names) in
    let m = c.args.source.now in
    let leads = c.in_ok-targets.ensures.targets r.0 r.1 r.2 r.3 goes in
    let s = started m c.args.f r.0 c.args.func c.add_blocks.new.ctx c.in_ok-values.values c.args.order.now c.blocks-2.result.now (record { 0 = 0 }) c.in_ok-targets.targets c.target_of-block.result c.param_count.result r.1 r.2
    c.blocks-2.ensures.blocks leads c.target_of-block.ensures (c.in_ok-targets.ensures.heads r.0 r.1 r.2 r.3 goes) (c.param_count.ensures r.0.source r.1.source) c.in_ok-values.ensures in
    let base = r.3.blocks in
    keeps_then n b c.args.ctx.now c.add_blocks.new.ctx c.hoist_constants.new.ctx (c.add_blocks.ensures.kept n b later) (c.hoist_constants.ensures.kept n b (omega (arith, behind, base, s.first)))

pub returns-clause-kept : goal.returns-clause-kept
returns-clause-kept g c = λ n b later behind.
    let r = c.requires c.add_blocks.new.names c.add_blocks.ensures.grows in
    let goes = subst (GoesOn c.add_blocks.new.names) (sym r.4) (goes_same c.add_blocks.new.names) in
    let m = c.args.source.now in
    let leads = c.in_ok-targets.ensures.targets r.0 r.1 r.2 r.3 goes in
    let s = started m c.args.f r.0 c.args.func c.add_blocks.new.ctx c.in_ok-values.values c.args.order.now c.blocks-2.result.now (record { 0 = 0 }) c.in_ok-targets.targets c.target_of-block.result c.param_count.result r.1 r.2
    c.blocks-2.ensures.blocks leads c.target_of-block.ensures (c.in_ok-targets.ensures.heads r.0 r.1 r.2 r.3 goes) (c.param_count.ensures r.0.source r.1.source) c.in_ok-values.ensures in
    let base = r.3.blocks in
    keeps_then n b c.args.ctx.now c.hoist_constants.new.ctx c.import_blocks.new.ctx (keeps_then n b c.args.ctx.now c.add_blocks.new.ctx c.hoist_constants.new.ctx (c.add_blocks.ensures.kept n b later) (c.hoist_constants.ensures.kept n b (omega (arith, behind, base, s.first)))) (c.import_blocks.ensures.kept r.0 r.1 r.2 leads n b (omega (arith, behind, base)))

pub entries_of-requires : goal.entries_of-requires
entries_of-requires g c = let r = c.requires c.args.names.now (goes_same c.args.names.now) in (r.0.source, r.1.source)

pub add_blocks-requires : goal.add_blocks-requires
add_blocks-requires g c = c.requires

pub param_count-requires : goal.param_count-requires
param_count-requires g c = let r = c.requires c.args.names.now (goes_same c.args.names.now) in (r.0.source, r.1.source)

pub returns-in_err-entries-clause-kept : goal.returns-in_err-entries-clause-kept
returns-in_err-entries-clause-kept g c = λ n b later behind. keeps_none n b c.args.ctx.now

pub returns-in_err-targets-clause-kept : goal.returns-in_err-targets-clause-kept
returns-in_err-targets-clause-kept g c = λ n b later behind. c.add_blocks.ensures.kept n b later

pub returns-in_err-entries-clause-err : goal.returns-in_err-entries-clause-err
returns-in_err-entries-clause-err g c = passed_on c.from_residual.result E.NoMemory _ c.from_residual.ensures.1 (λ fr framed order h later places inverse. tt)

pub returns-in_err-targets-clause-err : goal.returns-in_err-targets-clause-err
returns-in_err-targets-clause-err g c = passed_on c.from_residual-in_err-targets.result E.NoMemory _ c.from_residual-in_err-targets.ensures.1 (λ fr framed order h later places inverse. tt)

pub returns-in_err-values-clause-err : goal.returns-in_err-values-clause-err
returns-in_err-values-clause-err g c = passed_on c.from_residual-in_err-values.result E.NoMemory _ c.from_residual-in_err-values.ensures.1 (λ fr framed order h later places inverse. tt)

pub returns-in_err-hoist_constants-clause-err : goal.returns-in_err-hoist_constants-clause-err
returns-in_err-hoist_constants-clause-err g c = passed_on c.from_residual-in_err-hoist_constants.result E.NoMemory _ c.from_residual-in_err-hoist_constants.ensures.1 (λ fr framed order h later places inverse. tt)

pub returns-in_err-entries-clause-grows : goal.returns-in_err-entries-clause-grows
returns-in_err-entries-clause-grows g c = goes_same c.args.names.now

pub returns-in_err-targets-clause-grows : goal.returns-in_err-targets-clause-grows
returns-in_err-targets-clause-grows g c = c.add_blocks.ensures.grows

pub returns-in_err-values-clause-grows : goal.returns-in_err-values-clause-grows
returns-in_err-values-clause-grows g c = c.add_blocks.ensures.grows

pub returns-in_err-hoist_constants-clause-grows : goal.returns-in_err-hoist_constants-clause-grows
returns-in_err-hoist_constants-clause-grows g c = c.add_blocks.ensures.grows

pub returns-clause-grows : goal.returns-clause-grows
returns-clause-grows g c = goes_then c.args.names.now c.add_blocks.new.names c.import_blocks.new.names c.add_blocks.ensures.grows c.import_blocks.ensures.grows

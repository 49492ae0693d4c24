-- What `operations::import_insts` owes besides what the check finds.
use Rattle.std.proofs.Common.{sym, subst, arith}
use Rattle.dialect_types.specs.Legalised.{GoesOn}
use Rattle.held_types.proofs.WalkLaws.{passed_on}
use Rattle.from_llvm_ir.proofs.NameLaws.{goes_same, goes_then}
use Rattle.from_llvm_ir.proofs.SourceLaws.{listed_at, insts_listed, block_within}
use Rattle.from_llvm_ir.proofs.BodyLaws.{begun, filled, next_at}
use Rattle.from_llvm_ir.proofs.KeepLaws.{keeps_none, keeps_then}
use Rattle.from_llvm_ir.proofs.operations.import_insts.Goals as goal

pub loop-place-init : goal.loop-place-init
loop-place-init g c = record {
  body = λ fr f j b h later. begun fr c.args.source.now c.args.ctx.now c.args.values.now j b h.here h.filled;
  grown = goes_same c.args.names.now;
  kept = λ n b behind. keeps_none n b c.args.ctx.now;
}

pub import_inst-requires : goal.import_inst-requires
import_inst-requires g c = λ given on.
    let (fr, f, j, b, h, same) = c.requires given (goes_then c.args.names.now c.loop-place.names given c.loop-place.invariant.grown on) in
    let m = c.args.source.now in
    let x = listed_at m fr.source c.args.from h.place b c.instructions-insts.result.now c.loop-place.place (record { 0 = 0 }) h.framed.source.sound h.of_block c.instructions-insts.ensures.insts c.loop-place-test.true in
    (fr, f, j, b, x.0, next_at fr m f c.args.targets.now c.args.entries.now c.args.ctx.now c.loop-place.ctx c.args.values.now c.loop-place.values c.args.from c.args.block _ j c.loop-place.place b x.0 h x.1 (c.loop-place.invariant.body fr f j b h (subst (GoesOn c.loop-place.names) (sym same) on)), same)

pub returns-in_err-import_inst-clause-err : goal.returns-in_err-import_inst-clause-err
returns-in_err-import_inst-clause-err g c =
    passed_on c.from_residual.result c.in_err-import_inst.field-0.0 _ c.from_residual.ensures.1
    (λ fr f j b h later.
    let m = c.args.source.now in
    let x = listed_at m fr.source c.args.from h.place b c.instructions-insts.result.now c.loop-place.place (record { 0 = 0 }) h.framed.source.sound h.of_block c.instructions-insts.ensures.insts c.loop-place-test.true in
    c.in_err-import_inst.ensures.err fr f j b x.0 (next_at fr m f c.args.targets.now c.args.entries.now c.args.ctx.now c.loop-place.ctx c.args.values.now c.loop-place.values c.args.from c.args.block _ j c.loop-place.place b x.0 h x.1 (c.loop-place.invariant.body fr f j b h (goes_then c.loop-place.names c.import_inst.new.names fr.given c.import_inst.ensures.grows later))) later)

pub loop-place-preserved : goal.loop-place-preserved
loop-place-preserved g c = record {
  body = λ fr f j b h later.
      let m = c.args.source.now in
      let x = listed_at m fr.source c.args.from h.place b c.instructions-insts.result.now c.loop-place.place (record { 0 = 0 }) h.framed.source.sound h.of_block c.instructions-insts.ensures.insts c.loop-place-test.true in
      c.in_ok-import_inst.ensures.ok fr f j b x.0 (next_at fr m f c.args.targets.now c.args.entries.now c.args.ctx.now c.loop-place.ctx c.args.values.now c.loop-place.values c.args.from c.args.block _ j c.loop-place.place b x.0 h x.1 (c.loop-place.invariant.body fr f j b h (goes_then c.loop-place.names c.import_inst.new.names fr.given c.import_inst.ensures.grows later))) later;
  grown = goes_then c.args.names.now c.loop-place.names c.import_inst.new.names c.loop-place.invariant.grown c.import_inst.ensures.grows;
  kept = λ n b behind. keeps_then n b c.args.ctx.now c.loop-place.ctx c.import_inst.new.ctx (c.loop-place.invariant.kept n b behind) (c.import_inst.ensures.kept n b behind);
}

pub returns-clause-ok : goal.returns-clause-ok
returns-clause-ok g c = λ fr f j b h later.
    let m = c.args.source.now in
    let listed = insts_listed m fr.source c.args.from h.place b c.instructions-insts.result.now h.framed.source.sound h.of_block c.instructions-insts.ensures.insts in
    filled fr m c.loop-place.ctx c.loop-place.values j c.loop-place.place b (omega (arith, listed.long, c.loop-place-test.false)) (c.loop-place.invariant.body fr f j b h later)

pub returns-in_err-import_inst-clause-kept : goal.returns-in_err-import_inst-clause-kept
returns-in_err-import_inst-clause-kept g c = λ n b behind. keeps_then n b c.args.ctx.now c.loop-place.ctx c.import_inst.new.ctx (c.loop-place.invariant.kept n b behind) (c.import_inst.ensures.kept n b behind)

pub instructions-insts-requires : goal.instructions-insts-requires
instructions-insts-requires g c = let r = c.requires c.args.names.now (goes_same c.args.names.now) in block_within c.args.source.now r.0.source c.args.from r.4.place r.3 r.4.of_block

pub returns-clause-kept : goal.returns-clause-kept
returns-clause-kept g c = c.loop-place.invariant.kept

pub returns-in_err-import_inst-clause-grows : goal.returns-in_err-import_inst-clause-grows
returns-in_err-import_inst-clause-grows g c = goes_then c.args.names.now c.loop-place.names c.import_inst.new.names c.loop-place.invariant.grown c.import_inst.ensures.grows

pub returns-clause-grows : goal.returns-clause-grows
returns-clause-grows g c = c.loop-place.invariant.grown

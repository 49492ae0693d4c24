-- One operation more.
use Rattle.std.proofs.Common.{◌∙◌, slice_get, get_or, ap}
use Rattle.llvm_core.specs.Data as L
use Rattle.dialect_types.specs.Trees.{type_trees}
use Rattle.dialect_core.specs.Data.{func_in}
use Rattle.to_llvm_ir.specs.Exported.{IsCause}
use Rattle.to_llvm_ir.proofs.ResultLaws.{passed}
use Rattle.to_llvm_ir.proofs.ListLaws.{by_option}
use Rattle.to_llvm_ir.proofs.FinishLaws.{adds_nothing, held_at, form_held, adds_more, adds_all}
use Rattle.to_llvm_ir.proofs.exporting.convert_functions.Goals as goal

pub loop-op-init : goal.loop-op-init
loop-op-init c = adds_nothing (L.data_of c.args.cctx.now.module)

pub convert_held-requires-clause-form : goal.convert_held-requires-clause-form
convert_held-requires-clause-form c = λ g is. form_held c.args.ctx.now c.args.ops.now c.loop-op.op-index _ g c.requires.forms c.loop-op-test.true is

pub returns-in_err-convert_held-clause-cause : goal.returns-in_err-convert_held-clause-cause
returns-in_err-convert_held-clause-cause c = λ d are.
    passed c.from_residual.result c.in_err-convert_held.field-0.0 (IsCause c.args.ctx.now d) c.from_residual.ensures.1
    (by_option (IsCause c.args.ctx.now d c.in_err-convert_held.field-0.0) (func_in (type_trees c.args.ctx.now.types) c.args.ctx.now (get_or c.args.ops.now c.loop-op.op-index _))
    (λ none. absurd (let e = c.in_err-convert_held.ensures.skipped none in cc))
    (λ g is.
    let at = held_at c.args.ctx.now c.args.ops.now c.loop-op.op-index _ g c.loop-op-test.true is in
    c.in_err-convert_held.ensures.cause g is d at.0 (ap (λ (gs : _). slice_get gs at.0) are ∙ at.1)))

pub loop-op-preserved : goal.loop-op-preserved
loop-op-preserved c =
    adds_more c.args.ctx.now c.args.ops.now c.loop-op.op-index _ (L.data_of c.args.cctx.now.module) (L.data_of c.loop-op.cctx.module) (L.data_of c.convert_held.new.cctx.module) c.loop-op-test.true c.loop-op.invariant c.in_ok-convert_held.ensures.ok

pub returns-clause-ok : goal.returns-clause-ok
returns-clause-ok c = adds_all c.args.ctx.now c.args.ops.now c.loop-op.op-index (L.data_of c.args.cctx.now.module) (L.data_of c.loop-op.cctx.module) c.loop-op-test.false c.loop-op.invariant

pub convert_held-requires-clause-structs : goal.convert_held-requires-clause-structs
convert_held-requires-clause-structs c = ap (λ (d : L.ModuleData). d.structs) c.loop-op.invariant.is ∙ c.requires.structs

-- What `types::import_result_type` owes besides what the check finds.
use Rattle.std.proofs.Common.{◌∙◌, sym, ap, Some}
use Rattle.kinds.specs.Fitting.{is_nothing}
use Rattle.from_llvm_ir.proofs.SourceLaws.{type_read, own_read}
use Rattle.from_llvm_ir.proofs.SeenLaws.{seen_shape}
use Rattle.from_llvm_ir.proofs.types.import_result_type.Goals as goal

pub returns-then-is_nothing-clause-ty : goal.returns-then-is_nothing-clause-ty
returns-then-is_nothing-clause-ty c = λ t h.
    let s = seen_shape _ c.type_kind.result.now c.type_kind.ensures.kind in
    own_read c.args.source.now c.args.i t c.type_of-ty.result s.0 _ h c.type_of-ty.ensures.ty s.1 (sym c.if-is_nothing.true ∙ c.is_nothing.ensures ∙ ap is_nothing (c.shape_of.ensures ∙ s.2))

pub returns-clause-ty : goal.returns-clause-ty
returns-clause-ty c = λ t h.
    let s = seen_shape _ c.type_kind.result.now c.type_kind.ensures.kind in
    ap Some (c.in_ok-import_plain.ensures.ty ∙ (type_read c.args.source.now c.args.i t c.type_of-ty.result h c.type_of-ty.ensures.ty))
    ∙ own_read c.args.source.now c.args.i t c.type_of-ty.result s.0 _ h c.type_of-ty.ensures.ty s.1 (sym c.if-is_nothing.false ∙ c.is_nothing.ensures ∙ ap is_nothing (c.shape_of.ensures ∙ s.2))

-- What `types::import_function_type` owes besides what the check finds.
use Rattle.std.proofs.Common.{◌∙◌, sym}
use Rattle.std.proofs.lemmas.Result.{IfOk-weaker}
use Rattle.from_llvm_ir.proofs.TypeLaws.{grows_then, params_still, below_still, signature_shallow, both_parts}
use Rattle.from_llvm_ir.proofs.types.import_function_type.Goals as goal

pub intern-requires-clause-parts : goal.intern-requires-clause-parts
intern-requires-clause-parts c =
    (c.in_ok-returned.ensures.within, below_still c.import_params.new.ctx c.import_result.new.ctx c.in_ok-params.params.items c.from_vec.result c.import_result.ensures.grown c.in_ok-params.ensures.within c.from_vec.ensures)

pub intern-requires-clause-nesting : goal.intern-requires-clause-nesting
intern-requires-clause-nesting c =
    let g = c.requires.0 in
    let h = c.requires.1 in
    signature_shallow _ _ h.form.result h.form.types g.type (c.in_ok-returned.ensures.ty g h)
    (params_still c.import_params.new.ctx c.import_result.new.ctx c.in_ok-params.params.items c.from_vec.result g.type h.form.result h.form.types c.import_result.ensures.grown c.in_ok-params.ensures.within (c.in_ok-params.ensures.types g h) h.form.type c.from_vec.ensures)
    h.form.type h.form.shallow

pub returns-clause-grown : goal.returns-clause-grown
returns-clause-grown c = grows_then _ _ _ c.import_params.ensures.grown (grows_then _ _ _ c.import_result.ensures.grown c.intern.ensures.grown)

pub returns-clause-ty : goal.returns-clause-ty
returns-clause-ty c =
    IfOk-weaker c.intern.result _ _
    (λ t is g h.
    is
    ∙ both_parts _ _ h.form.result h.form.types (c.in_ok-returned.ensures.ty g h)
    (params_still c.import_params.new.ctx c.import_result.new.ctx c.in_ok-params.params.items c.from_vec.result g.type h.form.result h.form.types c.import_result.ensures.grown c.in_ok-params.ensures.within (c.in_ok-params.ensures.types g h) h.form.type c.from_vec.ensures)
    ∙ sym (h.form.type))
    c.intern.ensures.ty

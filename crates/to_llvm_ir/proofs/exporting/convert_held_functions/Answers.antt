-- The operations are those that the module holds.
use Rattle.std.proofs.Common.{◌∙◌, List, ap, sym, subst}
use Rattle.std.specs.Prelude.{OnOk}
use Rattle.llvm_core.specs.Module.{Module}
use Rattle.llvm_core.specs.Data as L
use Rattle.dialect_core.specs.declared.numbers.OpRef.{OpRef}
use Rattle.dialect_core.specs.Data as D
use Rattle.to_llvm_ir.specs.Functions.{AddsFunctions, functions_in}
use Rattle.to_llvm_ir.proofs.FinishLaws.{forms_held}
use Rattle.to_llvm_ir.proofs.exporting.convert_held_functions.Goals as goal

pub convert_functions-requires-clause-forms : goal.convert_functions-requires-clause-forms
convert_functions-requires-clause-forms c =
    forms_held c.args.ctx.now c.args.«module».0.0 c.as_slice.result.now c.requires.readable.functions (c.as_slice.ensures.value ∙ c.in_ok-ops.ensures.ops)

pub returns-clause-ok : goal.returns-clause-ok
returns-clause-ok c =
    subst (λ (m : Module). OnOk c.convert_functions.result (AddsFunctions (D.data_of c.args.ctx.now c.args.«module».0.0).functions (L.data_of m) (L.data_of c.convert_functions.new.cctx.module))) c.make_room.ensures
    (subst (λ (os : List OpRef). OnOk c.convert_functions.result (AddsFunctions (functions_in c.args.ctx.now os) (L.data_of c.make_room.new.back) (L.data_of c.convert_functions.new.cctx.module)))
    (c.as_slice.ensures.value ∙ c.in_ok-ops.ensures.ops) c.convert_functions.ensures.ok)

pub returns-clause-cause : goal.returns-clause-cause
returns-clause-cause c = c.convert_functions.ensures.cause (D.data_of c.args.ctx.now c.args.«module».0.0) (ap (functions_in c.args.ctx.now) (sym (c.as_slice.ensures.value ∙ c.in_ok-ops.ensures.ops)))

pub convert_functions-requires-clause-structs : goal.convert_functions-requires-clause-structs
convert_functions-requires-clause-structs c = ap (λ (m : Module). (L.data_of m).structs) c.make_room.ensures ∙ c.requires.structs

-- An operation with a symbol is a function, and one without is none.
use Rattle.std.proofs.Common.{◌≡◌, [], ◌∷◌, Some, ap, sym, subst, ◌∙◌}
use Rattle.std.specs.Prelude.{OnOk}
use Rattle.std.proofs.lemmas.Option.{same_Some, none-some}
use Rattle.std.proofs.lemmas.Result.{on_ok_weaker, IfErr-weaker}
use Rattle.llvm_core.specs.Module.{Module}
use Rattle.llvm_core.specs.Data as L
use Rattle.dialect_types.specs.Trees.{type_trees}
use Rattle.dialect_core.specs.Data.{Func, func_in}
use Rattle.dialect_core.proofs.TypingLaws.{own_form}
use Rattle.to_llvm_ir.specs.Order.{IsTaken}
use Rattle.to_llvm_ir.specs.Causes.{IsFuncCause}
use Rattle.to_llvm_ir.specs.Functions.{AddsFunctions, functions_in}
use Rattle.to_llvm_ir.proofs.ContextLaws.{no_func, some_func}
use Rattle.to_llvm_ir.proofs.ResultLaws.{passed}
use Rattle.to_llvm_ir.proofs.FinishLaws.{adds_one, adds_some, adds_none}
use Rattle.to_llvm_ir.proofs.exporting.convert_held.Goals as goal

pub own_order-requires-clause-form : goal.own_order-requires-clause-form
own_order-requires-clause-form c =
    let g = some_func c.args.ctx.now c.args.op (c.has_symbol.ensures ∙ ap Some c.if-not-has_symbol.false) in
    (g.0, g.1, c.requires.form g.0 g.1)

pub returns-in_err-order-clause-cause : goal.returns-in_err-order-clause-cause
returns-in_err-order-clause-cause c =
    passed c.from_residual.result c.in_err-order.field-0.0 (λ e. (x : Func) → func_in (type_trees c.args.ctx.now.types) c.args.ctx.now c.args.op ≡ Some x → IsFuncCause c.args.ctx.now x e) c.from_residual.ensures.1
    (λ x is. c.in_err-order.ensures.cause x is (c.requires.form x is))

pub returns-in_err-order-clause-skipped : goal.returns-in_err-order-clause-skipped
returns-in_err-order-clause-skipped c = λ none.
    let g = some_func c.args.ctx.now c.args.op (c.has_symbol.ensures ∙ ap Some c.if-not-has_symbol.false) in
    absurd (none-some g.0 (sym none ∙ g.1))

pub convert_func-requires-clause-form : goal.convert_func-requires-clause-form
convert_func-requires-clause-form c =
    let g = some_func c.args.ctx.now c.args.op (c.has_symbol.ensures ∙ ap Some c.if-not-has_symbol.false) in
    (g.0, g.1, (own_form c.args.ctx.now c.args.op g.0 g.1 (c.in_ok-order.ensures.own g.0 g.1 (c.requires.form g.0 g.1)) (c.requires.form g.0 g.1), (c.requires.form g.0 g.1).2))

pub returns-then-not-has_symbol-clause-ok : goal.returns-then-not-has_symbol-clause-ok
returns-then-not-has_symbol-clause-ok c = adds_none c.args.ctx.now c.args.op (L.data_of c.args.cctx.now.module) (no_func c.args.ctx.now c.args.op (c.has_symbol.ensures ∙ ap Some c.if-not-has_symbol.true))

pub returns-clause-ok : goal.returns-clause-ok
returns-clause-ok c =
    let g = some_func c.args.ctx.now c.args.op (c.has_symbol.ensures ∙ ap Some c.if-not-has_symbol.false) in
    let old = c.clear_per_function_data.new.self.module in
    let functions = functions_in c.args.ctx.now (c.args.op ∷ []) in
    subst (λ (m : Module). OnOk c.convert_func.result (AddsFunctions functions (L.data_of m) (L.data_of c.convert_func.new.cctx.module))) c.clear_per_function_data.ensures.stays
    (on_ok_weaker c.convert_func.result (λ adds. adds_some c.args.ctx.now c.args.op g.0 (L.data_of old) (L.data_of c.convert_func.new.cctx.module) g.1 (adds_one g.0 (L.data_of old) (L.data_of c.convert_func.new.cctx.module) adds))
    (c.convert_func.ensures.ok g.0 g.1 (own_form c.args.ctx.now c.args.op g.0 g.1 (c.in_ok-order.ensures.own g.0 g.1 (c.requires.form g.0 g.1)) (c.requires.form g.0 g.1), (c.requires.form g.0 g.1).2)))

pub returns-clause-cause : goal.returns-clause-cause
returns-clause-cause c =
    let g = some_func c.args.ctx.now c.args.op (c.has_symbol.ensures ∙ ap Some c.if-not-has_symbol.false) in
    IfErr-weaker c.convert_func.result (IsFuncCause c.args.ctx.now g.0) (λ e. (x : Func) → func_in (type_trees c.args.ctx.now.types) c.args.ctx.now c.args.op ≡ Some x → IsFuncCause c.args.ctx.now x e)
    (λ e h x is. subst (λ (y : Func). IsFuncCause c.args.ctx.now y e) (same_Some g.0 x (sym g.1 ∙ is)) h)
    (c.convert_func.ensures.cause g.0 g.1 ((own_form c.args.ctx.now c.args.op g.0 g.1 (c.in_ok-order.ensures.own g.0 g.1 (c.requires.form g.0 g.1)) (c.requires.form g.0 g.1), (c.requires.form g.0 g.1).2)))

pub returns-clause-skipped : goal.returns-clause-skipped
returns-clause-skipped c = λ none.
    let g = some_func c.args.ctx.now c.args.op (c.has_symbol.ensures ∙ ap Some c.if-not-has_symbol.false) in
    absurd (none-some g.0 (sym none ∙ g.1))

pub convert_func-requires-clause-taken : goal.convert_func-requires-clause-taken
convert_func-requires-clause-taken c = λ x is. subst (IsTaken x) (sym c.as_slice.ensures.value) (c.in_ok-order.ensures.taken x is (c.requires.form x is))

pub convert_func-requires-clause-structs : goal.convert_func-requires-clause-structs
convert_func-requires-clause-structs c = ap (λ (m : Module). (L.data_of m).structs) c.clear_per_function_data.ensures.stays ∙ c.requires.structs

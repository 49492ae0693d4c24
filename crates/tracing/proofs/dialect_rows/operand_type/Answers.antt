-- What `dialect_rows::operand_type` owes besides what the check finds.
use Rattle.std.proofs.Common.{Some, ap, sym, ◌∙◌}
use Rattle.std.proofs.lemmas.Result.{IfOk-weaker}
use Rattle.meaning.specs.Dialect.{option_type}
use Rattle.tracing.proofs.DialectLaws.{used_result, used_argument}
use Rattle.tracing.proofs.dialect_rows.operand_type.Goals as goal

pub result_type-requires-clause-here : goal.result_type-requires-clause-here
result_type-requires-clause-here c = let k = used_result c.args.ctx.now c.in-Result.op c.args.v c.in-Result.is c.requires.used in (k.op, k.here, k.first_class)

pub argument_type-requires-clause-here : goal.argument_type-requires-clause-here
argument_type-requires-clause-here c =
    let k = used_argument c.args.ctx.now c.in-Argument.block c.in-Argument.at c.args.v c.in-Argument.is c.requires.used in
    (k.block, c.requires.used.type, k.here, k.typed, c.requires.used.first_class)

pub returns-in-Result-clause-stands : goal.returns-in-Result-clause-stands
returns-in-Result-clause-stands c =
    let k = used_result c.args.ctx.now c.in-Result.op c.args.v c.in-Result.is c.requires.used in
    IfOk-weaker c.result_type.result _ _ (λ t stands. stands k.op k.here ∙ ap Some (ap option_type k.typed)) c.result_type.ensures.stands

pub returns-in-Argument-clause-stands : goal.returns-in-Argument-clause-stands
returns-in-Argument-clause-stands c =
    let used = c.requires.used in
    let k = used_argument c.args.ctx.now c.in-Argument.block c.in-Argument.at c.args.v c.in-Argument.is used in
    IfOk-weaker c.argument_type.result _ _ (λ t stands. stands k.block used.type k.here k.typed ∙ ap Some (ap option_type (sym used.typed))) c.argument_type.ensures.stands

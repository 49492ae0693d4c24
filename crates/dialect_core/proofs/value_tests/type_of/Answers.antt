-- What `value_tests::type_of` owes besides what the check finds.
use Rattle.std.proofs.Common.{ap, sym, ◌∙◌}
use Rattle.dialect_core.specs.Data.{type_in}
use Rattle.dialect_core.proofs.value_tests.type_of.Goals as goal

pub returns-in-Result-clause-value : goal.returns-in-Result-clause-value
returns-in-Result-clause-value c = c.result_of.ensures.value ∙ ap (type_in c.args.ctx.now) (sym c.in-Result.is)

pub returns-in-Argument-clause-value : goal.returns-in-Argument-clause-value
returns-in-Argument-clause-value c = c.argument_of.ensures.value ∙ ap (type_in c.args.ctx.now) (sym c.in-Argument.is)

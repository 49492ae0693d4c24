-- What `context::Context::create_op` owes besides what the check finds.
use Rattle.std.proofs.Common.{ap, ◌∙◌}
use Rattle.std.proofs.lemmas.Result.{on_ok_weaker}
use Rattle.dialect_core.specs.ContextData.{with_op}
use Rattle.dialect_core.proofs.context.Context.create_op.Goals as goal

pub returns-clause-ok : goal.returns-clause-ok
returns-clause-ok c = on_ok_weaker c.add.result (λ is. is ∙ ap (with_op c.args.self.now) c.in_ok-data.ensures) c.add.ensures.ok

pub returns-clause-number : goal.returns-clause-number
returns-clause-number c = c.add.ensures.number

pub returns-clause-free : goal.returns-clause-free
returns-clause-free c = c.add.ensures.free

pub returns-clause-data : goal.returns-clause-data
returns-clause-data c = c.add.ensures.data

pub returns-clause-err : goal.returns-clause-err
returns-clause-err c = c.add.ensures.err

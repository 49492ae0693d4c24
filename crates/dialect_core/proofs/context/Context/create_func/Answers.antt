-- What `context::Context::create_func` owes besides what the check finds.
use Rattle.std.proofs.Common.{[], None, Some, ap, ◌∙◌}
use Rattle.dialect_core.specs.declared.ops.Symbol.{Symbol}
use Rattle.dialect_core.specs.declared.ops.OpKind.TheVariants as K
use Rattle.dialect_core.specs.ContextData.{with_op}
use Rattle.dialect_core.proofs.context.Context.create_func.Goals as goal

pub returns-clause-ok : goal.returns-clause-ok
returns-clause-ok c = c.in_ok-op.ensures.ok ∙ ap (with_op c.args.self.now) (c.bare-data.ensures ∙ ap (λ (s : Symbol). record { kind = K.Func; name = Some c.args.name; operands = []; successors = []; result = None; symbol = Some s; blocks = [] }) c.in_ok-symbol.ensures)

pub returns-clause-number : goal.returns-clause-number
returns-clause-number c = c.in_ok-op.ensures.number

pub returns-clause-free : goal.returns-clause-free
returns-clause-free c = c.in_ok-op.ensures.free

pub returns-clause-data : goal.returns-clause-data
returns-clause-data c = c.in_ok-op.ensures.data

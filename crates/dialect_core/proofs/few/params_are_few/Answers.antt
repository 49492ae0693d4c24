-- What `few::params_are_few` owes besides what the check finds.
use Rattle.dialect_core.proofs.FewLemmas.{params_is, type_within}
use Rattle.dialect_core.proofs.few.params_are_few.Goals as goal

pub takes_few-requires : goal.takes_few-requires
takes_few-requires c = rw c.types.ensures (type_within c.args.ctx.now c.args.op c.symbol_type.result c.requires.ty c.symbol_type.ensures)

pub returns-in-Func : goal.returns-in-Func
returns-in-Func c = params_is c.args.ctx.now c.args.op c.symbol_type.result c.takes_few.result c.symbol_type.ensures (rw c.types.ensures at c.takes_few.ensures)

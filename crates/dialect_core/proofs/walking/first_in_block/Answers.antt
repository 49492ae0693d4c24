-- What `walking::first_in_block` owes besides what the check finds.
use Rattle.std.proofs.Common.{Option, ap, ◌∙◌}
use Rattle.dialect_core.specs.declared.numbers.OpRef.{OpRef}
use Rattle.dialect_core.specs.Lists.{list_at, from_op}
use Rattle.dialect_core.proofs.FromLemmas.{from_first}
use Rattle.dialect_core.proofs.walking.first_in_block.Goals as goal

pub returns-clause-rest : goal.returns-clause-rest
returns-clause-rest c = ap (λ (n : Option OpRef). from_op n (list_at c.args.ctx.now.lists c.args.block)) c.first_op.ensures.first ∙ from_first (list_at c.args.ctx.now.lists c.args.block)

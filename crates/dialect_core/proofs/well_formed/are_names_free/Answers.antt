-- What `well_formed::are_names_free` owes besides what the check finds.
use Rattle.std.proofs.Common.{List, sym, ◌∙◌}
use Rattle.dialect_core.specs.declared.numbers.OpRef.{OpRef}
use Rattle.dialect_core.specs.Checking.{IsApartFrom}
use Rattle.dialect_core.specs.Lists.{list_at, from_op}
use Rattle.dialect_core.proofs.FromLemmas.{going_fails}
use Rattle.dialect_core.proofs.TestLemmas.{no_true}
use Rattle.dialect_core.proofs.well_formed.are_names_free.Goals as goal

pub returns-then-not-is_apart : goal.returns-then-not-is_apart
returns-then-not-is_apart c = going_fails (λ (o : OpRef) (rest : List OpRef). IsApartFrom c.args.ctx.now c.args.name.now c.args.llvm_name.now o) (from_op c.args.from (list_at c.args.ctx.now.lists c.args.block)) (list_at c.args.ctx.now.lists c.args.block) c.loop-next.next c.in-Some.op c.next_in_block-after.result c.loop-next.invariant.1 c.in-Some.is c.next_in_block-after.ensures.rest
    (λ apart. no_true (sym c.if-not-is_apart.true ∙ c.is_apart.ensures.1 apart))

-- What `few::funcs_have_few` owes besides what the check finds.
use Rattle.std.proofs.Common.{List}
use Rattle.dialect_core.specs.declared.numbers.OpRef.{OpRef}
use Rattle.dialect_core.specs.Lists.{list_at}
use Rattle.dialect_core.specs.WellFormed.{IsFewFunc}
use Rattle.dialect_core.specs.Checking.{HasTypeWithin}
use Rattle.dialect_core.proofs.FromLemmas.{here_stands}
use Rattle.dialect_core.proofs.LineLemmas.{all_at}
use Rattle.dialect_core.proofs.FewLemmas.{all_fails, all_ends}
use Rattle.dialect_core.proofs.TestLemmas.{fails}
use Rattle.dialect_core.proofs.few.funcs_have_few.Goals as goal

pub func_has_few-requires-clause-ty : goal.func_has_few-requires-clause-ty
func_has_few-requires-clause-ty c =
    let os = list_at c.args.ctx.now.lists c.args.block in
    let t = here_stands (λ (o : OpRef) (rest : List OpRef). IsFewFunc c.args.ctx.now o) os os c.loop-next.next c.in-Some.op c.loop-next.invariant.1 c.in-Some.is in
    all_at (HasTypeWithin c.args.ctx.now) os c.requires.types t.0 c.in-Some.op t.1

pub returns-then-not-func_has_few : goal.returns-then-not-func_has_few
returns-then-not-func_has_few c = all_fails (IsFewFunc c.args.ctx.now) (list_at c.args.ctx.now.lists c.args.block) c.loop-next.next c.in-Some.op c.next_in_block-after.result c.loop-next.invariant.1 c.in-Some.is c.next_in_block-after.ensures.rest (fails c.func_has_few.result c.func_has_few.ensures c.if-not-func_has_few.true)

pub returns : goal.returns
returns c = all_ends (IsFewFunc c.args.ctx.now) (list_at c.args.ctx.now.lists c.args.block) c.loop-next.next c.loop-next.invariant.1 c.in_default.is

-- What `narrow::are_narrow_funcs` owes besides what the check finds.
use Rattle.std.proofs.Common.{◌≡◌, Some, All}
use Rattle.dialect_core.specs.declared.numbers.OpRef.{OpRef}
use Rattle.dialect_core.specs.declared.ops.OpKind.TheVariants as K
use Rattle.dialect_core.specs.Lists.{list_at}
use Rattle.dialect_core.specs.ContextData.{kind_at}
use Rattle.dialect_core.specs.Data.{held}
use Rattle.dialect_core.specs.WellFormed.{IsPlainAt}
use Rattle.dialect_core.proofs.FewLemmas.{all_ends, all_fails}
use Rattle.dialect_core.proofs.FromLemmas.{here_is}
use Rattle.dialect_core.proofs.LineLemmas.{all_at}
use Rattle.dialect_core.proofs.TestLemmas.{fails}
use Rattle.to_llvm_ir.proofs.FuncDataLaws.{IsNarrowHere}
use Rattle.to_llvm_ir.proofs.NarrowLaws.{from_there}
use Rattle.to_llvm_ir.proofs.narrow.are_narrow_funcs.Goals as goal

pub is_narrow_func-requires-clause-kind : goal.is_narrow_func-requires-clause-kind
is_narrow_func-requires-clause-kind c =
    let list = list_at c.args.ctx.now.lists c.args.block in
    let P : OpRef → Type 0 = λ o. kind_at c.args.ctx.now.ops o ≡ Some K.Func in
    from_there P c.in-Some.op list (all_at P list c.requires.kinds) (here_is _ list list c.loop-next.next c.in-Some.op c.loop-next.invariant.1 c.in-Some.is)

pub is_narrow_func-requires-clause-plain : goal.is_narrow_func-requires-clause-plain
is_narrow_func-requires-clause-plain c =
    let list = list_at c.args.ctx.now.lists c.args.block in
    let P : OpRef → Type 0 = λ o. All (IsPlainAt c.args.ctx.now) (held c.args.ctx.now o.0) in
    from_there P c.in-Some.op list (all_at P list c.requires.plain) (here_is _ list list c.loop-next.next c.in-Some.op c.loop-next.invariant.1 c.in-Some.is)

pub returns-then-not-is_narrow_func : goal.returns-then-not-is_narrow_func
returns-then-not-is_narrow_func c = all_fails (IsNarrowHere c.args.ctx.now) (list_at c.args.ctx.now.lists c.args.block) c.loop-next.next c.in-Some.op c.next_in_block-after.result c.loop-next.invariant.1 c.in-Some.is c.next_in_block-after.ensures.rest (fails c.is_narrow_func.result c.is_narrow_func.ensures c.if-not-is_narrow_func.true)

pub returns : goal.returns
returns c = all_ends (IsNarrowHere c.args.ctx.now) (list_at c.args.ctx.now.lists c.args.block) c.loop-next.next c.loop-next.invariant.1 c.in_default.is

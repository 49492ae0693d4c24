-- What `op_tests::all_returned` owes besides what the check finds.
use Rattle.std.proofs.Common.{◌≡◌, Some, arith}
use Rattle.dialect_core.specs.declared.ops.Value.{Value}
use Rattle.dialect_core.specs.Data.{type_in}
use Rattle.kinds.specs.Types.{result_of}
use Rattle.dialect_core.specs.Checking.{func_at}
use Rattle.dialect_core.proofs.TestLemmas.{all_more, never, fails}
use Rattle.dialect_core.proofs.op_tests.all_returned.Goals as goal

pub loop-value-preserved : goal.loop-value-preserved
loop-value-preserved c =
    let P : Value → Type 0 = λ v. type_in c.args.ctx.now v ≡ Some (result_of (func_at c.args.ctx.now c.args.func).type) in
    all_more P c.args.values.now c.loop-value.value-index _ c.loop-value.invariant (omega arith) (rw c.returned-ty.ensures.ty at (c.has_returned.ensures.0 c.if-not-has_returned.false))

pub returns-then-not-has_returned : goal.returns-then-not-has_returned
returns-then-not-has_returned c =
    never (λ all. fails c.has_returned.result c.has_returned.ensures c.if-not-has_returned.true (rw c.returned-ty.ensures.ty (all c.loop-value.value-index _ (omega arith))))

-- What `op_tests::are_first_class` owes besides what the check finds.
use Rattle.std.proofs.Common.{arith}
use Rattle.dialect_core.specs.Data.{type_in}
use Rattle.dialect_core.specs.Rules.{IsFirstClassBy}
use Rattle.dialect_core.proofs.TestLemmas.{all_more}
use Rattle.dialect_core.proofs.op_tests.are_first_class.Goals as goal

pub loop-value-preserved : goal.loop-value-preserved
loop-value-preserved c = all_more (IsFirstClassBy (type_in c.args.ctx.now)) c.args.values.now c.loop-value.value-index _ c.loop-value.invariant (omega arith) (c.is_first_class_value.ensures.0 c.if-not-is_first_class_value.false)

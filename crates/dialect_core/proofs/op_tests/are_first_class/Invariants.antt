-- What the loop of `op_tests::are_first_class` keeps.
use Rattle.std.proofs.Common.{ℕ, ◌<◌, get_or}
use Rattle.dialect_core.specs.declared.ops.Value.{Value}
use Rattle.dialect_core.specs.Data.{type_in}
use Rattle.dialect_core.specs.Rules.{IsFirstClassBy}
use Rattle.dialect_core.proofs.op_tests.are_first_class.Given as goal

abbrev pub invariant-loop-value : goal.invariant-loop-value
invariant-loop-value l = (k : ℕ) (d : Value) → k < l.value-index → IsFirstClassBy (type_in l.ctx) (get_or l.values k d)

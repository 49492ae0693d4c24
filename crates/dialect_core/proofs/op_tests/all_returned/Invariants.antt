-- What the loop of `op_tests::all_returned` keeps.
use Rattle.std.proofs.Common.{ℕ, ◌<◌, ◌≡◌, Some, get_or}
use Rattle.dialect_core.specs.declared.ops.Value.{Value}
use Rattle.dialect_core.specs.Data.{type_in}
use Rattle.kinds.specs.Types.{result_of}
use Rattle.dialect_core.specs.Checking.{func_at}
use Rattle.dialect_core.proofs.op_tests.all_returned.Given as goal

abbrev pub invariant-loop-value : goal.invariant-loop-value
invariant-loop-value l = (k : ℕ) (d : Value) → k < l.value-index → type_in l.ctx (get_or l.values k d) ≡ Some (result_of (func_at l.ctx l.fn.func).type)

-- So far the module is there, and its types are.
use Rattle.std.proofs.Common.{◌≤◌, length}
use Rattle.dialect_core.specs.Data.{IsTyped}
use Rattle.layer_tests.proofs.hand.take_all.Given as goal

abbrev pub invariant-loop-step : goal.invariant-loop-step
invariant-loop-step g l = IsTyped l.ctx × (length l.fn.ctx.ops ≤ length l.ctx.ops)

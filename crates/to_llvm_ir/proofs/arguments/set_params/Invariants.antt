-- The arguments so far are known.
use Rattle.std.proofs.Common.{◌≡◌, length}
use Rattle.llvm_core.specs.Module.{Module}
use Rattle.dialect_core.specs.ContextData.{ContextData}
use Rattle.dialect_core.specs.Data.{DialectBlock}
use Rattle.to_llvm_ir.specs.States.{Task, IsBlockAt, IsAtArgument}
use Rattle.to_llvm_ir.specs.Opening.{HasParams}
use Rattle.to_llvm_ir.proofs.arguments.set_params.Given as goal

abbrev pub invariant-loop-i : goal.invariant-loop-i
invariant-loop-i l = (x : ContextData) (t : Task) (c : DialectBlock) (m : Module) → IsBlockAt x t 0 c l.block → HasParams t c l.f m → l.count ≡ length c.args → IsAtArgument t 0 c 0 l.fn.values m → IsAtArgument t 0 c l.i l.values m

-- The arguments so far have their phis.
use Rattle.std.proofs.Common.{◌≡◌, ◌+◌, ℕ, suc}
use Rattle.dialect_core.specs.Data.{DialectBlock}
use Rattle.to_llvm_ir.specs.States.{Task, IsBlockAt, IsAtArgument}
use Rattle.to_llvm_ir.proofs.arguments.add_phis.Given as goal

abbrev pub invariant-loop-i : goal.invariant-loop-i
invariant-loop-i l = (t : Task) (p : ℕ) (c : DialectBlock) → IsBlockAt l.ctx t (suc p) c l.block → l.target.0 ≡ t.numbers.block + suc p → IsAtArgument t (suc p) c 0 l.fn.values l.fn.back → IsAtArgument t (suc p) c l.i l.values l.back

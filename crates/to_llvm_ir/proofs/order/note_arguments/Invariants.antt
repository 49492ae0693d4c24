-- The arguments so far are noted.
use Rattle.std.proofs.Common.{◌≡◌, ◌++◌, List, Some}
use Rattle.dialect_types.specs.Trees.{type_trees}
use Rattle.dialect_core.specs.declared.ops.Value.{Value}
use Rattle.dialect_core.specs.Data.{DialectBlock, block_in}
use Rattle.to_llvm_ir.specs.Exported.{arguments_of}
use Rattle.to_llvm_ir.specs.States.{upto}
use Rattle.to_llvm_ir.specs.Ordering.{AreSeen}
use Rattle.to_llvm_ir.proofs.order.note_arguments.Given as goal

abbrev pub invariant-loop-i : goal.invariant-loop-i
invariant-loop-i l = (c : DialectBlock) (vs : List Value) → block_in (type_trees l.ctx.types) l.ctx l.block ≡ Some c → AreSeen l.fn.seen vs → AreSeen l.seen (vs ++ arguments_of (upto l.i c))

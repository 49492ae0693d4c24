-- The blocks so far have their first numbers, and the next is known.
use Rattle.std.proofs.Common.{◌≡◌, ◌<◌, ℕ, Some, length, slice_get}
use Rattle.dialect_core.specs.Data.{Func}
use Rattle.to_llvm_ir.specs.States.{first_at}
use Rattle.to_llvm_ir.specs.Ordering.{AreBlocksOf}
use Rattle.to_llvm_ir.proofs.numbering.first_numbers.Given as goal

abbrev pub invariant-loop-block : goal.invariant-loop-block
invariant-loop-block l = (g : Func) → AreBlocksOf l.ctx g l.list → (l.next ≡ first_at g l.block-index) × (length l.numbers.items ≡ l.block-index) × ((j : ℕ) → j < l.block-index → slice_get l.numbers.items j ≡ Some (first_at g j))

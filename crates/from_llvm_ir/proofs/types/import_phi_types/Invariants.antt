-- What the loop of `types::import_phi_types` keeps.
use Rattle.std.proofs.Common.{ℕ, take}
use Rattle.llvm_core.specs.declared.numbers.LLVMFunction.{LLVMFunction}
use Rattle.llvm_core.specs.Data.{Block, Function}
use Rattle.from_llvm_ir.specs.Source.{IsSource, IsBlockOf}
use Rattle.from_llvm_ir.proofs.TypeLaws.{ImportsPhis}
use Rattle.from_llvm_ir.proofs.types.import_phi_types.Given as goal

abbrev pub invariant-loop-i : goal.invariant-loop-i
invariant-loop-i l = (f : LLVMFunction) → (g : Function) → (place : ℕ) → (b : Block) → IsSource l.source f g → IsBlockOf l.source g l.fn.block place b → ImportsPhis l.fn.ctx l.ctx (take l.i-index b.instructions) l.types.items

-- What the loop of `entries::used_values` keeps.
use Rattle.std.proofs.Common.{◌≡◌, false}
use Rattle.llvm_core.specs.declared.numbers.LLVMFunction.{LLVMFunction}
use Rattle.llvm_core.specs.Data.{Block, Function, Placed}
use Rattle.llvm_core.specs.Form.{is_phi}
use Rattle.from_llvm_ir.specs.Source.{IsSite}
use Rattle.from_llvm_ir.proofs.UsedLaws.{UsedTo}
use Rattle.from_llvm_ir.proofs.entries.used_values.Given as goal

abbrev pub invariant-loop-to : goal.invariant-loop-to
invariant-loop-to l = (f : LLVMFunction) → (g : Function) → (b : Block) → (p : Placed) → IsSite l.source f g l.entries l.from l.fn.i b p → is_phi p ≡ false → UsedTo l.source g b p l.to-items l.values l.to-index

-- What the loop of `module::LLVMModule::are_of` keeps.
use Rattle.std.proofs.Common.{◌≡◌, ◌<◌, ℕ, Some, slice_get}
use Rattle.llvm_core.specs.declared.numbers.LLVMType.{LLVMType}
use Rattle.llvm_core.specs.declared.numbers.LLVMConst.{LLVMConst}
use Rattle.llvm_core.specs.Consts.{IsElement}
use Rattle.llvm_core.proofs.module.LLVMModule.are_of.Given as goal

abbrev pub invariant-loop-i : goal.invariant-loop-i
invariant-loop-i l = (j : ℕ) (c : LLVMConst) (u : LLVMType) → j < l.i → slice_get l.elements j ≡ Some c → slice_get l.parts j ≡ Some u → IsElement l.self.consts u c

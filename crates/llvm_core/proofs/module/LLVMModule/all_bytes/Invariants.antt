-- What the loop of `module::LLVMModule::all_bytes` keeps.
use Rattle.std.proofs.Common.{◌≡◌, take, Some}
use Rattle.llvm_core.specs.Consts.{int_of, all_ints, told}
use Rattle.llvm_core.proofs.module.LLVMModule.all_bytes.Given as goal

abbrev pub invariant-loop-element : goal.invariant-loop-element
invariant-loop-element l = all_ints (told int_of l.self.consts (take l.element-index l.elements)) ≡ Some l.bytes

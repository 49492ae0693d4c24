-- What the loop of `module::LLVMModule::are_of_one` keeps.
use Rattle.std.proofs.Common.{All, take}
use Rattle.llvm_core.specs.Consts.{IsElement}
use Rattle.llvm_core.proofs.module.LLVMModule.are_of_one.Given as goal

abbrev pub invariant-loop-element : goal.invariant-loop-element
invariant-loop-element l = All (IsElement l.self.consts l.ty) (take l.element-index l.elements)

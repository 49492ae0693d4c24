-- What the loop of `module::LLVMModule::are_filled` keeps.
use Rattle.std.proofs.Common.{◌≡◌, take, true}
use Rattle.std.specs.List.{list_all}
use Rattle.llvm_core.specs.Consts.{fill_of, is_fill, told}
use Rattle.llvm_core.proofs.module.LLVMModule.are_filled.Given as goal

abbrev pub invariant-loop-element : goal.invariant-loop-element
invariant-loop-element l = list_all (is_fill l.fill) (told fill_of l.self.consts (take l.element-index l.elements)) ≡ true

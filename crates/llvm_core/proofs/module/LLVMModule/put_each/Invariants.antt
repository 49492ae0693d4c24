-- What the loop of `module::LLVMModule::put_each` keeps.
use Rattle.llvm_core.specs.Pieces.{ArePut}
use Rattle.llvm_core.proofs.module.LLVMModule.put_each.Given as goal

abbrev pub invariant-loop-piece : goal.invariant-loop-piece
invariant-loop-piece l = ArePut l.fn.self l.self l.pieces l.piece-index l.all

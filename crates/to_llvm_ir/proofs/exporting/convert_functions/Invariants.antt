-- The functions among the operations so far are added.
use Rattle.std.proofs.Common.{take}
use Rattle.llvm_core.specs.Data as L
use Rattle.to_llvm_ir.specs.Functions.{AddsFunctions, functions_in}
use Rattle.to_llvm_ir.proofs.exporting.convert_functions.Given as goal

abbrev pub invariant-loop-op : goal.invariant-loop-op
invariant-loop-op l = AddsFunctions (functions_in l.ctx (take l.op-index l.ops)) (L.data_of l.fn.cctx.module) (L.data_of l.cctx.module)

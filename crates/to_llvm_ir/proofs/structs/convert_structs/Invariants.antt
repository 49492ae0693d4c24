-- The structs among the types so far are added.
use Rattle.std.proofs.Common.{take}
use Rattle.llvm_core.specs.Data as L
use Rattle.to_llvm_ir.specs.Structs.{AddsStructs, structs_in}
use Rattle.to_llvm_ir.proofs.structs.convert_structs.Given as goal

abbrev pub invariant-loop-i : goal.invariant-loop-i
invariant-loop-i l = AddsStructs (structs_in l.ctx.types (take l.i l.ctx.types)) (L.data_of l.fn.back) (L.data_of l.back)

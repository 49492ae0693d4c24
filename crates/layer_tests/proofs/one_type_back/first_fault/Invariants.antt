-- Invariants of the loop in `one_type_back::first_fault`.
use Rattle.std.proofs.Common.{◌≡◌, []}
use Rattle.llvm_core.specs.Data.{data_of}
use Rattle.to_llvm_ir.specs.Conversion.{IsContextFor}
use Rattle.layer_tests.proofs.one_type_back.first_fault.Given as goal

abbrev pub invariant-loop-i : goal.invariant-loop-i
invariant-loop-i l = record {
  context : IsContextFor l.ctx.types l.back l.tcctx;
  functions : (data_of l.back).functions ≡ [];
}

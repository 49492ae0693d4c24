-- What holds in the loop of `llvm_rows::operand_types`.
use Rattle.std.specs.Prelude.{All, map, take}
use Rattle.llvm_core.specs.declared.code.LLVMValue.{LLVMValue}
use Rattle.llvm_core.specs.Data.{trees_of, operand_of, operand_type}
use Rattle.tracing.specs.Types.{AllStand}
use Rattle.tracing.specs.TypePlaces.{trees_in}
use Rattle.tracing.specs.Tables.{AreGrown}
use Rattle.tracing.specs.LlvmBodies.{origin_in, InChecked, data_in, IsUsed}
use Rattle.tracing.proofs.llvm_rows.operand_types.Given as goal

abbrev pub invariant-loop-value : goal.invariant-loop-value
invariant-loop-value l = record {
  at : (h : InChecked l.m) → All (IsUsed l.m h) l.values → AllStand (trees_in l.tables.types) l.places (map (λ (v : LLVMValue). operand_type (data_in l.m h) (operand_of (trees_of l.m) v)) (take l.value-index l.values));
  grown : AreGrown (origin_in l.m) l.fn.tables l.tables;
}

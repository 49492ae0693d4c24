-- The types so far may be fields.
use Rattle.kinds.specs.Fitting.{is_field}
use Rattle.llvm_core.specs.declared.numbers.LLVMType.{LLVMType}
use Rattle.llvm_core.specs.Parts.{shape_at}
use Rattle.ll_values.proofs.FieldLaws.{PassTo}
use Rattle.ll_values.proofs.types.all_fields.Given as goal

abbrev pub invariant-loop-ty : goal.invariant-loop-ty
invariant-loop-ty l = PassTo (λ (t : LLVMType). is_field (shape_at l.m.types t)) l.types l.ty-index

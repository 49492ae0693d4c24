-- What instructions are, by the shape that a store keeps them in.
use Rattle.std.specs.Prelude.{List, [], ◌∷◌, None, Some}
use Rattle.kinds.specs.declared.op.Op.{Op}
use Rattle.llvm_core.specs.declared.numbers.LLVMType.{LLVMType}
use Rattle.ll_lines.specs.declared.names.Name.{Name}
use Rattle.ll_lines.specs.declared.lines.Typed.{Typed}
use Rattle.ll_lines.specs.declared.lines.Inst.{Inst}
use Rattle.ll_lines.specs.declared.lines.Inst.TheVariants as I
use Rattle.ll_values.specs.declared.planned.Shape.{Shape}
use Rattle.ll_values.specs.declared.planned.Shape.TheVariants as S

-- instructions of these operands, and one of one operand with a type beside it
abbrev pub row_of : Op → List Typed → (targets : List Name) → Inst
row_of op operands targets = I.Row (record { op = op; written = None; operands = operands; targets = targets })

abbrev pub cast_of : Op → Typed → LLVMType → Inst
cast_of op x ty = I.Row (record { op = op; written = Some ty; operands = x ∷ []; targets = [] })

abbrev pub inst_of : Shape → Inst
inst_of (S.Alone op) = row_of op [] []
inst_of (S.One op x) = row_of op (x ∷ []) []
inst_of (S.Pair op ty a b) = row_of op (record { ty = ty; said = a } ∷ record { ty = ty; said = b } ∷ []) []
inst_of (S.Two op x y) = row_of op (x ∷ y ∷ []) []
inst_of (S.Three op x y z) = row_of op (x ∷ y ∷ z ∷ []) []
inst_of (S.Cast op x ty) = cast_of op x ty
inst_of (S.Jump op to) = row_of op [] (to ∷ [])
inst_of (S.Branch op x to other) = row_of op (x ∷ []) (to ∷ other ∷ [])
inst_of (S.Phi ty entries) = I.Phi ty entries

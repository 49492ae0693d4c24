-- What clauses see of a body whose types are there: those of its results, of its phis, and those that rows have beside their operands.
use Rattle.std.specs.Prelude.{◌≡◌, List, All, IfSome}
use Rattle.llvm_core.specs.declared.numbers.LLVMType.{LLVMType}
use Rattle.llvm_core.specs.declared.code.LLVMInst.{LLVMInst}
use Rattle.llvm_core.specs.declared.code.LLVMInst.TheVariants as I
use Rattle.llvm_core.specs.declared.code.InstData.{InstData}
use Rattle.llvm_core.specs.declared.bodies.BodyBlock.{BodyBlock}
use Rattle.llvm_core.specs.Module.{Module}
use Rattle.llvm_core.specs.Data.{type_at, trees_of}
use Rattle.ll_lines.specs.Views.{IsTypeIn}

-- the types of an instruction are there, and a phi's is that of the result
abbrev pub IsTypedInst : Module → (result : LLVMType) → LLVMInst → Type 0
IsTypedInst m ty (I.Phi t entries) = IsTypeIn m t × (type_at (trees_of m).types ty ≡ type_at (trees_of m).types t)
IsTypedInst m ty (I.Row r) = IfSome r.written (IsTypeIn m)

abbrev pub IsTypedBody : Module → InstData → Type 0
IsTypedBody m x = IsTypeIn m x.ty × IsTypedInst m x.ty x.inst

abbrev pub AreTypedInsts : Module → List InstData → Type 0
AreTypedInsts m xs = All (IsTypedBody m) xs

abbrev pub AreTypedBlocks : Module → List BodyBlock → Type 0
AreTypedBlocks m body = All (λ (b : BodyBlock). AreTypedInsts m b.insts) body

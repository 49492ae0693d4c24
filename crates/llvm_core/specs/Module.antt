-- A module as its stores: numbers name the items of its lists.
use Rattle.std.specs.Prelude.{ℕ, List}
use Rattle.llvm_core.specs.declared.types.LLVMTypeKind.{LLVMTypeKind}
use Rattle.llvm_core.specs.declared.consts.LLVMConstKind.{LLVMConstKind}
use Rattle.llvm_core.specs.declared.structs.StructData.{StructData}
use Rattle.llvm_core.specs.declared.code.FunctionData.{FunctionData}
use Rattle.llvm_core.specs.declared.code.BlockData.{BlockData}
use Rattle.llvm_core.specs.declared.code.InstData.{InstData}

pub record Module : Type 0 where
  pub name : List ℕ
  pub types : List LLVMTypeKind
  pub consts : List LLVMConstKind
  pub structs : List StructData
  pub functions : List FunctionData
  pub blocks : List BlockData
  pub insts : List InstData

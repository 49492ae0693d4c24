-- Constants of a module that conversions are tried on.
use Rattle.std.specs.Prelude.{◌≡◌, ℕ, Some, slice_get}
use Rattle.llvm_core.specs.declared.numbers.LLVMConst.{LLVMConst}
use Rattle.llvm_core.specs.declared.consts.LLVMConstKind.{LLVMConstKind}
use Rattle.llvm_core.specs.declared.consts.LLVMConstKind.TheVariants as C
use Rattle.llvm_core.specs.declared.types.LLVMTypeKind.TheVariants as T
use Rattle.llvm_core.specs.Module.{Module}
use Rattle.llvm_core.specs.Parts.{const_type}

-- an integer, or zero, undef or poison
abbrev pub IsSingle : LLVMConstKind → Type 0
IsSingle (C.Int t value) = Unit {0}
IsSingle (C.Filled fill t) = Unit {0}
IsSingle (C.Bytes t bytes) = ⊥
IsSingle (C.List t elements) = ⊥
IsSingle (C.Splat t element) = ⊥
IsSingle (C.Placeholder number t) = ⊥

-- such a constant that is there, of an integer type
pub record IsOfInteger (m : Module) (c : LLVMConst) : Type 0 where
  pub kind : LLVMConstKind
  pub here : slice_get m.consts c.0 ≡ Some kind
  pub single : IsSingle kind
  pub width : ℕ
  pub typed : slice_get m.types (const_type kind).0 ≡ Some (T.Int width)

-- What the one form rules out, for reading: said without the functions that make it.
use Rattle.std.specs.Prelude.{◌≡◌, ℕ, [], ◌∷◌, Some, length, slice_get, All}
use Rattle.kinds.specs.declared.fill.Fill.{Fill}
use Rattle.kinds.specs.declared.fill.Fill.TheVariants as F
use Rattle.llvm_core.specs.declared.numbers.LLVMType.{LLVMType}
use Rattle.llvm_core.specs.declared.types.LLVMTypeKind.TheVariants as T
use Rattle.llvm_core.specs.declared.consts.LLVMConstKind.{LLVMConstKind}
use Rattle.llvm_core.specs.declared.consts.LLVMConstKind.TheVariants as C
use Rattle.llvm_core.specs.Module.{Module}
use Rattle.llvm_core.specs.Consts.{IsAt, IsBytesType}

-- zero, undef or poison: the integer 0, or that of a type
pub data IsFill : Fill → LLVMConstKind → Type 0 where
  ZeroInt : (t : LLVMType) → IsFill F.Zero (C.Int t 0)
  OfType : (fill : Fill) (t : LLVMType) → IsFill fill (C.Filled fill t)

pub data IsInt : LLVMConstKind → Type 0 where
  AnInt : (t : LLVMType) (value : ℕ) → IsInt (C.Int t value)

-- A constant that a module may keep: no zero of an integer type but the integer 0, no bytes of only 0, no list or splat of only zeros,
-- of only undef or of only poison, and no list of integers in an array of integers of 8 bits.
abbrev pub IsKept : Module → LLVMConstKind → Type 0
IsKept m (C.Int t value) = Unit {0}
IsKept m (C.Filled fill t) = (width : ℕ) → slice_get m.types t.0 ≡ Some (T.Int width) → ¬ (fill ≡ F.Zero)
IsKept m (C.Bytes t bytes) = ¬ All (λ (b : ℕ). b ≡ 0) bytes
IsKept m (C.List t elements) = ((fill : Fill) → ¬ All (IsAt (IsFill fill) m.consts) elements) × ¬ (IsBytesType m.types m.consts m.structs t (length elements) × All (IsAt IsInt m.consts) elements)
IsKept m (C.Splat t element) = (fill : Fill) → ¬ All (IsAt (IsFill fill) m.consts) (element ∷ [])
IsKept m (C.Placeholder number t) = Unit {0}

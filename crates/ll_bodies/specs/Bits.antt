-- What is noted of vector types: for each the one of as many bits.
use Rattle.std.specs.Prelude.{◌≡◌, ◌≤◌, ◌⊎◌, ℕ, length, slice_get, Some}
use Rattle.support.specs.declared.number_map.NumberMap.{NumberMap}
use Rattle.support.specs.NumberMaps.{value_at}
use Rattle.kinds.specs.declared.types.VectorTypeKind.{VectorTypeKind}
use Rattle.kinds.specs.declared.types.Lanes.TheVariants.{Many}
use Rattle.llvm_core.specs.declared.numbers.LLVMType.{LLVMType}
use Rattle.llvm_core.specs.declared.types.LLVMTypeKind.TheVariants as T
use Rattle.llvm_core.specs.Module.{Module}
use Rattle.llvm_core.specs.Sound.{IsOfBits}

-- of the type of that number, where it is a vector
abbrev pub HasBitsAt : Module → NumberMap LLVMType → ℕ → Type 0
HasBitsAt m bits i =
    (kind : VectorTypeKind) (count : ℕ) (e : LLVMType) → slice_get m.types i ≡ Some (T.Vector kind count e) → (b : LLVMType) × (value_at bits i ≡ Some b) × IsOfBits m.types (Many kind count) b

abbrev pub HasBits : Module → NumberMap LLVMType → Type 0
HasBits m bits = (i : ℕ) → HasBitsAt m bits i

-- no vectors are added
abbrev pub KeepsVectors : Module → Module → Type 0
KeepsVectors old new = (i : ℕ) (kind : VectorTypeKind) (count : ℕ) (e : LLVMType) → slice_get new.types i ≡ Some (T.Vector kind count e) → slice_get old.types i ≡ Some (T.Vector kind count e)

-- what was right of a type is still right, and right too are the type of that number and each new one
abbrev pub NotesBits : Module → NumberMap LLVMType → ℕ → Module → NumberMap LLVMType → Type 0
NotesBits old noted at new now = (i : ℕ) → HasBitsAt old noted i ⊎ (i ≡ at) ⊎ (length old.types ≤ i) → HasBitsAt new now i

-- a module has the types that every function needs
pub record HasNeeded (m : Module) (bit void : ℕ) (bits : NumberMap LLVMType) : Type 0 where
  pub is_bit : slice_get m.types bit ≡ Some (T.Int 1)
  pub is_void : slice_get m.types void ≡ Some T.Void
  pub vectors : HasBits m bits

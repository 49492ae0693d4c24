-- What a walk through types has met: of the types that are asked about, which are held, and the structs that were listed.
use Rattle.std.specs.Prelude.{ℕ, ◌≡◌, ◌<◌, ◌⊎◌, true, List, Some, length, slice_get}
use Rattle.kinds.specs.declared.types.OtherType.{OtherType}
use Rattle.kinds.specs.Types.{TypeTree, RefusedType, NamedType}
use Rattle.kinds.specs.Structs.{Holds}
use Rattle.llvm_core.specs.declared.numbers.LLVMType.{LLVMType}
use Rattle.llvm_core.specs.declared.numbers.LLVMStruct.{LLVMStruct}
use Rattle.llvm_core.specs.declared.types.LLVMTypeKind.{LLVMTypeKind}
use Rattle.llvm_core.specs.declared.structs.StructFields.{StructFields}
use Rattle.llvm_core.specs.declared.structs.StructData.{StructData}
use Rattle.llvm_core.specs.Module.{Module}
use Rattle.llvm_core.specs.Data.{data_of, structs_of, trees_of, type_at, type_tree}
use Rattle.held_types.specs.declared.held_structs.HeldErr.{HeldErr}
use Rattle.held_types.specs.declared.held_structs.HeldErr.TheVariants as E
use Rattle.held_types.specs.declared.walk.Walk.{Walk}
use Rattle.held_types.specs.Held.{IsStructOf}

-- ---- what holds a type

-- the type of that number is it, or holds it
abbrev pub IsIn : Module → LLVMType → TypeTree → Type 0
IsIn m t u = Holds (structs_of m) u (type_at (trees_of m).types t)

-- of one of them P holds
module _ {X : Type 0} (P : X → TypeTree → Type 0) where
  abbrev pub IsOfOne : List X → TypeTree → Type 0
  IsOfOne xs u = (i : ℕ) × (x : X) × (slice_get xs i ≡ Some x) × P x u

-- one of the types is or does
abbrev pub IsAmong : Module → List LLVMType → TypeTree → Type 0
IsAmong m ts u = IsOfOne (IsIn m) ts u

-- a type of that kind is or does
abbrev pub IsInKind : Module → LLVMTypeKind → TypeTree → Type 0
IsInKind m k u = Holds (structs_of m) u (type_tree (trees_of m).types k)

-- a field of the struct of that number is or does
abbrev pub IsInFields : Module → LLVMStruct → TypeTree → Type 0
IsInFields m s u = (x : StructData) × (b : StructFields) × (slice_get m.structs s.0 ≡ Some x) × (x.body ≡ Some b) × IsAmong m b.types u

-- ---- what was met

-- the struct of the name is listed
abbrev pub IsListed : Module → List LLVMStruct → List ℕ → Type 0
IsListed m ns name = (i : ℕ) × (n : LLVMStruct) × (slice_get ns i ≡ Some n) × IsStructOf (data_of m) name n

-- and stands before that place
abbrev pub IsListedBefore : Module → List LLVMStruct → (i : ℕ) → List ℕ → Type 0
IsListedBefore m ns i name = (j : ℕ) × (n : LLVMStruct) × (j < i) × (slice_get ns j ≡ Some n) × IsStructOf (data_of m) name n

-- each struct that is listed stands behind those that its fields hold
abbrev pub AreBehind : Module → List LLVMStruct → Type 0
AreBehind m ns = (i : ℕ) (n : LLVMStruct) → slice_get ns i ≡ Some n → (name : List ℕ) → IsInFields m n (NamedType name) → IsListedBefore m ns i name

-- W holds of no type that the dialect lacks, and of each struct that it holds of the number is listed
pub record AreMet (m : Module) (W : TypeTree → Type 0) (ns : List LLVMStruct) : Type 0 where
  pub none : (of : OtherType) → ¬ W (RefusedType of)
  pub named : (name : List ℕ) → W (NamedType name) → IsListed m ns name

-- what each marked type holds is met, and so is what the fields of a struct hold before it is listed
pub record IsWalk (m : Module) (w : Walk) : Type 0 where
  pub count : length w.seen.items ≡ length m.types
  pub marked : (t : LLVMType) → slice_get w.seen.items t.0 ≡ Some true → AreMet m (IsIn m t) w.order.items
  pub behind : AreBehind m w.order.items

-- a walk through what W holds of: it is met, and nothing else is listed
pub record Walked (m : Module) (W : TypeTree → Type 0) (old new : Walk) : Type 0 where
  pub walk : IsWalk m new
  pub kept : (i : ℕ) (n : LLVMStruct) → slice_get old.order.items i ≡ Some n → slice_get new.order.items i ≡ Some n
  pub met : AreMet m W new.order.items
  pub each : (i : ℕ) (n : LLVMStruct) → slice_get new.order.items i ≡ Some n → (slice_get old.order.items i ≡ Some n) ⊎ ((name : List ℕ) × IsStructOf (data_of m) name n × W (NamedType name))

-- why the walk is given up: W holds of a type that the dialect lacks; it asks for no width, and want of memory needs no reason
abbrev pub IsCause : (TypeTree → Type 0) → HeldErr → Type 0
IsCause W (E.Lacks of) = W (RefusedType of)
IsCause W (E.TooWide width) = ⊥
IsCause W E.ScalableSplat = ⊥
IsCause W E.NoMemory = Unit {0}

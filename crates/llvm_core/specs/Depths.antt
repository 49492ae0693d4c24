-- How deep types nest through the fields of structs, exactly, and notes of that.
use Rattle.std.specs.Prelude.{◌≡◌, ◌<◌, ◌≤◌, ◌⊎◌, ℕ, suc, Bool, true, false, List, length, slice_get, Option, Some, None}
use Rattle.kinds.specs.Structs.{each_type, nests}
use Rattle.llvm_core.specs.declared.numbers.LLVMType.{LLVMType}
use Rattle.llvm_core.specs.declared.types.LLVMTypeKind.{LLVMTypeKind}
use Rattle.llvm_core.specs.Module.{Module}
use Rattle.llvm_core.specs.Data.{NamedType, structs_of, trees_of, type_at, types_at, type_tree}

-- ---- the least number that passes a test

pub record IsLeast (p : ℕ → Bool) (n : ℕ) : Type 0 where
  pub passes : p n ≡ true
  pub least : (k : ℕ) → k < n → p k ≡ false

-- it is told where it is at most that one; else that one does not pass
abbrev pub IsLeastWithin : (ℕ → Bool) → (left : ℕ) → Option ℕ → Type 0
IsLeastWithin p left (Some n) = IsLeast p n × (n ≤ left)
IsLeastWithin p left None = p left ≡ false

-- ---- depths

-- the type of that number nests at most so deep
abbrev pub nests_at : Module → LLVMType → (depth : ℕ) → Bool
nests_at m t n = nests (structs_of m) n (type_at (trees_of m).types t)

-- each of the types does
abbrev pub all_nest_at : Module → List LLVMType → (depth : ℕ) → Bool
all_nest_at m ts n = each_type (nests (structs_of m) n) (types_at (trees_of m).types ts)

-- the parts of a type of that kind do
abbrev pub parts_nest_at : Module → LLVMTypeKind → (depth : ℕ) → Bool
parts_nest_at m k n = nests (structs_of m) (suc n) (type_tree (trees_of m).types k)

-- there is a struct of that name, and its fields do
abbrev pub fields_nest_at : Module → List ℕ → (depth : ℕ) → Bool
fields_nest_at m name n = nests (structs_of m) (suc n) (NamedType name)

-- ---- notes of depths

-- how deep each type of a module nests, 0 where that is not known
pub record AreNotes (m : Module) (notes : List ℕ) : Type 0 where
  pub count : length notes ≡ length m.types
  pub each : (t : LLVMType) (d : ℕ) → slice_get notes t.0 ≡ Some d → (d ≡ 0) ⊎ IsLeast (nests_at m t) d

-- What is noted of an open type, one whose parts are being looked at. It is more than any depth that is asked about.
abbrev pub opened : ℕ
opened = 4294967295

-- where so many levels are enough for the first, fewer are enough for the second
abbrev pub NeedsMore : (ℕ → Bool) → (ℕ → Bool) → Type 0
NeedsMore p q = (n : ℕ) → p n ≡ true → (k : ℕ) × (k < n) × (q k ≡ true)

-- The same on the way to what is asked about. Each type that is open holds that, and so needs more levels: an open type that
-- is met again would need more than it needs, so it nests in no depth.
pub record AreNotesAt (m : Module) (asked : ℕ → Bool) (notes : List ℕ) : Type 0 where
  pub count : length notes ≡ length m.types
  pub each : (t : LLVMType) (d : ℕ) → slice_get notes t.0 ≡ Some d → (d ≡ 0) ⊎ (((d ≡ opened) × NeedsMore (nests_at m t) asked) ⊎ IsLeast (nests_at m t) d)

-- Notes in which nothing but depths is new: what was opened since is not open any more.
pub record AreMoreNotes (m : Module) (old new : List ℕ) : Type 0 where
  pub count : length new ≡ length old
  pub each : (t : LLVMType) (d : ℕ) → slice_get new t.0 ≡ Some d → (slice_get old t.0 ≡ Some d) ⊎ IsLeast (nests_at m t) d

-- Types of a context that grow.
use Rattle.std.specs.Prelude.{◌≡◌, ◌<◌, ◌≤◌, ℕ, List, Some, length, slice_get}
use Rattle.dialect_types.specs.declared.types.TypeHandle.{TypeHandle}
use Rattle.dialect_types.specs.declared.types.TypeKind.{TypeKind}
use Rattle.dialect_types.specs.Trees.{type_at, type_trees}
use Rattle.dialect_core.specs.ContextData.{ContextData}

-- each item of the first list stands at its place in the second
abbrev pub AllStay : {X : Type 0} → List X → List X → Type 0
AllStay {X} xs ys = (i : ℕ) (x : X) → slice_get xs i ≡ Some x → slice_get ys i ≡ Some x

-- more types, where earlier numbers keep their meaning
pub record MoreTypes (old new : List TypeKind) : Type 0 where
  pub still : AllStay old new
  pub longer : length old ≤ length new
  pub kept : (t : TypeHandle) → t.0 < length old → type_at (type_trees new) t ≡ type_at (type_trees old) t

-- the context has more types, structs with a name among them, and is else as it was
pub record AddsTypes (old new : ContextData) : Type 0 where
  pub rest : new ≡ record old { types = new.types }
  pub more : MoreTypes old.types new.types

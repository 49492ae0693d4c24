-- What a call leaves of all that a context held before.
use Rattle.std.specs.Prelude.{ℕ, ◌≡◌, ◌<◌, ◌≤◌, All, length}
use Rattle.dialect_types.specs.Trees.{structs_of}
use Rattle.dialect_core.specs.ContextData.{ContextData}
use Rattle.dialect_core.specs.Data.{IsTyped, data_of}
use Rattle.from_llvm_ir.specs.Imported.{IsBelow}
use Rattle.from_llvm_ir.specs.Staying.{AllStay, StaysBelow}

-- The types stay, and so do the operations below n, with the block that each stands in, and the blocks below b, with the
-- operations that each lists.
pub record IsStill (n b : ℕ) (old new : ContextData) : Type 0 where
  pub longer : n ≤ length new.ops
  pub types : AllStay old.types new.types
  pub ops : StaysBelow n old.ops new.ops
  pub parents : StaysBelow n old.parents new.parents
  pub blocks : StaysBelow b old.blocks new.blocks
  pub lists : StaysBelow b old.lists new.lists

-- The numbers of types are still there, and the module of each number below n has the data that it had, if they name
-- operations below n and blocks below b.
pub record HasKept (n b : ℕ) (old new : ContextData) : Type 0 where
  pub typed : IsTyped new
  pub same : (k : ℕ) → k < n → All (IsBelow n b) (data_of old k).functions → data_of new k ≡ data_of old k

-- the first n operations and b blocks are still there, where there were n operations; and what they hold is kept, where
-- the numbers of types were there
pub record Leaves (n b : ℕ) (old new : ContextData) : Type 0 where
  pub still : n ≤ length old.ops → IsStill n b old new
  pub kept : IsTyped old → n ≤ length old.ops → HasKept n b old new

-- and no struct with a name has come
pub record Keeps (n b : ℕ) (old new : ContextData) : Type 0 where
  pub leaves : Leaves n b old new
  pub structs : structs_of new.types ≡ structs_of old.types

-- All that the context held stays: its types, its operations and where they stand, its blocks and what they list. So
-- every module that it held has the data that it had, where the numbers of types were there.
pub record AreOthersKept (old new : ContextData) : Type 0 where
  pub still : IsStill (length old.ops) (length old.blocks) old new
  pub same : IsTyped old → (n : ℕ) → n < length old.ops → data_of new n ≡ data_of old n

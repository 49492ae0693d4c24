-- The module that an export reads: where it stands in its context.
use Rattle.std.specs.Prelude.{ℕ, ◌≡◌, ◌<◌, ◌≤◌, Some, All, length}
use Rattle.dialect_core.specs.declared.ops.OpKind.TheVariants.{Module}
use Rattle.dialect_core.specs.ContextData.{ContextData, kind_at, region_at}
use Rattle.dialect_core.specs.Data.{IsTyped, data_of}
use Rattle.dialect_core.specs.WellFormed.{IsOpenForm}

-- the operation of the number m is a module of at most one block, and its functions are of the form, with constants at any
-- places; what they use may be values of other functions, which the export refuses
pub record IsReadable (c : ContextData) (m : ℕ) : Type 0 where
  pub there : m < length c.ops
  pub kind : kind_at c.ops (record { 0 = m }) ≡ Some Module
  pub region : length (region_at c.ops m) ≤ 1
  pub typed : IsTyped c
  pub functions : All (IsOpenForm c) (data_of c m).functions

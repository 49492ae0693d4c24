-- Whether what a function uses are values of its own.
use Rattle.std.specs.Prelude.{◌≡◌, ℕ, List, Option, Some, None, All, Contains, slice_get}
use Rattle.dialect_types.specs.Trees.{type_trees}
use Rattle.dialect_core.specs.declared.numbers.OpRef.{OpRef}
use Rattle.dialect_core.specs.declared.ops.Value.{Value}
use Rattle.dialect_core.specs.declared.ops.Value.TheVariants.{Result, Argument}
use Rattle.dialect_core.specs.Lists.{Stands}
use Rattle.dialect_core.specs.ContextData.{ContextData, region_at}
use Rattle.dialect_core.specs.Data.{DialectOp, held, op_at}
use Rattle.dialect_core.specs.Form.{uses_of}

-- what defines the value stands in the operation's region: the operation that it is the result of, or the block that it is
-- an argument of
abbrev pub IsHeldBy : ContextData → OpRef → Value → Type 0
IsHeldBy c f (Result r) = Stands r (held c f.0)
IsHeldBy c f (Argument b i) = Stands b (region_at c.ops f.0)

-- what a search among values answers: one that is not held, or none where each is
abbrev pub IsForeignAmong : ContextData → OpRef → List Value → Option Value → Type 0
IsForeignAmong c f vs None = All (IsHeldBy c f) vs
IsForeignAmong c f vs (Some v) = Contains vs v × ¬ IsHeldBy c f v

-- the operation uses a value that is not held
pub record UsesForeign (c : ContextData) (f r : OpRef) (v : Value) : Type 0 where
  pub op : DialectOp
  pub is : op_at (type_trees c.types) c.ops r ≡ Some op
  pub used : Contains (uses_of op) v
  pub foreign : ¬ IsHeldBy c f v

-- the operation, where it is one of a function's block, uses only what is held
abbrev pub UsesHeld : ContextData → (f r : OpRef) → Type 0
UsesHeld c f r = (o : DialectOp) → op_at (type_trees c.types) c.ops r ≡ Some o → All (IsHeldBy c f) (uses_of o)

-- what a search at an operation answers, and among operations
abbrev pub IsForeignAt : ContextData → (f r : OpRef) → Option Value → Type 0
IsForeignAt c f r None = UsesHeld c f r
IsForeignAt c f r (Some v) = UsesForeign c f r v

abbrev pub IsForeignIn : ContextData → OpRef → List OpRef → Option Value → Type 0
IsForeignIn c f rs None = All (UsesHeld c f) rs
IsForeignIn c f rs (Some v) = (k : ℕ) × (r : OpRef) × (slice_get rs k ≡ Some r) × UsesForeign c f r v

-- The blocks of a function of the dialect and the edges between them, as a body has them.
use Rattle.std.specs.Prelude.{◌≡◌, ℕ, zero, suc, Bool, List, [], ◌∷◌, Option, Some, All, is_some, map, filter, length, nat_eq}
use Rattle.std.specs.List.{position_or_len}
use Rattle.dialect_types.specs.Trees.{type_trees}
use Rattle.dialect_core.specs.declared.numbers.OpRef.{OpRef}
use Rattle.dialect_core.specs.declared.numbers.BlockRef.{BlockRef}
use Rattle.dialect_core.specs.declared.ops.Value.{Value}
use Rattle.dialect_core.specs.declared.ops.Successor.{Successor}
use Rattle.dialect_core.specs.ContextData.{ContextData}
use Rattle.dialect_core.specs.Lists.{list_at}
use Rattle.dialect_core.specs.Data.{DialectBlock, Func, op_at, block_in, type_in}
use Rattle.dialect_core.specs.WellFormed.{IsPlainAt, IsWellFormedBlock}
use Rattle.meaning.specs.Pairs.{Matched}
use Rattle.tracing.specs.declared.body.Slot.{Slot}
use Rattle.tracing.specs.declared.body.Slot.TheVariants.{Input}
use Rattle.tracing.specs.declared.body.Source.{Source}
use Rattle.tracing.specs.declared.body.Source.TheVariants.{At}
use Rattle.tracing.specs.declared.body.Edge.{Edge}
use Rattle.tracing.specs.DialectBodies.{slot_of, InContext}

-- so many arguments of the block of a number, from a place on
abbrev pub inputs_from : (block place count : ℕ) → List Slot
inputs_from b i zero = []
inputs_from b i (suc n) = Input b i ∷ inputs_from b (suc i) n

abbrev pub inputs_of : DialectBlock → List Slot
inputs_of y = inputs_from y.number 0 (length y.args)

-- the arguments of each block
abbrev pub params_of : Func → List (List Slot)
params_of g = map inputs_of g.blocks

-- the number of each block
abbrev pub numbers_of : Func → List ℕ
numbers_of g = map (λ (y : DialectBlock). y.number) g.blocks

-- ---- edges

-- what an edge hands over for a value
abbrev pub handed : Value → Option Source
handed v = Some (At (slot_of v))

-- an edge, among blocks of these numbers
abbrev pub edge_to : List ℕ → Successor → Edge
edge_to numbers s = record { to = position_or_len (nat_eq s.block.0) numbers; sources = map handed s.args }

-- ---- blocks

-- the block b is y, a block of the function
pub record IsBlockIn (c : ContextData) (h : InContext c) (b : BlockRef) (y : DialectBlock) : Type 0 where
  pub here : block_in (type_trees c.types) c b ≡ Some y
  pub form : IsWellFormedBlock (type_in c) h.function y
  pub plain : All (IsPlainAt c) (list_at c.lists b)

-- they are the blocks of the function, in order
abbrev pub AreBlocksIn : (c : ContextData) → InContext c → List BlockRef → Type 0
AreBlocksIn c h bs = Matched (IsBlockIn c h) bs h.function.blocks

-- a number names an operation that is neither a module nor a function
abbrev pub is_op : ContextData → OpRef → Bool
is_op c o = is_some (op_at (type_trees c.types) c.ops o)

-- the operations of a block that are no modules and no functions
abbrev pub body_ops : ContextData → BlockRef → List OpRef
body_ops c b = filter (is_op c) (list_at c.lists b)

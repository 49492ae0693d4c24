-- A run as the program keeps it, beside the machine's state.
use Rattle.std.specs.Prelude.{◌≡◌, ◌<◌, ℕ, Bool, true, false, List, [], ◌∷◌, Option, Some, None, All, length, map}
use Rattle.indexmap.specs.IndexMap.{get}
use Rattle.kinds.specs.declared.rules.Family.{Family}
use Rattle.kinds.specs.declared.rules.Family.TheVariants.{Shows, Builds}
use Rattle.meaning.specs.Terms.{Term, Unset}
use Rattle.meaning.specs.Machine as M
use Rattle.meaning.specs.Machine.{Item, State}
use Rattle.meaning.specs.Pairs.{Matched}
use Rattle.tracing.specs.declared.table.TermNode.{TermNode}
use Rattle.tracing.specs.declared.body.Slot.{Slot}
use Rattle.llvm_core.specs.Data.{TypeTree, type_at, type_trees}
use Rattle.support.specs.Interned.{IsDistinctList}
use Rattle.tracing.specs.declared.trace.Trace.{Trace}
use Rattle.tracing.specs.declared.trace.TraceItem.{TraceItem}
use Rattle.tracing.specs.declared.trace.TraceItem.TheVariants.{Block, Event}
use Rattle.tracing.specs.declared.run.Run.{Run}
use Rattle.tracing.specs.Types.{AreOver, Stands, AllStand, HasTypesBelow}
use Rattle.tracing.specs.Table.{terms, term_at, IsGrounded, AreTyped, IsTermAt, AreTermsAt, KeepsTerms}
use Rattle.tracing.specs.Contents.{Contents}
use Rattle.tracing.specs.Bodies.{same_slot}

-- ---- items

-- an item, with its types looked up among those trees, and its operands among those terms
abbrev pub item_of : List TypeTree → List Term → TraceItem → Item
item_of trees ts (Block b) = M.Entered b
item_of trees ts (Event o types ks) = M.Event o (type_at trees types.result) (map (type_at trees) types.operands) (map (term_at ts) ks.items)

-- the types of an item are numbers below m, and its operands places below n
abbrev pub HasPlacesBelow : (m n : ℕ) → TraceItem → Type 0
HasPlacesBelow m n (Block b) = Unit {0}
HasPlacesBelow m n (Event o types ks) = HasTypesBelow m types × All (λ (k : ℕ). k < n) ks.items

-- ---- a trace

-- its items, with what they name looked up in its tables
abbrev pub items_of : Trace → List Item
items_of t = map (item_of (type_trees t.types) (terms (type_trees t.types) t.terms)) t.items.items

-- what its tables hold: no type and no term stands twice, read as trees, and what a type, a term or an item names is there
pub record HasTables (t : Trace) : Type 0 where
  pub types_shared : IsDistinctList (type_trees t.types)
  -- the parts of a type stand before it
  pub types_parts : AreOver t.types
  pub shared : IsDistinctList (terms (type_trees t.types) t.terms)
  -- the parts of a term stand before it
  pub parts : IsGrounded t.terms
  -- the type of a term is one of the table's
  pub typed : AreTyped (length t.types) t.terms
  -- and so are the types of an item, and its operands
  pub within : All (HasPlacesBelow (length t.types) (length t.terms)) t.items.items

-- ---- while it runs

module _ (trees : List TypeTree) where
  -- the term stands at that place
  abbrev pub Names : List TermNode → ℕ → Term → Type 0
  Names ns k t = IsTermAt (terms trees ns) k t

  -- the terms stand at those places
  abbrev pub AllNamed : List TermNode → List ℕ → List Term → Type 0
  AllNamed ns ks ts = AreTermsAt (terms trees ns) ks ts

  -- a value has the term at its place, and none where it has no place
  abbrev pub Reads : List TermNode → Option ℕ → Term → Type 0
  Reads ns None t = t ≡ Unset
  Reads ns (Some k) t = Names ns k t

  abbrev pub ShowsItem : List TermNode → TraceItem → Item → Type 0
  ShowsItem ns (Block b) (M.Entered c) = b ≡ c
  ShowsItem ns (Event o types ks) (M.Event p ty tys ts) = (o ≡ p) × Stands trees types.result ty × AllStand trees types.operands tys × AllNamed ns ks.items ts
  ShowsItem ns (Block b) (M.Event p ty tys ts) = ⊥
  ShowsItem ns (Event o types ks) (M.Entered c) = ⊥

  -- what stood at a place stands there
  abbrev pub Keeps : List TermNode → List TermNode → Type 0
  Keeps old new = KeepsTerms (terms trees old) (terms trees new)

-- The run is at that state, whether or not it has read an unset value, by what the tables of its body hold: the terms of the
-- constants stand in its table where they stood there.
pub record IsAt (c : Contents) (r : Run) (s : State Slot) : Type 0 where
  pub block : r.block ≡ s.block
  pub count : r.count ≡ s.count
  pub typed : AreTyped (length c.types) r.table
  pub constants : KeepsTerms c.terms (terms c.types r.table)
  pub env : (v : Slot) → Reads c.types r.table (get same_slot r.env v) (s.env v)
  pub shown : Matched (ShowsItem c.types r.table) r.items.items s.shown

-- it is at a state, by such tables as are asked for
abbrev pub IsRunOver : (Contents → Type 0) → Run → Type 0
IsRunOver P r = (c : Contents) × (s : State Slot) × P c × IsAt c r s

abbrev pub is_built : Family → Bool
is_built Shows = false
is_built Builds = true

-- each of the slots is set in turn
abbrev pub set_each : (Slot → Term) → List Slot → List Term → Slot → Term
set_each env [] ts = env
set_each env (v ∷ vs) [] = env
set_each env (v ∷ vs) (t ∷ ts) = set_each (M.set Slot same_slot env v t) vs ts

abbrev pub with_each : State Slot → List Slot → List Term → State Slot
with_each s vs ts = record s { env = set_each s.env vs ts }

-- the run is where the jump leads, and where it was if there is no jump
abbrev pub IsJumped : Contents → Run → Bool → State Slot → Option (State Slot) → Type 0
IsJumped c r true s (Some s') = IsAt c r s'
IsJumped c r false s None = IsAt c r s
IsJumped c r _ s _ = ⊥

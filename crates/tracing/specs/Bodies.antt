-- A body as the program keeps it, as blocks of the machine.
use Rattle.std.specs.Prelude.{◌≡◌, ◌<◌, All, IfSome, ℕ, suc, Bool, ◌&&◌, nat_eq, nat_lt, if◌then◌else◌, List, [], ◌∷◌, Option, None, length, map, slice_get}
use Rattle.std.specs.Option.{option_map, option_map_or}
use Rattle.meaning.specs.Terms.{Term, Unset, Param}
use Rattle.meaning.specs.Machine as M
use Rattle.meaning.specs.Machine.{Operand, At, Fixed, Holds, Applies}
use Rattle.tracing.specs.declared.body.Slot.{Slot}
use Rattle.tracing.specs.declared.body.Slot.TheVariants.{Input, Result}
use Rattle.tracing.specs.declared.body.Source.{Source}
use Rattle.tracing.specs.declared.body.Source.TheVariants as S
use Rattle.tracing.specs.declared.body.Action.{Action}
use Rattle.tracing.specs.declared.body.Action.TheVariants as A
use Rattle.tracing.specs.declared.body.Row.{Row}
use Rattle.tracing.specs.declared.body.Edge.{Edge}
use Rattle.tracing.specs.declared.body.Block.{Block}
use Rattle.tracing.specs.contracts.body.SlotPartialEq.TheImpl as slots
use Rattle.llvm_core.specs.Data.{type_at}
use Rattle.tracing.specs.Types.{HasTypesBelow}
use Rattle.tracing.specs.Table.{term_at}
use Rattle.tracing.specs.Contents.{Contents, Lasts}

-- what `==` answers of slots
abbrev pub same_slot : Slot → Slot → Bool
same_slot = slots.eq-value.it

-- an operand; a constant is a place among those terms
abbrev pub source_of : List Term → Source → Operand Slot
source_of ts (S.At s) = At s
source_of ts (S.Fixed k) = Fixed (term_at ts k)

-- what an action does, whose types and constants are places of the tables
abbrev pub action_of : Contents → Action → M.Action Slot
action_of c (A.Holds k) = Holds (term_at c.terms k)
action_of c (A.Applies o types operands) = Applies o (type_at c.types types.result) (map (type_at c.types) types.operands) (map (source_of c.terms) operands)

abbrev pub row_of : Contents → Row → M.Row Slot
row_of c r = record { action = action_of c r.action; result = r.result }

-- what an edge hands to a place, none where it lacks that
abbrev pub given : List Term → List (Option Source) → ℕ → Option (Operand Slot)
given ts sources i = option_map_or (option_map (source_of ts)) (slice_get sources i) None

-- the moves of an edge, for the phis or arguments from a place on
abbrev pub moves_from : List Term → ℕ → List Slot → List (Option Source) → List (Slot × Option (Operand Slot))
moves_from ts i [] sources = []
moves_from ts i (p ∷ params) sources = (p, given ts sources i) ∷ moves_from ts (suc i) params sources

-- the phis or arguments of the block at a place
abbrev pub params_at : List (List Slot) → ℕ → List Slot
params_at params i = option_map_or (λ (ps : List Slot). ps) (slice_get params i) []

abbrev pub edge_of : List Term → List (List Slot) → Edge → M.Edge Slot
edge_of ts params e = record { to = e.to; moves = moves_from ts 0 (params_at params e.to) e.sources }

abbrev pub block_of : Contents → List (List Slot) → Block → M.Block Slot
block_of c params b = record { rows = map (row_of c) b.rows; edges = map (edge_of c.terms params) b.edges }

abbrev pub code_of : Contents → List (List Slot) → List Block → List (M.Block Slot)
code_of c params bs = map (block_of c params) bs

-- ---- what is named

-- a constant is one of the table's
abbrev pub IsKnownSource : Contents → Source → Type 0
IsKnownSource c (S.At s) = Unit {0}
IsKnownSource c (S.Fixed k) = k < length c.terms

-- the types and constants of an action are in the tables
abbrev pub IsKnownAction : Contents → Action → Type 0
IsKnownAction c (A.Holds k) = k < length c.terms
IsKnownAction c (A.Applies o types operands) = HasTypesBelow (length c.types) types × All (IsKnownSource c) operands

abbrev pub IsKnownRow : Contents → Row → Type 0
IsKnownRow c r = IsKnownAction c r.action

-- of what an edge hands over, if anything
abbrev pub IsKnownGiven : Contents → Option Source → Type 0
IsKnownGiven c o = IfSome o (IsKnownSource c)

abbrev pub IsKnownEdge : Contents → Edge → Type 0
IsKnownEdge c e = All (IsKnownGiven c) e.sources

abbrev pub IsKnownBlock : Contents → Block → Type 0
IsKnownBlock c b = All (IsKnownRow c) b.rows × All (IsKnownEdge c) b.edges

-- ---- while the tables grow

-- an operand is x, by these tables and however much more comes to them, and its constant is in them; and so of operands
abbrev pub IsSource : Contents → Source → Operand Slot → Type 0
IsSource c s x = Lasts c (λ (d : Contents). (source_of d.terms s ≡ x) × IsKnownSource d s)

abbrev pub AreSources : Contents → List Source → List (Operand Slot) → Type 0
AreSources c ss xs = Lasts c (λ (d : Contents). (map (source_of d.terms) ss ≡ xs) × All (IsKnownSource d) ss)

-- what an edge hands over, if anything, is x by these tables, and its constant is in them
abbrev pub HandsOver : Contents → Option Source → Option (Operand Slot) → Type 0
HandsOver c o x = (option_map (source_of c.terms) o ≡ x) × IsKnownGiven c o

-- and however much more comes
abbrev pub IsGiven : Contents → Option Source → Option (Operand Slot) → Type 0
IsGiven c o x = Lasts c (λ (d : Contents). HandsOver d o x)

-- an action is x, by these tables and however much more comes, and what it names is in them
abbrev pub IsAction : Contents → Action → M.Action Slot → Type 0
IsAction c a x = Lasts c (λ (d : Contents). (action_of d a ≡ x) × IsKnownAction d a)

-- and so of rows, of a block and of blocks
abbrev pub AreRows : Contents → List Row → List (M.Row Slot) → Type 0
AreRows c rs xs = Lasts c (λ (d : Contents). (map (row_of d) rs ≡ xs) × All (IsKnownRow d) rs)

abbrev pub IsBlock : Contents → List (List Slot) → Block → M.Block Slot → Type 0
IsBlock c params b x = Lasts c (λ (d : Contents). (block_of d params b ≡ x) × IsKnownBlock d b)

abbrev pub AreBlocks : Contents → List (List Slot) → List Block → List (M.Block Slot) → Type 0
AreBlocks c params bs xs = Lasts c (λ (d : Contents). (code_of d params bs ≡ xs) × All (IsKnownBlock d) bs)

-- ---- the start

-- the parameters are set, and nothing else
abbrev pub start_of : (holder inputs : ℕ) → Slot → Term
start_of holder inputs (Input h i) = if nat_eq h holder && nat_lt i inputs then Param i else Unset
start_of holder inputs (Result n) = Unset

-- Runs of a body, whichever side it is of: V names the side's values.
use Rattle.std.specs.Prelude.{ℕ, suc, Bool, false, ◌||◌, if◌then◌else◌, List, [], ◌∷◌, ◌++◌, Option, Some, None, map, slice_get}
use Rattle.std.specs.List.{list_any}
use Rattle.kinds.specs.declared.op.Op.{Op}
use Rattle.kinds.specs.Types.{TypeTree}
use Rattle.meaning.specs.Terms.{Term, Answer, Unset, is_unset, silent}

-- an operand: a value, or a term that is written in place
pub data Operand (V : Type 0) : Type 0 where
  At : V → Operand V
  Fixed : Term → Operand V

-- what an instruction or operation does: it holds a constant, or applies a row of the table to operands
pub data Action (V : Type 0) : Type 0 where
  Holds : Term → Action V
  Applies : (op : Op) (type : TypeTree) (operand_types : List TypeTree) (operands : List (Operand V)) → Action V

-- what the runs see of an instruction or operation
pub record Row (V : Type 0) : Type 0 where
  pub action : Action V
  pub result : V

-- an edge: the place where it leads, and what each phi or argument there takes; none for what the edge lacks
pub record Edge (V : Type 0) : Type 0 where
  pub to : ℕ
  pub moves : List (V × Option (Operand V))

-- a block: its rows but the phis, and its edges, the terminator's successors in order
pub record Block (V : Type 0) : Type 0 where
  pub rows : List (Row V)
  pub edges : List (Edge V)

-- what a run shows: a block that it enters, by place, or an event
pub data Item : Type 0 where
  Entered : (block : ℕ) → Item
  Event : (op : Op) (type : TypeTree) (operand_types : List TypeTree) (operands : List Term) → Item

-- A run so far: the block it is in, the term of each value, how many events there were, what was shown,
-- and whether it has read an unset value.
pub record State (V : Type 0) : Type 0 where
  pub block : ℕ
  pub env : V → Term
  pub count : ℕ
  pub shown : List Item
  pub unset : Bool

abbrev pub read : {V : Type 0} → (V → Term) → Operand V → Term
read env (At v) = env v
read env (Fixed t) = t

-- what an edge lacks is unset
abbrev pub read_move : {V : Type 0} → (V → Term) → Option (Operand V) → Term
read_move env None = Unset
read_move env (Some o) = read env o

module _ (V : Type 0) (same : V → V → Bool) where
  abbrev pub set : (V → Term) → V → Term → V → Term
  set env v t w = if same v w then t else env w

  abbrev pub set_in : State V → V → Term → State V
  set_in s v t = record s { env = set s.env v t }

  -- these terms were read
  abbrev pub reads : State V → List Term → State V
  reads s ts = record s { unset = s.unset || list_any is_unset ts }

  abbrev pub shows : State V → Item → State V
  shows s i = record s { shown = s.shown ++ i ∷ [] }

  -- an event shows itself and sets its result to the answer of its number
  abbrev pub answered : State V → V → Item → State V
  answered s v i = record (shows (set_in s v (Answer s.count)) i) { count = suc s.count }

  -- a silent row sets the result to its term, any other is an event
  abbrev pub effect : State V → V → Item → Option Term → State V
  effect s v event (Some t) = set_in s v t
  effect s v event None = answered s v event

  abbrev pub apply : State V → V → Action V → State V
  apply s v (Holds t) = set_in s v t
  apply s v (Applies o ty tys os) =
      effect (reads s (map (read s.env) os)) v (Event o ty tys (map (read s.env) os)) (silent o ty (map (read s.env) os))

  -- a straight run
  abbrev pub straight : State V → List (Row V) → State V
  straight s [] = s
  straight s (r ∷ rs) = straight (apply s r.result r.action) rs

  -- the moves of an edge, all read in the environment before it
  abbrev pub moved : (before env : V → Term) → List (V × Option (Operand V)) → V → Term
  moved before env [] = env
  moved before env (m ∷ ms) = moved before (set env m.0 (read_move before m.1)) ms

  -- the block entered, and run to its end
  abbrev pub arrive : State V → ℕ → List (Row V) → State V
  arrive s b rows = straight (shows (record s { block = b }) (Entered b)) rows

  abbrev pub move : State V → List (V × Option (Operand V)) → State V
  move s ms = record (reads s (map (λ (m : V × Option (Operand V)). read_move s.env m.1) ms)) { env = moved s.env s.env ms }

  -- along an edge, unless it leads to no block
  abbrev pub follow : State V → Edge V → Option (Block V) → Option (State V)
  follow s e None = None
  follow s e (Some b) = Some (arrive (move s e.moves) e.to b.rows)

  abbrev pub take_edge : List (Block V) → State V → Option (Edge V) → Option (State V)
  take_edge code s None = None
  take_edge code s (Some e) = follow s e (slice_get code e.to)

  abbrev pub edge_of : Option (Block V) → ℕ → Option (Edge V)
  edge_of None choice = None
  edge_of (Some b) choice = slice_get b.edges choice

  -- a jump: the choice is a place among the block's edges
  abbrev pub jump : List (Block V) → State V → ℕ → Option (State V)
  jump code s choice = take_edge code s (edge_of (slice_get code s.block) choice)

  abbrev pub go_on : State V → (State V → State V) → Option (State V) → State V
  go_on s next None = s
  go_on s next (Some s') = next s'

  -- a choice for each jump; where there is no such edge the run is over
  abbrev pub run : List (Block V) → List ℕ → State V → State V
  run code [] s = s
  run code (c ∷ cs) s = go_on s (run code cs) (jump code s c)

  abbrev pub begin : (V → Term) → State V
  begin start = record { block = 0; env = start; count = 0; shown = []; unset = false }

  abbrev pub enter_first : (V → Term) → Option (Block V) → State V
  enter_first start None = begin start
  enter_first start (Some b) = arrive (begin start) 0 b.rows

  -- a run begins in the first block
  abbrev pub first : (V → Term) → List (Block V) → State V
  first start code = enter_first start (slice_get code 0)

  -- the blocks entered and the events, for a list of choices
  abbrev pub trace : (V → Term) → List (Block V) → List ℕ → List Item
  trace start code choices = (run code choices (first start code)).shown

  -- whether the run reads an unset value
  abbrev pub reads_unset : (V → Term) → List (Block V) → List ℕ → Bool
  reads_unset start code choices = (run code choices (first start code)).unset

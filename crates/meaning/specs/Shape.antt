-- How a function of the dialect stands to a function of LLVM that it was made of, or that was made of it:
-- row by row and edge by edge. It speaks of instructions and operations through their rows alone.
use Rattle.std.specs.Prelude.{◌≡◌, ℕ, zero, suc, Bool, true, false, List, [], ◌∷◌, ◌++◌, map, Option, Some, slice_get}
use Rattle.std.specs.List.{list_any}
use Rattle.llvm_core.specs.Data as L
use Rattle.dialect_core.specs.declared.ops.Value.{Value}
use Rattle.dialect_core.specs.Data as D
use Rattle.kinds.specs.declared.rules.Family.TheVariants.{Builds}
use Rattle.meaning.specs.Terms.{Term, Unset, Match, family, rename, rename_type}
use Rattle.meaning.specs.Machine.{Operand, At, Fixed, Action, Holds, Applies, Row, Edge, Block, begin, straight}
use Rattle.meaning.specs.Setting.{Setting}
use Rattle.meaning.specs.Pairs.{Matched, BothOrNone}
use Rattle.meaning.specs.Llvm as Llvm
use Rattle.meaning.specs.Llvm.{Key}
use Rattle.meaning.specs.Dialect as Dialect
use Rattle.meaning.specs.Dialect.{same_value}

-- ---- silent rows that stand by themselves

-- it makes a term whatever its operands are: it holds a constant, or builds an expression
abbrev pub IsSilent : Action Value → Type 0
IsSilent (Holds t) = Unit {0}
IsSilent (Applies op type types operands) = family op ≡ Builds

-- one of the rows sets the value
abbrev pub among : List (Row Value) → Value → Bool
among rows w = list_any (λ (r : Row Value). same_value r.result w) rows

-- the operands are set by the rows, or written in place
abbrev pub AreAmong : List (Row Value) → List (Operand Value) → Type 0
AreAmong rows [] = Unit {0}
AreAmong rows (At w ∷ os) = (among rows w ≡ true) × AreAmong rows os
AreAmong rows (Fixed t ∷ os) = AreAmong rows os

abbrev pub operands_of : Action Value → List (Operand Value)
operands_of (Holds t) = []
operands_of (Applies op type types operands) = operands

-- silent rows that read only what those done and earlier ones of them set
abbrev pub IsClosed : (done rows : List (Row Value)) → Type 0
IsClosed done [] = Unit {0}
IsClosed done (r ∷ rows) = IsSilent r.action × AreAmong done (operands_of r.action) × IsClosed (r ∷ done) rows

-- the term that such rows give a value
abbrev pub term_among : List (Row Value) → Value → Term
term_among rows w = (straight Value same_value (begin Value same_value (λ (v : Value). Unset)) rows).env w

-- ---- what stands for what

-- for each parameter and result of LLVM the value that stands for it, and the rows for constants, which stand first in
-- the entry (in a `WovenShape` of Woven.antt they stand anywhere)
pub record Plan : Type 0 where
  pub value : Key → Option Value
  pub hoisted : List (Row Value)

module _ (match : Match) (plan : Plan) where
  -- an operand of LLVM and one of the dialect: a value that stands for it, or one hoisted with the constant's term
  abbrev pub StandsFor : Operand Key → Operand Value → Type 0
  StandsFor (At k) (At w) = plan.value k ≡ Some w
  StandsFor (At k) (Fixed u) = ⊥
  StandsFor (Fixed t) (At w) = (among plan.hoisted w ≡ true) × (rename match t ≡ term_among plan.hoisted w)
  StandsFor (Fixed t) (Fixed u) = rename match t ≡ u

  -- the same row of the table with the same immediates and types, and operands that stand for one another
  abbrev pub SameAction : Action Key → Action Value → Type 0
  SameAction (Applies o ty tys os) (Applies p uy uys ps) = (o ≡ p) × (rename_type match ty ≡ uy) × (map (rename_type match) tys ≡ uys) × Matched StandsFor os ps
  SameAction (Applies o ty tys os) (Holds u) = ⊥
  SameAction (Holds t) (Applies p uy uys ps) = ⊥
  SameAction (Holds t) (Holds u) = ⊥

  pub record SameRow (r : Row Key) (q : Row Value) : Type 0 where
    pub action : SameAction r.action q.action
    pub result : plan.value r.result ≡ Some q.result

  -- a phi and an argument, and what they take on an edge
  pub record SameMove (m : Key × Option (Operand Key)) (n : Value × Option (Operand Value)) : Type 0 where
    pub target : plan.value m.0 ≡ Some n.0
    pub source : BothOrNone StandsFor m.1 n.1

  -- silent rows whose results stand for nothing
  pub record IsIdle (rows : List (Row Value)) : Type 0 where
    pub closed : IsClosed [] rows
    pub values : (k : Key) (w : Value) → plan.value k ≡ Some w → among rows w ≡ false
    pub hoisted : (w : Value) → among plan.hoisted w ≡ true → among rows w ≡ false

  -- what stands first in the entry, and in any other block
  abbrev pub IsFront : (block : ℕ) → List (Row Value) → Type 0
  IsFront zero rows = rows ≡ plan.hoisted
  IsFront (suc n) rows = IsIdle rows

  module _ (here : ℕ → ℕ) where
    pub record SameEdge (e : Edge Key) (f : Edge Value) : Type 0 where
      pub to : here e.to ≡ f.to
      pub moves : Matched SameMove e.moves f.moves

    -- the block at a place of the source, and the dialect's
    pub record SameBlock (place : ℕ) (b : Block Key) (c : Block Value) : Type 0 where
      pub front : List (Row Value)
      pub rest : List (Row Value)
      pub rows : c.rows ≡ front ++ rest
      pub leads : IsFront place front
      pub pairs : Matched SameRow b.rows rest
      pub edges : Matched SameEdge b.edges c.edges

    -- blocks that stand for one another, of which the first is the first
    pub record SameBlocks (source : List (Block Key)) (target : List (Block Value)) : Type 0 where
      pub entry : (b : Block Key) × (slice_get source 0 ≡ Some b)
      pub first : here 0 ≡ 0
      pub blocks : (place : ℕ) → BothOrNone (SameBlock place) (slice_get source place) (slice_get target (here place))

-- values stand for one thing each, apart from what is hoisted
pub record IsPlan (plan : Plan) : Type 0 where
  pub closed : IsClosed [] plan.hoisted
  pub one_to_one : (j k : Key) (w : Value) → plan.value j ≡ Some w → plan.value k ≡ Some w → j ≡ k
  pub apart : (k : Key) (w : Value) → plan.value k ≡ Some w → among plan.hoisted w ≡ false

-- The function g of the dialect, whose module tells b, stands for the function f of LLVM, whose module tells a, under a
-- match of blocks and structs.
pub record SameShape (match : Match) (a : Setting) (f : L.Function) (b : Setting) (g : D.Func) : Type 0 where
  pub plan : Plan
  pub is_plan : IsPlan plan
  -- before the first event, values have the terms of what they stand for
  pub starts : (k : Key) (w : Value) → plan.value k ≡ Some w → rename match (Llvm.start f k) ≡ Dialect.start g.blocks w
  pub same : SameBlocks match plan (match.block f.name) (map (Llvm.block a f) f.blocks) (map (Dialect.block b g) g.blocks)

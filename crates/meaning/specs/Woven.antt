-- How a function of the dialect stands to one of LLVM where its constants are set at any places of any blocks:
-- the rows that hold them are woven in between, and the others pair off in order.
use Rattle.std.specs.Prelude.{◌≡◌, ℕ, Bool, true, false, not, List, [], ◌∷◌, Some, All, filter, map, slice_get}
use Rattle.llvm_core.specs.Data as L
use Rattle.dialect_core.specs.declared.ops.Value.{Value}
use Rattle.dialect_core.specs.Data as D
use Rattle.meaning.specs.Terms.{Unset, Match, rename}
use Rattle.meaning.specs.Machine.{Operand, At, Fixed, Action, Holds, Applies, Row, Block, reads_unset}
use Rattle.meaning.specs.Setting.{Setting}
use Rattle.meaning.specs.Pairs.{Matched, BothOrNone}
use Rattle.meaning.specs.Code.{under}
use Rattle.meaning.specs.Llvm as Llvm
use Rattle.meaning.specs.Llvm.{Key}
use Rattle.meaning.specs.Dialect as Dialect
use Rattle.meaning.specs.Dialect.{same_value}
use Rattle.meaning.specs.Shape.{Plan, IsPlan, among, term_among, operands_of, SameRow, SameEdge}

-- ---- rows that hold constants

abbrev pub sets_constant : Action Value → Bool
sets_constant (Holds t) = true
sets_constant (Applies op type types operands) = false

-- the rows that pair off with those of LLVM: all but those that hold constants
abbrev pub paired : List (Row Value) → List (Row Value)
paired rows = filter (λ (r : Row Value). not (sets_constant r.action)) rows

module _ (plan : Plan) where
  -- a row that holds a constant sets a constant of the plan, to the term that it has there
  abbrev pub KeepsPlan : Action Value → Value → Type 0
  KeepsPlan (Holds t) w = (among plan.hoisted w ≡ true) × (term_among plan.hoisted w ≡ t)
  KeepsPlan (Applies op type types operands) w = Unit {0}

  -- ---- constants that are set before they are read

  -- the constants among the operands are set by the rows
  abbrev pub AreSet : List (Row Value) → List (Operand Value) → Type 0
  AreSet rows [] = Unit {0}
  AreSet rows (At w ∷ os) = (among plan.hoisted w ≡ true → among rows w ≡ true) × AreSet rows os
  AreSet rows (Fixed t ∷ os) = AreSet rows os

  -- each row reads only constants that those done, or rows before it, set
  abbrev pub ReadsOnlySet : (done rows : List (Row Value)) → Type 0
  ReadsOnlySet done [] = Unit {0}
  ReadsOnlySet done (r ∷ rows) = AreSet done (operands_of r.action) × ReadsOnlySet (r ∷ done) rows

  -- the first block sets every constant, before what reads it
  pub record SetsConstantsFirst (blocks : List (Block Value)) : Type 0 where
    pub entry : Block Value
    pub first : slice_get blocks 0 ≡ Some entry
    pub sets : (w : Value) → among plan.hoisted w ≡ true → among entry.rows w ≡ true
    pub reads : ReadsOnlySet [] entry.rows

-- ---- the shape

module _ (match : Match) (plan : Plan) (here : ℕ → ℕ) where
  -- a block of LLVM and one of the dialect: the rows but those that hold constants pair off in order, and edges do
  pub record WovenBlock (b : Block Key) (c : Block Value) : Type 0 where
    pub constants : All (λ (r : Row Value). KeepsPlan plan r.action r.result) c.rows
    pub pairs : Matched (SameRow match plan) b.rows (paired c.rows)
    pub edges : Matched (SameEdge match plan here) b.edges c.edges

  -- blocks that stand for one another, of which the first is the first
  pub record WovenBlocks (source : List (Block Key)) (target : List (Block Value)) : Type 0 where
    pub first : here 0 ≡ 0
    pub blocks : (place : ℕ) → BothOrNone WovenBlock (slice_get source place) (slice_get target (here place))

-- The function g of the dialect, whose module tells b, stands for the function f of LLVM, whose module tells a, under a
-- match of blocks and structs, with constants at any places. The plan's hoisted rows are here its constants.
pub record WovenShape (match : Match) (a : Setting) (f : L.Function) (b : Setting) (g : D.Func) : Type 0 where
  pub plan : Plan
  pub is_plan : IsPlan plan
  -- before the first event, values have the terms of what they stand for, and no constant is set
  pub starts : (k : Key) (w : Value) → plan.value k ≡ Some w → rename match (Llvm.start f k) ≡ Dialect.start g.blocks w
  pub unset : (w : Value) → among plan.hoisted w ≡ true → Dialect.start g.blocks w ≡ Unset
  pub same : WovenBlocks match plan (match.block f.name) (map (Llvm.block a f) f.blocks) (map (Dialect.block b g) g.blocks)

-- ---- what follows from it

-- the run of the function of the dialect reads an unset value
abbrev pub func_reads_unset : Setting → D.Func → List ℕ → Bool
func_reads_unset b g choices = reads_unset Value same_value (Dialect.start g.blocks) (map (Dialect.block b g) g.blocks) choices

abbrev pub SameTrace : Match → Setting → L.Function → Setting → D.Func → List ℕ → Type 0
SameTrace match a f b g choices = map (under match f.name) ((Llvm.body a f).trace choices) ≡ (Dialect.body b g).trace choices

-- the traces are equal for every list of choices by which the function of the dialect reads no unset value
abbrev pub WovenLaw : Type 0
WovenLaw = (match : Match) → (a : Setting) → (f : L.Function) → (b : Setting) → (g : D.Func) → WovenShape match a f b g → (choices : List ℕ) → func_reads_unset b g choices ≡ false → SameTrace match a f b g choices

-- the traces are equal for every list of choices, where the first block sets the constants
abbrev pub WovenFirstLaw : Type 0
WovenFirstLaw = (match : Match) → (a : Setting) → (f : L.Function) → (b : Setting) → (g : D.Func) → (h : WovenShape match a f b g) → SetsConstantsFirst h.plan (map (Dialect.block b g) g.blocks) → (choices : List ℕ) → SameTrace match a f b g choices

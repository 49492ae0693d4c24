-- The rules of the dialect for one operation: what it asks of the types of its operands, of its result and of its edges.
use Rattle.std.specs.Prelude.{◌≡◌, ℕ, Bool, true, List, [], length, slice_get, Option, Some, All, IfSome}
use Rattle.std.specs.Option.{option_and_then}
use Rattle.kinds.specs.declared.op.Op.{Op}
use Rattle.kinds.specs.declared.rules.Takes.{Takes}
use Rattle.kinds.specs.declared.rules.Takes.TheVariants as O
use Rattle.kinds.specs.Types.{TypeTree, laned, same_tree, result_of}
use Rattle.kinds.specs.Held.{is_void, IsFirstClass}
use Rattle.kinds.specs.Rules.{operand_count, target_count}
use Rattle.kinds.specs.Table.{rule_of}
use Rattle.kinds.specs.Fitting.{fits}
use Rattle.kinds.specs.Typing.{given, written_for}
use Rattle.const_attrs.specs.Trees.{AttrTree, type_of}
use Rattle.dialect_core.specs.declared.ops.Value.{Value}
use Rattle.dialect_core.specs.declared.ops.Value.TheVariants.{Argument}
use Rattle.dialect_core.specs.declared.ops.Successor.{Successor}
use Rattle.dialect_core.specs.Data.{Kind, ConstantOp, FilledOp, RowOp, DialectBlock, Func}

-- ---- values

-- The rules of operands ask for their types alone, whichever function they belong to: so they speak of a typing, that of
-- the context (`type_in`) in a module, or that of the function (`value_type`) where its values are its own.

-- the type of each value, None where there is no such value
abbrev pub Typing : Type 0
Typing = Value → Option TypeTree

-- a value that there is
abbrev pub IsTypedBy : Typing → Value → Type 0
IsTypedBy types v = (type : TypeTree) × (types v ≡ Some type)

-- a value of a first class type
abbrev pub IsFirstClassBy : Typing → Value → Type 0
IsFirstClassBy types v = (type : TypeTree) × (types v ≡ Some type) × IsFirstClass type

-- the type of the value at a place
abbrev pub type_nth : Typing → List Value → ℕ → Option TypeTree
type_nth types vs i = option_and_then types (slice_get vs i)

-- ---- edges

-- An edge does not go to the function's first block; `IsWellFormed` says that it goes to no other first block either. It
-- passes values, and where its target has an argument at the place of such a value, the two have one type: in a context
-- the target may be a block of another function.
pub record IsEdge (types : Typing) (g : Func) (s : Successor) : Type 0 where
  pub no_entry : (b : DialectBlock) → slice_get g.blocks 0 ≡ Some b → ¬ (s.block.0 ≡ b.number)
  pub args : All (IsTypedBy types) s.args
  pub typed : (place : ℕ) (v : Value) (type : TypeTree) → slice_get s.args place ≡ Some v → types (Argument s.block place) ≡ Some type → types v ≡ Some type

-- as many edges
abbrev pub AreEdges : Typing → Func → ℕ → List Successor → Type 0
AreEdges types g count ss = (length ss ≡ count) × All (IsEdge types g) ss

-- ---- operations

abbrev pub returns_void : Func → Bool
returns_void g = is_void (result_of g.type)

-- what a return has is of the type that the function returns; of what takes other operands it is not asked
abbrev pub IsReturning : Takes → Typing → TypeTree → List Value → Type 0
IsReturning O.Nothing types type vs = Unit {0}
IsReturning (O.One x) types type vs = Unit {0}
IsReturning (O.Two x y) types type vs = Unit {0}
IsReturning (O.Three x y z) types type vs = Unit {0}
IsReturning O.Return types type vs = All (λ (v : Value). types v ≡ Some type) vs

-- the types of the operands fit the row, beside the type of its result where that is one that it writes
abbrev pub row_fits : Typing → Op → (own : Option TypeTree) → List Value → Bool
row_fits types op own vs = fits laned same_tree (rule_of op) (length vs) (written_for (rule_of op).gives own) (type_nth types vs 0) (type_nth types vs 1) (type_nth types vs 2)

-- the type that the row gives its result, None where there is none
abbrev pub row_result : Typing → Op → (own : Option TypeTree) → List Value → Option TypeTree
row_result types op own vs = given (rule_of op).gives (written_for (rule_of op).gives own) (type_nth types vs 0) (type_nth types vs 1)

-- the operands, the result and the edges keep the rule of the row
pub record IsRow (types : Typing) (g : Func) (op : Op) (operands : List Value) (own : Option TypeTree) (edges : List Successor) : Type 0 where
  pub values : All (IsFirstClassBy types) operands
  pub count : length operands ≡ operand_count (rule_of op).takes (returns_void g)
  pub fits : row_fits types op own operands ≡ true
  pub returns : IsReturning (rule_of op).takes types (result_of g.type) operands
  pub result : own ≡ row_result types op own operands
  pub value : IfSome own IsFirstClass
  pub leads : AreEdges types g (target_count (rule_of op).leads) edges

-- a constant of a type of values
pub record IsConstant (constant : AttrTree) (operands : List Value) (own : Option TypeTree) (edges : List Successor) : Type 0 where
  pub value : IsFirstClass (type_of constant)
  pub result : own ≡ Some (type_of constant)
  pub bare : operands ≡ []
  pub ends_here : edges ≡ []

-- zero, undef or poison of a type of values
pub record IsFilled (operands : List Value) (own : Option TypeTree) (edges : List Successor) : Type 0 where
  pub type : TypeTree
  pub result : own ≡ Some type
  pub value : IsFirstClass type
  pub bare : operands ≡ []
  pub ends_here : edges ≡ []

-- the operands, the result and the edges of an operation
abbrev pub IsOfKind : Typing → Func → List Value → Option TypeTree → List Successor → Kind → Type 0
IsOfKind types g operands own edges (ConstantOp value) = IsConstant value operands own edges
IsOfKind types g operands own edges (FilledOp fill) = IsFilled operands own edges
IsOfKind types g operands own edges (RowOp op) = IsRow types g op operands own edges

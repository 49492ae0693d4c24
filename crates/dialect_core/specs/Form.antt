-- Functions of the form that is translated today: a body of constants and rows of the table, over the types that are held.
-- Where its constants stand is a question of its own.
use Rattle.std.specs.Prelude.{◌≡◌, ◌<◌, ◌≤◌, ◌^◌, ℕ, suc, Bool, true, false, not, List, [], ◌∷◌, ◌++◌, length, take, filter, slice_get, Some, None, All, IfSome}
use Rattle.std.specs.List.{flat_map}
use Rattle.std.specs.Option.{option_map_or}
use Rattle.dialect_types.specs.Trees.{NamedStruct, TypeTree, IntType, VectorType, FunctionType, TypeTrees}
use Rattle.const_attrs.specs.Trees.{AttrTree, IntegerAttr, FilledAttr, BytesAttr, AggregateAttr, SplatAttr, AttrTrees, NoAttrs, ThenAttr}
use Rattle.const_attrs.specs.Verified.{broken}
use Rattle.kinds.specs.declared.fill.Fill.{Fill}
use Rattle.kinds.specs.declared.types.VectorTypeKind.TheVariants.{Fixed}
use Rattle.dialect_core.specs.declared.linkage.LinkageAttr.TheVariants.{ExternalLinkage}
use Rattle.dialect_core.specs.declared.ops.Value.{Value}
use Rattle.dialect_core.specs.declared.ops.Value.TheVariants.{Result, Argument}
use Rattle.dialect_core.specs.declared.ops.Successor.{Successor}
use Rattle.kinds.specs.Rules.{ends}
use Rattle.kinds.specs.Table.{rule_of}
use Rattle.kinds.specs.Fill.{is_own_fill}
use Rattle.kinds.specs.Types.{shape, types_list}
use Rattle.kinds.specs.Held.{width_in, IsShallow, IsShortWidth, IsHeld, IsHeldResult}
use Rattle.kinds.specs.Names.{is_good_name, is_own_name}
use Rattle.dialect_core.specs.Rules.{IsOfKind}
use Rattle.dialect_core.specs.Data.{Kind, ConstantOp, FilledOp, RowOp, DialectOp, DialectBlock, Func, llvm_name_of, ops_in, value_type}

-- ---- operations

-- an operand of that type, which is translated, wherever it is defined in the function
pub record IsOperand (g : Func) (type : TypeTree) (v : Value) : Type 0 where
  pub typed : value_type g v ≡ Some type
  pub held : IsHeld type

-- an operand of some such type
abbrev pub IsHeldValue : Func → Value → Type 0
IsHeldValue g v = (type : TypeTree) × IsOperand g type v

-- an integer of 1 to 64 bits, since an integer attribute holds no more, which the value fits
abbrev pub IsIntegerOf : TypeTree → ℕ → Type 0
IsIntegerOf type value = (w : ℕ) × (type ≡ IntType w) × IsShortWidth w × (value < 2 ^ w)

-- zero, undef or poison of a type; the zero of an integer type is an integer constant of LLVM, of which those of at most 64 bits are
-- translated
abbrev pub IsShortFill : Fill → TypeTree → Type 0
IsShortFill fill type = is_own_fill fill (shape type) ≡ false → IsShortWidth (width_in type)

-- a vector of a known length
abbrev pub is_fixed : TypeTree → Bool
is_fixed (VectorType Fixed count type) = true
is_fixed _ = false

abbrev mutual
  -- A constant that is translated: each integer in it, the zero of an integer type too, has 1 to 64 bits, which it fits, and no vector of
  -- equal elements in it is scalable.
  pub IsShortAttr : AttrTree → Type 0
  IsShortAttr (IntegerAttr type value) = IsIntegerOf type value
  IsShortAttr (FilledAttr fill type) = IsShortFill fill type
  IsShortAttr (BytesAttr bytes) = All (λ (b : ℕ). b < 2 ^ 8) bytes
  IsShortAttr (AggregateAttr elements type) = AreShortAttrs elements
  IsShortAttr (SplatAttr element type) = (is_fixed type ≡ true) × IsShortAttr element

  pub AreShortAttrs : AttrTrees → Type 0
  AreShortAttrs NoAttrs = Unit {0}
  AreShortAttrs (ThenAttr c cs) = IsShortAttr c × AreShortAttrs cs

-- A constant that is translated: the type of zero, undef or poison is that of the result. Of what is no constant nothing is asked.
abbrev pub IsShortKind : Kind → (result : TypeTree) → Type 0
IsShortKind (ConstantOp value) type = IsShortAttr value
IsShortKind (FilledOp fill) type = IsShortFill fill type
IsShortKind (RowOp op) type = Unit {0}

-- an operation of the function g: it keeps the rules of the dialect by the types that g gives its values, those types are
-- translated, and so is a constant that it holds
pub record IsFormOp (g : Func) (o : DialectOp) : Type 0 where
  pub kind : IsOfKind (value_type g) g o.operands o.result o.successors o.kind
  pub operands : All (IsHeldValue g) o.operands
  pub passed : All (λ (s : Successor). All (IsHeldValue g) s.args) o.successors
  pub result : IfSome o.result IsHeld
  pub short : IfSome o.result (IsShortKind o.kind)

-- ---- the rules of constants

-- the constant that an operation holds keeps the rules of constants, where these are the structs with a name
abbrev pub IsRuledKind : List NamedStruct → Kind → Type 0
IsRuledKind structs (ConstantOp value) = broken structs value ≡ None
IsRuledKind structs (FilledOp fill) = Unit {0}
IsRuledKind structs (RowOp op) = Unit {0}

-- so does each that the function holds
abbrev pub IsRuled : List NamedStruct → Func → Type 0
IsRuled structs g = All (λ (o : DialectOp). IsRuledKind structs o.kind) (ops_in g)

-- ---- functions

abbrev pub is_constant_kind : Kind → Bool
is_constant_kind (ConstantOp value) = true
is_constant_kind (FilledOp fill) = true
is_constant_kind (RowOp op) = false

abbrev pub is_constant : DialectOp → Bool
is_constant o = is_constant_kind o.kind

abbrev pub is_terminator_kind : Kind → Bool
is_terminator_kind (ConstantOp value) = false
is_terminator_kind (FilledOp fill) = false
is_terminator_kind (RowOp op) = ends (rule_of op).leads

abbrev pub is_terminator : DialectOp → Bool
is_terminator o = is_terminator_kind o.kind

-- the last operation is a terminator, and no other
pub record EndsInOnly (os : List DialectOp) : Type 0 where
  pub front : List DialectOp
  pub last : DialectOp
  pub are : os ≡ front ++ last ∷ []
  pub ends : is_terminator last ≡ true
  pub before : All (λ (o : DialectOp). is_terminator o ≡ false) front

-- the operations of a block but the constants
abbrev pub others_of : List DialectOp → List DialectOp
others_of os = filter (λ (o : DialectOp). not (is_constant o)) os

-- the operations of a function but the constants
abbrev pub body_ops : Func → List DialectOp
body_ops g = others_of (ops_in g)

-- a block of the function g
pub record IsFormBlock (g : Func) (b : DialectBlock) : Type 0 where
  pub args : All IsHeld b.args
  pub ops : All (IsFormOp g) b.ops
  pub ends : EndsInOnly b.ops

-- a function of the form: it has a body, with constants at any places of it
pub record IsFormFunc (g : Func) : Type 0 where
  pub named : ¬ (g.name ≡ [])
  pub llvm_named : is_own_name (llvm_name_of g) ≡ true
  pub good : is_good_name (llvm_name_of g) ≡ true
  pub result : TypeTree
  pub types : TypeTrees
  pub type : g.type ≡ FunctionType result types false
  pub returns : IsHeldResult result
  pub takes : All IsHeld (types_list types)
  pub shallow : IsShallow g.type
  pub linkage : g.linkage ≡ ExternalLinkage
  pub entry : DialectBlock
  pub more : List DialectBlock
  pub body : g.blocks ≡ entry ∷ more
  pub params : entry.args ≡ types_list types
  pub blocks : All (IsFormBlock g) g.blocks
  pub block_numbers : (i j : ℕ) (a b : DialectBlock) → slice_get g.blocks i ≡ Some a → slice_get g.blocks j ≡ Some b → a.number ≡ b.number → i ≡ j
  pub numbers : (i j : ℕ) (a b : DialectOp) → slice_get (ops_in g) i ≡ Some a → slice_get (ops_in g) j ≡ Some b → a.number ≡ b.number → i ≡ j

-- ---- where constants stand

-- each constant of a function stands in its first block
abbrev pub HasOnlyEntryConstants : Func → Type 0
HasOnlyEntryConstants g = (j : ℕ) (b : DialectBlock) → slice_get g.blocks (suc j) ≡ Some b → All (λ (o : DialectOp). is_constant o ≡ false) b.ops

-- the constants stand first
pub record HasConstantsFirst (os : List DialectOp) : Type 0 where
  pub hoisted : List DialectOp
  pub rest : List DialectOp
  pub are : os ≡ hoisted ++ rest
  pub constants : All (λ (o : DialectOp). is_constant o ≡ true) hoisted
  pub others : All (λ (o : DialectOp). is_constant o ≡ false) rest

-- the constants of a function stand in its first block, before all else
pub record HasConstantsInEntry (g : Func) : Type 0 where
  pub entry : DialectBlock
  pub here : slice_get g.blocks 0 ≡ Some entry
  pub first : HasConstantsFirst entry.ops
  pub others : HasOnlyEntryConstants g

-- ---- what an export asks besides

-- the operations before the one at a place of the block at a place, block after block
abbrev pub ops_before : Func → (block place : ℕ) → List DialectOp
ops_before g j k = flat_map (λ (b : DialectBlock). b.ops) (take j g.blocks) ++ option_map_or (λ (b : DialectBlock). take k b.ops) (slice_get g.blocks j) []

-- the value stands before the operation at a place of the block at a place: an argument of that block or of one
-- before, or the result of an operation before
abbrev pub StandsBefore : Func → (block place : ℕ) → Value → Type 0
StandsBefore g j k (Result r) = (i : ℕ) × (o : DialectOp) × (slice_get (ops_before g j k) i ≡ Some o) × (o.number ≡ r.0)
StandsBefore g j k (Argument c i) = (x : ℕ) × (b : DialectBlock) × (x ≤ j) × (slice_get g.blocks x ≡ Some b) × (b.number ≡ c.0) × (i < length b.args)

-- the values that an operation uses: its operands, then what its edges pass
abbrev pub uses_of : DialectOp → List Value
uses_of o = o.operands ++ flat_map (λ (s : Successor). s.args) o.successors

-- a value of the function: a result of one of its operations, or an argument of one of its blocks
abbrev pub IsValueOf : Func → Value → Type 0
IsValueOf g v = (type : TypeTree) × (value_type g v ≡ Some type)

-- each operand and each value that an edge passes is a value of the function
abbrev pub HasOwnValues : Func → Type 0
HasOwnValues g = (j k : ℕ) (b : DialectBlock) (o : DialectOp) → slice_get g.blocks j ≡ Some b → slice_get b.ops k ≡ Some o → All (IsValueOf g) (uses_of o)

-- each value stands before its uses, the blocks taken in order
abbrev pub IsInOrder : Func → Type 0
IsInOrder g = (j k : ℕ) (b : DialectBlock) (o : DialectOp) → slice_get g.blocks j ≡ Some b → slice_get b.ops k ≡ Some o → All (StandsBefore g j k) (uses_of o)

-- the edges of a block, in order
abbrev pub edges_of : DialectBlock → List Successor
edges_of b = flat_map (λ (o : DialectOp). o.successors) b.ops

-- the edge leads to a block of the function, and passes a value for each of its arguments
abbrev pub FitsTarget : Func → Successor → Type 0
FitsTarget g s = (i : ℕ) × (b : DialectBlock) × (slice_get g.blocks i ≡ Some b) × (b.number ≡ s.block.0) × (length s.args ≡ length b.args)

-- each edge of the function does so
abbrev pub LeadsToOwn : Func → Type 0
LeadsToOwn g = All (λ (b : DialectBlock). All (FitsTarget g) (edges_of b)) g.blocks

-- two edges of a block that lead to one block pass the same values
abbrev pub HasEqualEdges : DialectBlock → Type 0
HasEqualEdges b = (i j : ℕ) (s t : Successor) → slice_get (edges_of b) i ≡ Some s → slice_get (edges_of b) j ≡ Some t → s.block ≡ t.block → s.args ≡ t.args

-- nothing of the function is refused by an export
pub record IsExportable (g : Func) : Type 0 where
  pub in_order : IsInOrder g
  pub targets : LeadsToOwn g
  pub equal : All HasEqualEdges g.blocks

-- an edge of the function leads to the block of that number
abbrev pub IsReached : Func → ℕ → Type 0
IsReached g n = (i j : ℕ) × (b : DialectBlock) × (s : Successor) × (slice_get g.blocks i ≡ Some b) × (slice_get (edges_of b) j ≡ Some s) × (s.block.0 ≡ n)

-- each block with arguments, the first aside, is an edge's target
abbrev pub HasTargets : Func → Type 0
HasTargets g = (i : ℕ) (b : DialectBlock) → slice_get g.blocks (suc i) ≡ Some b → ¬ (b.args ≡ []) → IsReached g b.number

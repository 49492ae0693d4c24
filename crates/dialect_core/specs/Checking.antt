-- What the tests of well-formedness speak of: the data of a function and of a block of a context, and the lines of a list.
use Rattle.std.specs.Prelude.{◌≡◌, ◌<◌, ℕ, Bool, true, false, List, [], ◌∷◌, Option, Some, All, IfSome, length, map, slice_get, is_none}
use Rattle.std.specs.List.{filter_map}
use Rattle.std.specs.Option.{option_map, option_map_or, option_and_then}
use Rattle.dialect_types.specs.declared.types.TypeHandle.{TypeHandle}
use Rattle.dialect_types.specs.Trees.{TypeTree, VoidType, type_at, type_trees}
use Rattle.const_attrs.specs.Trees.{AttrTree, type_of}
use Rattle.dialect_core.specs.declared.numbers.OpRef.{OpRef}
use Rattle.dialect_core.specs.declared.numbers.BlockRef.{BlockRef}
use Rattle.dialect_core.specs.declared.linkage.LinkageAttr.TheVariants as L
use Rattle.dialect_core.specs.declared.ops.Value.{Value}
use Rattle.dialect_core.specs.declared.ops.Successor.{Successor}
use Rattle.dialect_core.specs.declared.ops.Symbol.{Symbol}
use Rattle.dialect_core.specs.declared.ops.OpKind.{OpKind}
use Rattle.dialect_core.specs.declared.ops.OpKind.TheVariants as K
use Rattle.dialect_core.specs.declared.ops.OpData.{OpData}
use Rattle.dialect_core.specs.declared.ops.BlockData.{BlockData}
use Rattle.dialect_core.specs.Lists.{list_at}
use Rattle.dialect_core.specs.ContextData.{ContextData, kind_at, region_at, symbol_at, llvm_name_at}
use Rattle.dialect_core.specs.Data.{Kind, DialectOp, DialectBlock, Func, llvm_name_of, kind_of, op_at, block_in, name_at, symbol_name_at, held, type_in}
use Rattle.kinds.specs.Held.{IsFirstClass, IsSignature}
use Rattle.kinds.specs.Names.{is_own_name}
use Rattle.kinds.specs.Rules.{ends}
use Rattle.kinds.specs.Table.{rule_of}
use Rattle.dialect_core.specs.WellFormed.{suits, IsOfKind, IsWellFormedOp, IsWellFormedBlock, IsWellFormedFunc, IsPlainAt, IsPastFirsts, IsTypedBy, Typing}

-- the tree of a type of the context
abbrev pub tree_at : ContextData → TypeHandle → TypeTree
tree_at c t = type_at (type_trees c.types) t

-- the data of a function that is there
unfoldable pub func_at : ContextData → OpRef → Func
func_at c o = record {
  number = o.0;
  name = name_at c.ops o.0;
  llvm_name = llvm_name_at c.ops o;
  type = option_map_or (λ (s : Symbol). tree_at c s.ty) (symbol_at c.ops o) VoidType;
  linkage = option_map_or (λ (s : Symbol). s.linkage) (symbol_at c.ops o) L.GhostLinkage;
  blocks = filter_map (block_in (type_trees c.types) c) (region_at c.ops o.0);
}

-- the data of a block that is there
unfoldable pub block_at : ContextData → BlockRef → DialectBlock
block_at c b = record {
  number = b.0;
  label = option_and_then (λ (x : BlockData). x.label) (slice_get c.blocks b.0);
  args = map (tree_at c) (option_map_or (λ (x : BlockData). x.args) (slice_get c.blocks b.0) []);
  ops = filter_map (op_at (type_trees c.types) c.ops) (list_at c.lists b);
}

-- the type of the operation, where it is a function, is one of the context's
abbrev pub HasTypeWithin : ContextData → OpRef → Type 0
HasTypeWithin c o = IfSome (symbol_at c.ops o) (λ (s : Symbol). s.ty.0 < length c.types)

-- a value that an edge passes where the target wants one of that type, or nothing
pub record Passes (types : Typing) (wanted : Option TypeTree) (v : Value) : Type 0 where
  pub value : IsTypedBy types v
  pub typed : (type : TypeTree) → wanted ≡ Some type → types v ≡ Some type

-- values that have the types that are wanted at their places
abbrev pub PassesEach : Typing → List TypeTree → List Value → Type 0
PassesEach types wanted vs = (place : ℕ) (v : Value) → slice_get vs place ≡ Some v → Passes types (slice_get wanted place) v

-- a constant of that type, which is one of values
abbrev pub IsConstantOf : Option TypeTree → AttrTree → Type 0
IsConstantOf own constant = IsFirstClass (type_of constant) × (own ≡ Some (type_of constant))

-- the kind is one of a function's block, and the operation is as its kind is
abbrev pub IsKindAt : ContextData → Func → OpKind → List Value → Option TypeHandle → List Successor → Type 0
IsKindAt c g kind operands own edges = (k : Kind) × (kind_of (type_trees c.types) kind ≡ Some k) × IsOfKind (type_in c) g operands (option_map (tree_at c) own) edges k

-- the operation may stand in a function's block, and is as its kind is
abbrev pub IsOpAt : ContextData → Func → OpRef → Type 0
IsOpAt c g o = (d : DialectOp) × (op_at (type_trees c.types) c.ops o ≡ Some d) × IsWellFormedOp (type_in c) g d

abbrev pub ends_kind : OpKind → Bool
ends_kind K.Module = false
ends_kind K.Func = false
ends_kind (K.Constant value) = false
ends_kind (K.Filled fill) = false
ends_kind (K.Row op) = ends (rule_of op).leads

-- a terminator
abbrev pub ends_at : ContextData → OpRef → Bool
ends_at c o = option_map_or (λ (x : OpData). ends_kind x.kind) (slice_get c.ops o.0) false

-- an operation with the one after it in its block: its constant keeps the rules, it is a terminator where there is none
-- after it, and no edge of it goes to a first block
pub record IsLine (c : ContextData) (g : Func) (o : OpRef) (next : Option OpRef) : Type 0 where
  pub plain : IsPlainAt c o
  pub fits : IsOpAt c g o
  pub ends : ends_at c o ≡ is_none next
  pub past_firsts : IsPastFirsts c o

-- each operation holds with those after it
abbrev pub Each : (OpRef → List OpRef → Type 0) → List OpRef → Type 0
Each P [] = Unit {0}
Each P (x ∷ xs) = P x xs × Each P xs

-- each is a line before those after it
abbrev pub AreLines : ContextData → Func → List OpRef → Type 0
AreLines c g os = Each (λ (o : OpRef) (rest : List OpRef). IsLine c g o (slice_get rest 0)) os

-- the block holds neither functions nor modules, no edge of it goes to a first block, and its data are well-formed
pub record IsBlockAt (c : ContextData) (g : Func) (b : BlockRef) : Type 0 where
  pub plain : All (IsPlainAt c) (list_at c.lists b)
  pub past_firsts : All (IsPastFirsts c) (list_at c.lists b)
  pub block : IsWellFormedBlock (type_in c) g (block_at c b)

-- the names, the linkage and the type of a function are well-formed
pub record IsHead (g : Func) : Type 0 where
  pub named : ¬ (g.name ≡ [])
  pub llvm_named : is_own_name (llvm_name_of g) ≡ true
  pub linkage : suits g.blocks g.linkage ≡ true
  pub signature : IsSignature g.type

-- the operation is a function, whose blocks hold neither functions nor modules, of which no edge goes to a first block,
-- and whose data are well-formed
pub record IsFuncAt (c : ContextData) (o : OpRef) : Type 0 where
  pub kind : kind_at c.ops o ≡ Some K.Func
  pub plain : All (IsPlainAt c) (held c o.0)
  pub past_firsts : All (IsPastFirsts c) (held c o.0)
  pub func : IsWellFormedFunc (type_in c) (func_at c o)

-- the function has neither of the names, its own and that of LLVM
pub record IsApartFrom (c : ContextData) (own llvm : List ℕ) (o : OpRef) : Type 0 where
  pub name : ¬ (name_at c.ops o.0 ≡ own)
  pub llvm_name : ¬ (symbol_name_at c.ops o ≡ llvm)

-- none of the operations has one of the names
abbrev pub AreApartFrom : ContextData → (name llvm_name : List ℕ) → List OpRef → Type 0
AreApartFrom c name llvm_name os = Each (λ (o : OpRef) (rest : List OpRef). IsApartFrom c name llvm_name o) os

-- each is such a function, and none of those after it has one of its names
abbrev pub AreFuncLines : ContextData → List OpRef → Type 0
AreFuncLines c os = Each (λ (o : OpRef) (rest : List OpRef). IsFuncAt c o × AreApartFrom c (name_at c.ops o.0) (symbol_name_at c.ops o) rest) os

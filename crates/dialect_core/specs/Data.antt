-- The data of a dialect module: its functions, their blocks and operations, with types and constants as trees.
use Rattle.std.specs.Prelude.{◌≡◌, ◌<◌, ℕ, if◌then◌else◌, nat_eq, List, [], ◌∷◌, ◌++◌, Option, Some, None, All, IfSome, map, length, slice_get, unwrap_or}
use Rattle.std.specs.List.{filter_map, flat_map, find}
use Rattle.std.specs.Option.{option_map, option_map_or, option_and_then}
use Rattle.dialect_types.specs.declared.types.TypeHandle.{TypeHandle}
use Rattle.dialect_types.specs.Trees.{TypeTree, type_at, type_trees}
use Rattle.const_attrs.specs.Trees.{AttrTree, attr_tree, attr_data, HasTypesBelow}
use Rattle.dialect_core.specs.declared.numbers.OpRef.{OpRef}
use Rattle.dialect_core.specs.declared.numbers.BlockRef.{BlockRef}
use Rattle.dialect_core.specs.declared.linkage.LinkageAttr.{LinkageAttr}
use Rattle.dialect_core.specs.declared.ops.Value.{Value}
use Rattle.dialect_core.specs.declared.ops.Value.TheVariants.{Result, Argument}
use Rattle.dialect_core.specs.declared.ops.Successor.{Successor}
use Rattle.dialect_core.specs.declared.ops.Symbol.{Symbol}
use Rattle.dialect_core.specs.declared.ops.OpKind.{OpKind}
use Rattle.dialect_core.specs.declared.ops.OpKind.TheVariants as K
use Rattle.dialect_core.specs.declared.ops.OpData.{OpData}
use Rattle.kinds.specs.declared.fill.Fill.{Fill}
use Rattle.kinds.specs.declared.op.Op.{Op}
use Rattle.dialect_core.specs.declared.ops.BlockData.{BlockData}
use Rattle.dialect_core.specs.Lists.{list_at, put_after, leave_out}
use Rattle.dialect_core.specs.ContextData.{ContextData, llvm_name_at, region_at}

-- ---- the data

-- what an operation of a function's block is: a constant that an attribute says, zero, undef or poison of the type of its
-- result, or a row of the table with its immediates
pub data Kind : Type 0 where
  ConstantOp : (value : AttrTree) → Kind
  FilledOp : (fill : Fill) → Kind
  RowOp : (op : Op) → Kind

pub record DialectOp : Type 0 where
  pub number : ℕ
  pub name : Option (List ℕ)
  pub kind : Kind
  pub operands : List Value
  pub successors : List Successor
  pub result : Option TypeTree

pub record DialectBlock : Type 0 where
  pub number : ℕ
  pub label : Option (List ℕ)
  pub args : List TypeTree
  pub ops : List DialectOp

-- a function; one without blocks is a declaration
pub record Func : Type 0 where
  pub number : ℕ
  pub name : List ℕ
  pub llvm_name : Option (List ℕ)  -- where it is set
  pub type : TypeTree
  pub linkage : LinkageAttr
  pub blocks : List DialectBlock

-- the name of a function in LLVM: its own where no other is set
abbrev pub llvm_name_of : Func → List ℕ
llvm_name_of f = unwrap_or f.llvm_name f.name

pub record DialectModule : Type 0 where
  pub name : List ℕ
  pub functions : List Func

-- ---- the data of a module in a context that keeps its operations and blocks under numbers

-- the kind of an operation of a function's block, which a module and a function are not
abbrev pub kind_of : List TypeTree → OpKind → Option Kind
kind_of ts K.Module = None
kind_of ts K.Func = None
kind_of ts (K.Constant value) = Some (ConstantOp (attr_tree ts (attr_data value)))
kind_of ts (K.Filled fill) = Some (FilledOp fill)
kind_of ts (K.Row op) = Some (RowOp op)

abbrev pub op_of : List TypeTree → OpRef → OpData → Option DialectOp
op_of ts o x = option_map (λ (k : Kind). record {
  number = o.0;
  name = x.name;
  kind = k;
  operands = x.operands;
  successors = x.successors;
  result = option_map (type_at ts) x.result;
}) (kind_of ts x.kind)

abbrev pub op_at : List TypeTree → List OpData → OpRef → Option DialectOp
op_at ts ops o = option_and_then (op_of ts o) (slice_get ops o.0)

-- a block by its operations
abbrev pub block_with : List TypeTree → BlockRef → BlockData → List DialectOp → DialectBlock
block_with ts b x ops = record { number = b.0; label = x.label; args = map (type_at ts) x.args; ops = ops }

abbrev pub block_of : List TypeTree → ContextData → BlockRef → BlockData → DialectBlock
block_of ts c b x = block_with ts b x (filter_map (op_at ts c.ops) (list_at c.lists b))

abbrev pub block_in : List TypeTree → ContextData → BlockRef → Option DialectBlock
block_in ts c b = option_map (block_of ts c b) (slice_get c.blocks b.0)

-- a function by its blocks
abbrev pub func_with : List TypeTree → OpRef → OpData → List DialectBlock → Option Func
func_with ts o x blocks = option_map (λ (s : Symbol). record {
  number = o.0;
  name = unwrap_or x.name [];
  llvm_name = s.llvm_name;
  type = type_at ts s.ty;
  linkage = s.linkage;
  blocks = blocks;
}) x.symbol

abbrev pub func_of : List TypeTree → ContextData → OpRef → OpData → Option Func
func_of ts c o x = func_with ts o x (filter_map (block_in ts c) x.blocks)

abbrev pub func_in : List TypeTree → ContextData → OpRef → Option Func
func_in ts c o = option_and_then (func_of ts c o) (slice_get c.ops o.0)

-- the operations of the blocks of an operation's region, block after block
abbrev pub held : ContextData → ℕ → List OpRef
held c m = flat_map (list_at c.lists) (region_at c.ops m)

-- the name of the operation of the number m, empty where it has none
abbrev pub name_at : List OpData → ℕ → List ℕ
name_at ops m = option_map_or (λ (x : OpData). unwrap_or x.name []) (slice_get ops m) []

-- the LLVM name of an operation: its own name where no other is set
abbrev pub symbol_name_at : List OpData → OpRef → List ℕ
symbol_name_at ops o = unwrap_or (llvm_name_at ops o) (name_at ops o.0)

-- the data of the module that the operation of the number m is
abbrev pub data_of : ContextData → ℕ → DialectModule
data_of c m = record {
  name = name_at c.ops m;
  functions = filter_map (func_in (type_trees c.types) c) (held c m);
}

-- ---- types of values

-- the operations of a function, block after block
abbrev pub ops_in : Func → List DialectOp
ops_in f = flat_map (λ (b : DialectBlock). b.ops) f.blocks

-- the type of a value of the function, none where it has no such value
abbrev pub value_type : Func → Value → Option TypeTree
value_type f (Result r) = option_and_then (λ (o : DialectOp). o.result) (find (λ (o : DialectOp). nat_eq o.number r.0) (ops_in f))
value_type f (Argument b i) = option_and_then (λ (x : DialectBlock). slice_get x.args i) (find (λ (x : DialectBlock). nat_eq x.number b.0) f.blocks)

-- the type of a value of the context, whichever function it belongs to or none; None where there is no such value
abbrev pub type_in : ContextData → Value → Option TypeTree
type_in c (Result r) = option_and_then (λ (o : DialectOp). o.result) (op_at (type_trees c.types) c.ops r)
type_in c (Argument b i) = option_and_then (λ (x : DialectBlock). slice_get x.args i) (block_in (type_trees c.types) c b)

-- ---- how the building calls change the data

-- the module has the function last
abbrev pub with_func : DialectModule → Func → DialectModule
with_func d f = record d { functions = d.functions ++ f ∷ [] }

-- the module has the function first
abbrev pub with_func_first : DialectModule → Func → DialectModule
with_func_first d f = record d { functions = f ∷ d.functions }

-- the module has the function f directly behind that of the number n
abbrev pub with_func_after : DialectModule → Func → ℕ → DialectModule
with_func_after d f n = record d { functions = put_after (λ (x : Func). x.number) f n d.functions }

-- the module has no longer the function of the number n
abbrev pub without_func : DialectModule → ℕ → DialectModule
without_func d n = record d { functions = leave_out (λ (x : Func). x.number) n d.functions }

-- the function of the number f has that LLVM name
abbrev pub with_func_llvm_name : DialectModule → ℕ → List ℕ → DialectModule
with_func_llvm_name d f name = record d { functions = map (λ (x : Func). if nat_eq x.number f then record x { llvm_name = Some name } else x) d.functions }

-- the function of the number f has the block last
abbrev pub more_block : ℕ → DialectBlock → Func → Func
more_block f b x = if nat_eq x.number f then record x { blocks = x.blocks ++ b ∷ [] } else x

abbrev pub with_func_block : DialectModule → ℕ → DialectBlock → DialectModule
with_func_block d f b = record d { functions = map (more_block f b) d.functions }

-- f of the block of the number b, in whichever function it stands
abbrev pub at_block : (DialectBlock → DialectBlock) → ℕ → DialectModule → DialectModule
at_block f b d = record d {
  functions = map (λ (x : Func). record x { blocks = map (λ (y : DialectBlock). if nat_eq y.number b then f y else y) x.blocks }) d.functions;
}

-- the block of the number b has the operation last
abbrev pub with_block_op : DialectModule → ℕ → DialectOp → DialectModule
with_block_op d b o = at_block (λ (y : DialectBlock). record y { ops = y.ops ++ o ∷ [] }) b d

-- the block of the number b has the operation first
abbrev pub with_block_op_first : DialectModule → ℕ → DialectOp → DialectModule
with_block_op_first d b o = at_block (λ (y : DialectBlock). record y { ops = o ∷ y.ops }) b d

-- the block of the number b has the operation o directly behind that of the number n
abbrev pub with_block_op_after : DialectModule → ℕ → DialectOp → ℕ → DialectModule
with_block_op_after d b o n = at_block (λ (y : DialectBlock). record y { ops = put_after (λ (x : DialectOp). x.number) o n y.ops }) b d

-- the block of the number b has no longer the operation of the number n
abbrev pub without_block_op : DialectModule → ℕ → ℕ → DialectModule
without_block_op d b n = at_block (λ (y : DialectBlock). record y { ops = leave_out (λ (x : DialectOp). x.number) n y.ops }) b d

-- the block of the number b has an argument of that type last
abbrev pub with_block_arg : DialectModule → ℕ → TypeTree → DialectModule
with_block_arg d b t = at_block (λ (y : DialectBlock). record y { args = y.args ++ t ∷ [] }) b d

-- ---- the numbers of types are there

abbrev pub HasKindTypesBelow : ℕ → OpKind → Type 0
HasKindTypesBelow n K.Module = Unit {0}
HasKindTypesBelow n K.Func = Unit {0}
HasKindTypesBelow n (K.Constant value) = HasTypesBelow n (attr_data value)
HasKindTypesBelow n (K.Filled fill) = Unit {0}
HasKindTypesBelow n (K.Row op) = Unit {0}

pub record IsTypedOp (n : ℕ) (x : OpData) : Type 0 where
  pub kind : HasKindTypesBelow n x.kind
  pub result : IfSome x.result (λ (t : TypeHandle). t.0 < n)
  pub symbol : IfSome x.symbol (λ (s : Symbol). s.ty.0 < n)

-- every number of a type in the context is one of its types
pub record IsTyped (c : ContextData) : Type 0 where
  pub ops : (o : ℕ) (x : OpData) → slice_get c.ops o ≡ Some x → IsTypedOp (length c.types) x
  pub blocks : (b : ℕ) (x : BlockData) → slice_get c.blocks b ≡ Some x → All (λ (t : TypeHandle). t.0 < length c.types) x.args

-- The function of LLVM that an export makes of a function of the dialect, as one term.
use Rattle.std.specs.Prelude.{◌+◌, ℕ, zero, suc, Bool, false, nat_eq, if◌then◌else◌, List, [], ◌∷◌, ◌++◌, Option, Some, None, length, map, slice_get, unwrap_or}
use Rattle.std.specs.List.{flat_map, find}
use Rattle.std.specs.Option.{option_map_or}
use Rattle.llvm_core.specs.Data as L
use Rattle.llvm_core.specs.Elements.{splat_const}
use Rattle.llvm_core.specs.Data.{ConstTree, IntConst, BytesConst, PlaceholderConst, ConstTrees, NoConsts, ThenConst, filled_const, formed, listed, Operand, Parameter, Constant, RowData, Instruction, Placed}
use Rattle.dialect_types.specs.Trees.{TypeTree, VoidType}
use Rattle.const_attrs.specs.Trees.{AttrTree, IntegerAttr, FilledAttr, BytesAttr, AggregateAttr, SplatAttr, AttrTrees, NoAttrs, ThenAttr}
use Rattle.dialect_core.specs.declared.numbers.BlockRef.{BlockRef}
use Rattle.dialect_core.specs.declared.ops.Value.{Value}
use Rattle.dialect_core.specs.declared.ops.Value.TheVariants.{Result, Argument}
use Rattle.dialect_core.specs.declared.ops.Successor.{Successor}
use Rattle.kinds.specs.declared.op.Op.{Op}
use Rattle.kinds.specs.Table.{rule_of}
use Rattle.kinds.specs.Typing.{written_for}
use Rattle.dialect_core.specs.Data.{DialectOp, DialectBlock, Func, llvm_name_of, Kind, ConstantOp, FilledOp, RowOp, ops_in}
use Rattle.dialect_core.specs.Form.{is_constant, others_of, edges_of}
use Rattle.kinds.specs.Held.{width_in}
use Rattle.meaning.specs.Dialect.{option_type, place_of}
use Rattle.to_llvm_ir.specs.Exported.{block_name, value_name, result_name, result, phi_values, place_in}

-- the number of the function, of its first block and of its first instruction: further blocks count on, and further
-- instructions count on over the blocks in the order of their places
pub record Numbers : Type 0 where
  pub function : ℕ
  pub block : ℕ
  pub inst : ℕ
  pub order : List ℕ

-- ---- the numbers of values, counted

-- values are numbered in order, so an operation with a result counts
abbrev pub number_after : Option TypeTree → ℕ → ℕ
number_after (Some type) k = k + 1
number_after None k = k

-- the number of the value behind those operations, where they begin with the number k
abbrev pub number_behind : ℕ → List DialectOp → ℕ
number_behind k [] = k
number_behind k (o ∷ os) = number_behind (number_after o.result k) os

-- ---- values that become instructions

-- of each operation but a constant, whether it has a result or not
abbrev pub result_values : List DialectOp → List Value
result_values os = map result (others_of os)

abbrev pub values_from : (place : ℕ) → List DialectBlock → List Value
values_from place [] = []
values_from place (c ∷ cs) = (phi_values place c ++ result_values c.ops) ++ values_from (suc place) cs

abbrev pub values : Func → List Value
values g = values_from 0 g.blocks

-- the values of the block at a place
abbrev pub block_values : Func → ℕ → List Value
block_values g p = option_map_or (λ (c : DialectBlock). phi_values p c ++ result_values c.ops) (slice_get g.blocks p) []

-- the values in the order in which they become instructions
abbrev pub values_by : List ℕ → Func → List Value
values_by order g = flat_map (block_values g) order

-- ---- operands

abbrev mutual
  -- The constant that an attribute becomes, in the one form: bytes and lists may be zero, undef or poison. A splat that breaks the rules of
  -- constants becomes a placeholder.
  pub const_of : AttrTree → ConstTree
  const_of (IntegerAttr type value) = IntConst (width_in type) value
  const_of (FilledAttr fill type) = filled_const fill type
  const_of (BytesAttr bytes) = formed (BytesConst bytes)
  const_of (AggregateAttr elements type) = listed type (consts_of elements)
  const_of (SplatAttr element type) = unwrap_or (splat_const type (const_of element)) (PlaceholderConst 0 VoidType)

  pub consts_of : AttrTrees → ConstTrees
  consts_of NoAttrs = NoConsts
  consts_of (ThenAttr c cs) = ThenConst (const_of c) (consts_of cs)

-- the constant of a constant operation, with a result of that type; for any other operation the other operand
abbrev pub constant_or : Operand → (result : Option TypeTree) → Kind → Operand
constant_or x own (ConstantOp value) = Constant (const_of value)
constant_or x own (FilledOp fill) = Constant (filled_const fill (option_type own))
constant_or x own (RowOp op) = x

abbrev pub is_entry : Func → ℕ → Bool
is_entry g b = option_map_or (λ (c : DialectBlock). nat_eq c.number b) (slice_get g.blocks 0) false

module _ (g : Func) (n : Numbers) where
  -- the number of the instruction that a value becomes
  abbrev pub number_of : Value → ℕ
  number_of v = n.inst + place_in v (values_by n.order g)

  -- what an operand becomes
  abbrev pub operand_for : Value → Operand
  operand_for (Argument b i) = if is_entry g b.0 then Parameter n.function i else L.Result (number_of (Argument b i))
  operand_for (Result r) = option_map_or (λ (o : DialectOp). constant_or (L.Result (number_of (Result r))) o.result o.kind) (find (λ (o : DialectOp). nat_eq o.number r.0) (ops_in g)) (L.Result (number_of (Result r)))

  -- the number of what the block of a number becomes
  abbrev pub block_for : ℕ → ℕ
  block_for b = n.block + place_of g.blocks b

  -- ---- instructions

  -- the row that an operation becomes: that of its own row of the table, with what its operands and blocks become
  abbrev pub row_for : Op → Option TypeTree → List Value → List Successor → RowData
  row_for op own vs ss = record {
    op = op;
    written = written_for (rule_of op).gives own;
    operands = map operand_for vs;
    targets = map (λ (s : Successor). block_for s.block.0) ss;
  }

  -- a constant becomes no instruction
  abbrev pub instruction_for : Kind → Option TypeTree → List Value → List Successor → Instruction
  instruction_for (ConstantOp value) own vs ss = L.Phi []
  instruction_for (FilledOp fill) own vs ss = L.Phi []
  instruction_for (RowOp op) own vs ss = L.Applied (row_for op own vs ss)

  -- the instruction that an operation becomes, where the next value has the number k
  abbrev pub inst : ℕ → DialectOp → Placed
  inst k o = record {
    number = number_of (result o);
    name = result_name o.name o.result k;
    type = option_type o.result;
    instruction = instruction_for o.kind o.result o.operands o.successors;
  }

  abbrev pub insts : ℕ → List DialectOp → List Placed
  insts k [] = []
  insts k (o ∷ os) = if is_constant o then insts (number_after o.result k) os else inst k o ∷ insts (number_after o.result k) os

  -- ---- phis, each with the entries that it is given

  -- what an edge from the block of the number p passes to an argument
  abbrev pub entry_with : ℕ → Option Value → List (Operand × ℕ)
  entry_with p None = []
  entry_with p (Some v) = (operand_for v, p) ∷ []

  abbrev pub passed_to : (b : BlockRef) → List Value → (p : ℕ) → Value → List (Operand × ℕ)
  passed_to b vs p (Argument c i) = if nat_eq c.0 b.0 then entry_with p (slice_get vs i) else []
  passed_to b vs p (Result r) = []

  -- what edges from the block of the number p pass
  abbrev pub passed : ℕ → List Successor → Value → List (Operand × ℕ)
  passed p ss v = flat_map (λ (s : Successor). passed_to s.block s.args p v) ss

  -- what the edges of the block at a place pass
  abbrev pub block_passes : Value → ℕ → List (Operand × ℕ)
  block_passes v p = option_map_or (λ (c : DialectBlock). passed (n.block + p) (edges_of c) v) (slice_get g.blocks p) []

  -- what the edges of the blocks at these places pass
  abbrev pub entries_from : List ℕ → Value → List (Operand × ℕ)
  entries_from places v = flat_map (block_passes v) places

  abbrev pub entries : Value → List (Operand × ℕ)
  entries v = entries_from n.order v

  module _ (given : Value → List (Operand × ℕ)) where
    abbrev pub phis : (block place k : ℕ) → List TypeTree → List Placed
    phis b i k [] = []
    phis b i k (t ∷ ts) =
        (record { number = number_of (Argument (record { 0 = b }) i); name = value_name None k; type = t; instruction = L.Phi (given (Argument (record { 0 = b }) i)) }) ∷ phis b (suc i) (k + 1) ts

    abbrev pub block_phis : (place k : ℕ) → DialectBlock → List Placed
    block_phis zero k c = []
    block_phis (suc p) k c = phis c.number 0 k c.args

    -- ---- blocks

    abbrev pub block_made : (place k : ℕ) → DialectBlock → L.Block
    block_made place k c = record {
      number = n.block + place;
      name = block_name c.label place;
      instructions = block_phis place k c ++ insts (k + length c.args) c.ops;
    }

    abbrev pub blocks_made : (place k : ℕ) → List DialectBlock → List L.Block
    blocks_made place k [] = []
    blocks_made place k (c ∷ cs) = block_made place k c ∷ blocks_made (suc place) (number_behind (k + length c.args) c.ops) cs

  -- the blocks, of which the first stands at a place, with these instructions
  abbrev pub blocks_with : (ℕ → DialectBlock → List Placed) → (place : ℕ) → List DialectBlock → List L.Block
  blocks_with instructions place [] = []
  blocks_with instructions place (c ∷ cs) =
      (record { number = n.block + place; name = block_name c.label place; instructions = instructions place c }) ∷ blocks_with instructions (suc place) cs

  -- a block without instructions
  abbrev pub empty_block : (place : ℕ) → DialectBlock → L.Block
  empty_block place c = record { number = n.block + place; name = block_name c.label place; instructions = [] }

  abbrev pub empty_blocks : (place : ℕ) → List DialectBlock → List L.Block
  empty_blocks place [] = []
  empty_blocks place (c ∷ cs) = empty_block place c ∷ empty_blocks (suc place) cs

  -- ---- the function

  abbrev pub entry_args : List TypeTree
  entry_args = option_map_or (λ (c : DialectBlock). c.args) (slice_get g.blocks 0) []

  -- the function with those blocks
  abbrev pub function_with : List L.Block → L.Function
  function_with blocks = record {
    number = n.function;
    name = llvm_name_of g;
    type = g.type;
    space = 0;
    params = map (λ (t : TypeTree). []) entry_args;
    blocks = blocks;
  }

  abbrev pub function_made : (Value → List (Operand × ℕ)) → L.Function
  function_made given = function_with (blocks_made given 0 0 g.blocks)

-- phis have no entries at first
abbrev pub no_entries : Value → List (Operand × ℕ)
no_entries v = []

-- the number of the first value behind blocks, of which the first begins with the number k
abbrev pub number_past : ℕ → List DialectBlock → ℕ
number_past k [] = k
number_past k (c ∷ cs) = number_past (number_behind (k + length c.args) c.ops) cs

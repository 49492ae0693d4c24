-- Module data: a module read as lists, with its types and constants as trees.
use Rattle.std.specs.Prelude.{◌≡◌, ◌<◌, ℕ, zero, suc, Bool, false, length, if◌then◌else◌, nat_eq, List, [], ◌∷◌, ◌++◌, Option, Some, None, All, map, slice_get, slice_set, slice_index_or}
use Rattle.std.specs.List.{filter_map, flat_map, find, enumerate_from, list_all}
use Rattle.std.specs.Option.{option_map, option_map_or}
use Rattle.support.specs.Changes.{with_change}
use Rattle.llvm_core.specs.declared.numbers.LLVMType.{LLVMType}
use Rattle.llvm_core.specs.declared.numbers.LLVMConst.{LLVMConst}
use Rattle.llvm_core.specs.declared.numbers.LLVMBasicBlock.{LLVMBasicBlock}
use Rattle.llvm_core.specs.declared.numbers.LLVMInstRef.{LLVMInstRef}
use Rattle.llvm_core.specs.declared.types.LLVMTypeKind.{LLVMTypeKind}
use Rattle.llvm_core.specs.declared.types.LLVMTypeKind.TheVariants as T
use Rattle.llvm_core.specs.declared.types.ResultType.{ResultType}
use Rattle.llvm_core.specs.declared.types.ResultType.TheVariants as R
use Rattle.llvm_core.specs.declared.consts.LLVMConstKind.{LLVMConstKind}
use Rattle.llvm_core.specs.declared.consts.LLVMConstKind.TheVariants as C
use Rattle.llvm_core.specs.declared.code.LLVMValue.{LLVMValue}
use Rattle.llvm_core.specs.declared.code.LLVMValue.TheVariants as V
use Rattle.llvm_core.specs.declared.code.LLVMInst.{LLVMInst}
use Rattle.llvm_core.specs.declared.code.LLVMInst.TheVariants as I
use Rattle.llvm_core.specs.declared.code.PhiEntry.{PhiEntry}
use Rattle.llvm_core.specs.declared.code.Row.{Row}
use Rattle.kinds.specs.declared.op.Op.{Op}
pub use Rattle.kinds.specs.Types.{TypeTree, VoidType, IntType, PointerType, FloatingType, RefusedType, ArrayType, VectorType, StructType, NamedType, FunctionType, TypeTrees, NoTypes, ThenType}
pub use Rattle.kinds.specs.Structs.{StructBody, Struct}
use Rattle.kinds.specs.declared.fill.Fill.{Fill}
use Rattle.kinds.specs.declared.fill.Fill.TheVariants as F
use Rattle.kinds.specs.Fill.{is_own_fill}
use Rattle.kinds.specs.Types.{in_lanes, shape, takes_of}
use Rattle.kinds.specs.Held.{width_in}
use Rattle.llvm_core.specs.declared.structs.StructFields.{StructFields}
use Rattle.llvm_core.specs.declared.structs.StructData.{StructData}
use Rattle.llvm_core.specs.declared.code.FunctionData.{FunctionData}
use Rattle.llvm_core.specs.declared.code.BlockData.{BlockData}
use Rattle.llvm_core.specs.declared.code.InstData.{InstData}
use Rattle.llvm_core.specs.Module.{Module}
use Rattle.llvm_core.specs.Parts.{result_type}
use Rattle.llvm_core.specs.Consts.{common_fill, all_ints, is_zero}

-- ---- the data

mutual
  -- a constant, a line for each kind
  pub data ConstTree : Type 0 where
    IntConst : (width value : ℕ) → ConstTree
    FilledConst : (fill : Fill) (type : TypeTree) → ConstTree
    -- an array of integers of 8 bits, so many as there are bytes
    BytesConst : (bytes : List ℕ) → ConstTree
    -- an array, a vector of a known length or a struct
    ListConst : (type : TypeTree) (elements : ConstTrees) → ConstTree
    -- a scalable vector of which each lane is that
    SplatConst : (type : TypeTree) (element : ConstTree) → ConstTree
    PlaceholderConst : (number : ℕ) (type : TypeTree) → ConstTree

  pub data ConstTrees : Type 0 where
    NoConsts : ConstTrees
    ThenConst : ConstTree → ConstTrees → ConstTrees

-- what an operand names
pub data Operand : Type 0 where
  Constant : ConstTree → Operand
  Parameter : (function place : ℕ) → Operand
  Result : (instruction : ℕ) → Operand

-- an instruction that is no phi; blocks stand by number
pub record RowData : Type 0 where
  pub op : Op
  -- the type that is written beside the operands, as that of a cast
  pub written : Option TypeTree
  pub operands : List Operand
  pub targets : List ℕ

-- an entry of a phi is an operand and the block that it is for
pub data Instruction : Type 0 where
  Phi : (entries : List (Operand × ℕ)) → Instruction
  Applied : RowData → Instruction

-- an instruction of a block, with the type of its result
pub record Placed : Type 0 where
  pub number : ℕ
  pub name : List ℕ
  pub type : TypeTree
  pub instruction : Instruction

pub record Block : Type 0 where
  pub number : ℕ
  pub name : List ℕ
  pub instructions : List Placed

-- a function; one without blocks is a declaration; a name is empty where there is none
pub record Function : Type 0 where
  pub number : ℕ
  pub name : List ℕ
  pub type : TypeTree
  pub space : ℕ
  pub params : List (List ℕ)
  pub blocks : List Block

-- identified structs stand in the order in which they were added
pub record ModuleData : Type 0 where
  pub name : List ℕ
  pub structs : List Struct
  pub functions : List Function

-- ---- the data of a module that keeps its types, constants and code under numbers

-- what each kind makes of the trees of the earlier ones
module _ {K T : Type 0} (tree_of : List T → K → T) where
  abbrev pub trees_after : List T → List K → List T
  trees_after done [] = done
  trees_after done (k ∷ ks) = trees_after (done ++ tree_of done k ∷ []) ks

abbrev pub type_at : List TypeTree → LLVMType → TypeTree
type_at ts t = slice_index_or ts t.0 VoidType

abbrev pub types_at : List TypeTree → List LLVMType → TypeTrees
types_at ts [] = NoTypes
types_at ts (t ∷ xs) = ThenType (type_at ts t) (types_at ts xs)

abbrev pub type_tree : List TypeTree → LLVMTypeKind → TypeTree
type_tree ts T.Void = VoidType
type_tree ts (T.Int w) = IntType w
type_tree ts (T.Ptr space) = PointerType space
type_tree ts (T.Floating of) = FloatingType of
type_tree ts (T.Other of) = RefusedType of
type_tree ts (T.Array count t) = ArrayType count (type_at ts t)
type_tree ts (T.Vector kind count t) = VectorType kind count (type_at ts t)
type_tree ts (T.Literal fields layout) = StructType layout (types_at ts fields)
type_tree ts (T.Named name) = NamedType name
type_tree ts (T.Function result params variadic) = FunctionType (type_at ts result) (types_at ts params) variadic

abbrev pub type_trees : List LLVMTypeKind → List TypeTree
type_trees ks = trees_after type_tree [] ks

abbrev pub const_at : List ConstTree → LLVMConst → ConstTree
const_at cs c = slice_index_or cs c.0 (IntConst 0 0)

abbrev pub consts_at : List ConstTree → List LLVMConst → ConstTrees
consts_at cs [] = NoConsts
consts_at cs (x ∷ xs) = ThenConst (const_at cs x) (consts_at cs xs)

abbrev pub const_tree : List TypeTree → List ConstTree → LLVMConstKind → ConstTree
const_tree ts cs (C.Int t v) = IntConst (width_in (type_at ts t)) v
const_tree ts cs (C.Filled fill t) = FilledConst fill (type_at ts t)
const_tree ts cs (C.Bytes t bytes) = BytesConst bytes
const_tree ts cs (C.List t elements) = ListConst (type_at ts t) (consts_at cs elements)
const_tree ts cs (C.Splat t element) = SplatConst (type_at ts t) (const_at cs element)
const_tree ts cs (C.Placeholder number t) = PlaceholderConst number (type_at ts t)

abbrev pub const_trees : List TypeTree → List LLVMConstKind → List ConstTree
const_trees ts ks = trees_after (const_tree ts) [] ks

-- zero, undef or poison of a type in one form: the zero of an integer type is the integer 0
abbrev pub filled_const : Fill → TypeTree → ConstTree
filled_const fill type = if is_own_fill fill (shape type) then FilledConst fill type else IntConst (width_in type) 0

-- ---- the one form of constants, as trees

-- zero, undef or poison, where a constant in its one form is that
abbrev pub fill_in : ConstTree → Option Fill
fill_in (IntConst width value) = if is_zero value then Some F.Zero else None
fill_in (FilledConst fill type) = Some fill
fill_in (BytesConst bytes) = None
fill_in (ListConst type elements) = None
fill_in (SplatConst type element) = None
fill_in (PlaceholderConst number type) = None

-- the value of an integer
abbrev pub int_in : ConstTree → Option ℕ
int_in (IntConst width value) = Some value
int_in (FilledConst fill type) = None
int_in (BytesConst bytes) = None
int_in (ListConst type elements) = None
int_in (SplatConst type element) = None
int_in (PlaceholderConst number type) = None

-- what f tells of each of these constants
abbrev pub told_of : {X : Type 0} → (ConstTree → Option X) → ConstTrees → List (Option X)
told_of f NoConsts = []
told_of f (ThenConst c cs) = f c ∷ told_of f cs

-- an array of integers of 8 bits
abbrev pub is_byte_array : TypeTree → Bool
is_byte_array (ArrayType count type) = nat_eq (width_in type) 8
is_byte_array _ = false

-- a list of only zeros, of only undef or of only poison is that of the list's type, another of integers of 8 bits in an array
-- is their bytes
abbrev pub listed : TypeTree → ConstTrees → ConstTree
listed type cs =
    let bytes = if is_byte_array type then all_ints (told_of int_in cs) else None in
    option_map_or (λ fill. FilledConst fill type) (common_fill (told_of fill_in cs)) (option_map_or BytesConst bytes (ListConst type cs))

-- The one form of a constant whose parts are in theirs: zero, undef or poison where each part is that, for the zero of an integer
-- type the integer 0, for a list of bytes these.
abbrev pub formed : ConstTree → ConstTree
formed (IntConst width value) = IntConst width value
formed (FilledConst fill type) = filled_const fill type
formed (BytesConst bytes) = if list_all is_zero bytes then FilledConst F.Zero (ArrayType (length bytes) (IntType 8)) else BytesConst bytes
formed (ListConst type elements) = listed type elements
formed (SplatConst type element) = option_map_or (λ fill. FilledConst fill type) (fill_in element) (SplatConst type element)
formed (PlaceholderConst number type) = PlaceholderConst number type

-- the trees that numbers of types and constants stand for
pub record Trees : Type 0 where
  pub types : List TypeTree
  pub consts : List ConstTree

abbrev pub trees_of : Module → Trees
trees_of m = record { types = type_trees m.types; consts = const_trees (type_trees m.types) m.consts }

abbrev pub operand_of : Trees → LLVMValue → Operand
operand_of t (V.Const c) = Constant (const_at t.consts c)
operand_of t (V.Param f place) = Parameter f.0 place
operand_of t (V.Inst i) = Result i.0

abbrev pub entry_of : Trees → PhiEntry → Operand × ℕ
entry_of t e = (operand_of t e.value, e.block.0)

abbrev pub row_of : Trees → Row → RowData
row_of t r = record {
  op = r.op;
  written = option_map (type_at t.types) r.written;
  operands = map (operand_of t) r.operands;
  targets = map (λ (b : LLVMBasicBlock). b.0) r.targets;
}

abbrev pub instruction_of : Trees → LLVMInst → Instruction
instruction_of t (I.Phi type entries) = Phi (map (entry_of t) entries)
instruction_of t (I.Row r) = Applied (row_of t r)

-- the tree of a result's type
abbrev pub tree_of_result : List TypeTree → ResultType → TypeTree
tree_of_result ts (R.There t) = type_at ts t
tree_of_result ts (R.Bits lanes) = in_lanes lanes (IntType 1)

-- the tree of the type of an instruction's result
abbrev pub result_tree : Module → LLVMInst → TypeTree
result_tree m i = option_map_or (tree_of_result (trees_of m).types) (result_type m i) VoidType

abbrev pub placed_of : Trees → LLVMInstRef → InstData → Placed
placed_of t i x = record { number = i.0; name = x.name; type = type_at t.types x.ty; instruction = instruction_of t x.inst }

-- the instruction of that number, where there is one
abbrev pub placed_at : Trees → List InstData → LLVMInstRef → Option Placed
placed_at t insts i = option_map (placed_of t i) (slice_get insts i.0)

abbrev pub block_of : Trees → List InstData → LLVMBasicBlock → BlockData → Block
block_of t insts b x = record {
  number = b.0;
  name = x.name;
  instructions = filter_map (placed_at t insts) x.insts;
}

-- the block of that number, where there is one
abbrev pub block_at : Trees → List BlockData → List InstData → LLVMBasicBlock → Option Block
block_at t blocks insts b = option_map (block_of t insts b) (slice_get blocks b.0)

abbrev pub function_of : Trees → List BlockData → List InstData → ℕ × FunctionData → Function
function_of t blocks insts p = record {
  number = p.0;
  name = p.1.name;
  type = type_at t.types p.1.ty;
  space = p.1.space;
  params = p.1.params;
  blocks = filter_map (block_at t blocks insts) p.1.blocks;
}

abbrev pub fields_of : List TypeTree → StructFields → StructBody
fields_of ts b = record { fields = types_at ts b.types; layout = b.layout }

abbrev pub struct_of : List TypeTree → StructData → Struct
struct_of ts x = record { name = x.name; body = option_map (fields_of ts) x.body }

-- the identified structs of a module
abbrev pub structs_of : Module → List Struct
structs_of m = map (struct_of (trees_of m).types) m.structs

abbrev pub data_of : Module → ModuleData
data_of m = record {
  name = m.name;
  structs = structs_of m;
  functions = map (function_of (trees_of m) m.blocks m.insts) (enumerate_from 0 m.functions);
}

-- ---- types of operands

abbrev pub nth_type : TypeTrees → ℕ → TypeTree
nth_type NoTypes i = VoidType
nth_type (ThenType t ts) zero = t
nth_type (ThenType t ts) (suc i) = nth_type ts i

-- the type of a parameter of a function of that type
abbrev pub param_type : TypeTree → ℕ → TypeTree
param_type t i = nth_type (takes_of t) i

-- a line for each kind of constant
abbrev pub const_type : ConstTree → TypeTree
const_type (IntConst width value) = IntType width
const_type (FilledConst fill type) = type
const_type (BytesConst bytes) = ArrayType (length bytes) (IntType 8)
const_type (ListConst type elements) = type
const_type (SplatConst type element) = type
const_type (PlaceholderConst number type) = type

-- the instructions of a function, block after block
abbrev pub placed_in : Function → List Placed
placed_in f = flat_map (λ (b : Block). b.instructions) f.blocks

-- the type of an operand of an instruction of the function f, void where it names nothing of f
abbrev pub operand_type : Function → Operand → TypeTree
operand_type f (Constant c) = const_type c
operand_type f (Parameter g i) = if nat_eq g f.number then param_type f.type i else VoidType
operand_type f (Result n) = option_map_or (λ (x : Placed). x.type) (find (λ (x : Placed). nat_eq x.number n) (placed_in f)) VoidType

-- equal types and equal constants, read as trees, have equal numbers
pub record AreApart (m : Module) : Type 0 where
  pub types : (a b : LLVMType) → a.0 < length m.types → b.0 < length m.types → type_at (trees_of m).types a ≡ type_at (trees_of m).types b → a ≡ b
  pub consts : (a b : LLVMConst) → a.0 < length m.consts → b.0 < length m.consts → const_at (trees_of m).consts a ≡ const_at (trees_of m).consts b → a ≡ b

-- P holds of each block
abbrev pub AllBlocks : (Block → Type 0) → ModuleData → Type 0
AllBlocks P d = All (λ (f : Function). All P f.blocks) d.functions

-- P holds of each instruction
abbrev pub AllPlaced : (Placed → Type 0) → ModuleData → Type 0
AllPlaced P d = AllBlocks (λ (b : Block). All P b.instructions) d

-- ---- how the building calls change the data

abbrev pub with_struct : ModuleData → Struct → ModuleData
with_struct d s = record d { structs = d.structs ++ s ∷ [] }

abbrev pub with_function : ModuleData → Function → ModuleData
with_function d f = record d { functions = d.functions ++ f ∷ [] }

-- the function of that number has that name at that place of its parameters' names
abbrev pub with_param : ModuleData → ℕ → ℕ → List ℕ → ModuleData
with_param d f place name = record d { functions = map (λ (x : Function). if nat_eq x.number f then record x { params = slice_set x.params place name } else x) d.functions }

-- the function of that number has the block last
abbrev pub with_block : ModuleData → ℕ → Block → ModuleData
with_block d f b = record d { functions = map (λ (x : Function). if nat_eq x.number f then record x { blocks = x.blocks ++ b ∷ [] } else x) d.functions }

abbrev pub with_instruction_in : ℕ → Placed → Block → Block
with_instruction_in b i x = if nat_eq x.number b then record x { instructions = x.instructions ++ i ∷ [] } else x

-- the block of that number has the instruction last
abbrev pub with_instruction : ModuleData → ℕ → Placed → ModuleData
with_instruction d b i = record d { functions = map (λ (x : Function). record x { blocks = map (with_instruction_in b i) x.blocks }) d.functions }

-- the instruction with o as the operand at that place
abbrev pub with_operand : Instruction → ℕ → Operand → Instruction
with_operand (Phi entries) place o = Phi (with_change (λ (e : Operand × ℕ). (o, e.1)) place entries)
with_operand (Applied r) place o = Applied (record r { operands = slice_set r.operands place o })

-- the phi with one more entry, last
abbrev pub with_entry : Instruction → Operand → ℕ → Instruction
with_entry (Phi entries) o block = Phi (entries ++ (o, block) ∷ [])
with_entry i o block = i

abbrev pub with_change_of : ℕ → (Instruction → Instruction) → Placed → Placed
with_change_of i change p = if nat_eq p.number i then record p { instruction = change p.instruction } else p

-- the instruction of that number is changed
abbrev pub with_changed : ModuleData → ℕ → (Instruction → Instruction) → ModuleData
with_changed d i change =
    record d { functions = map (λ (f : Function). record f { blocks = map (λ (b : Block). record b { instructions = map (with_change_of i change) b.instructions }) f.blocks }) d.functions }

-- ---- edges

-- the blocks that an instruction leads to, by number, each as often as it is named
abbrev pub targets : Instruction → List ℕ
targets (Phi entries) = []
targets (Applied r) = r.targets

-- the entries of a phi, an operand and the block that it is for; none for what is no phi
abbrev pub phi_entries : Instruction → Option (List (Operand × ℕ))
phi_entries (Phi entries) = Some entries
phi_entries (Applied r) = None

-- The text that is printed of module data, a definition for each part.
use Rattle.std.specs.Prelude.{ℕ, zero, suc, ◌-◌, ◌^◌, Bool, true, false, List, [], ◌∷◌, ◌++◌, Option, None, Some, nat_le, nat_lt, ◌==◌, if◌then◌else◌, drop, codes, decimal, slice_index_or}
use Rattle.std.specs.List.{flat_map}
use Rattle.kinds.specs.declared.access.Align.{Align}
use Rattle.kinds.specs.Access.{bytes_of}
use Rattle.kinds.specs.declared.fill.Fill.{Fill}
use Rattle.kinds.specs.declared.fill.Fill.TheVariants as Z
use Rattle.kinds.specs.declared.op.LLVMIntPredicate.{LLVMIntPredicate}
use Rattle.kinds.specs.declared.op.LLVMIntPredicate.TheVariants as P
use Rattle.kinds.specs.declared.op.OverflowFlags.{OverflowFlags}
use Rattle.kinds.specs.declared.op.Op.{Op}
use Rattle.kinds.specs.declared.op.Op.TheVariants as O
use Rattle.kinds.specs.declared.types.Floating.{Floating}
use Rattle.kinds.specs.declared.types.Floating.TheVariants as F
use Rattle.kinds.specs.declared.types.OtherType.{OtherType}
use Rattle.kinds.specs.declared.types.OtherType.TheVariants as X
use Rattle.kinds.specs.declared.types.VectorTypeKind.{VectorTypeKind}
use Rattle.kinds.specs.declared.types.VectorTypeKind.TheVariants as V
use Rattle.kinds.specs.declared.types.StructLayout.{StructLayout}
use Rattle.kinds.specs.declared.types.StructLayout.TheVariants as L
use Rattle.llvm_core.specs.Data.{TypeTree, VoidType, IntType, PointerType, FloatingType, RefusedType, ArrayType, VectorType, StructType, NamedType, FunctionType, TypeTrees, NoTypes, ThenType, ConstTree, IntConst, FilledConst, BytesConst, ListConst, SplatConst, PlaceholderConst, Operand, Constant, Parameter, Result, Instruction, Phi, RowData, Applied, Placed, Block, Function, StructBody, Struct, ModuleData, const_type, operand_type, param_type}
use Rattle.kinds.specs.Fitting.{is_pointer}
use Rattle.kinds.specs.Types.{result_of, shape}
use Rattle.kinds.specs.Held.{is_void}
use Rattle.ll_literals.specs.Text.{Text}
use Rattle.ll_literals.specs.Names.{global, local, printed_name, printed_text}
use Rattle.ll_lines.specs.declared.lines.Brackets.{Brackets}
use Rattle.ll_lines.specs.declared.lines.Brackets.TheVariants as B
use Rattle.ll_lines.specs.Lines.{SaidConst, Plain, Chars, Listed, Splat, SaidConsts, NoneSaid, ThenSaid}
use Rattle.ll_said.specs.Said.{said_const}
use Rattle.ll_said.specs.Naming.{ParamAt, ResultOf, local_text, result_name, block_ref}

-- ---- types and constants

-- the word of a floating-point type, a line for each
abbrev pub floating_text : Floating → Text
floating_text F.Half = codes "half"
floating_text F.BFloat = codes "bfloat"
floating_text F.Float = codes "float"
floating_text F.Double = codes "double"

-- the word of a type for which the dialect has none, a line for each
abbrev pub other_text : OtherType → Text
other_text X.X86Fp80 = codes "x86_fp80"
other_text X.Fp128 = codes "fp128"
other_text X.PpcFp128 = codes "ppc_fp128"
other_text X.X86Amx = codes "x86_amx"
other_text X.Token = codes "token"

-- an address space behind `ptr`, of which the first is not written
abbrev pub space_text : ℕ → Text
space_text zero = []
space_text (suc n) = codes " addrspace(" ++ decimal (suc n) ++ codes ")"

-- what stands before the number of a vector
abbrev pub vector_open : VectorTypeKind → Text
vector_open V.Fixed = codes "<"
vector_open V.Scalable = codes "<vscale x "

-- what stands before the fields of a struct, and behind them
abbrev pub struct_open : StructLayout → Text
struct_open L.Unpacked = codes "{"
struct_open L.Packed = codes "<{"

abbrev pub struct_close : StructLayout → Text
struct_close L.Unpacked = codes "}"
struct_close L.Packed = codes "}>"

-- so many of one type, between what stands before and behind
abbrev pub counted_text : (before : Text) (count : ℕ) (element behind : Text) → Text
counted_text before count element behind = before ++ decimal count ++ codes " x " ++ element ++ behind

-- what stands before the brace behind fields: a blank, where there are any
abbrev pub before_brace : TypeTrees → Text
before_brace NoTypes = []
before_brace (ThenType t ts) = codes " "

abbrev mutual
  -- a type, a line for each kind; a function type stands nowhere by itself
  pub type_text : TypeTree → Text
  type_text VoidType = codes "void"
  type_text (IntType w) = 105 ∷ decimal w
  type_text (PointerType space) = codes "ptr" ++ space_text space
  type_text (FloatingType of) = floating_text of
  type_text (RefusedType of) = other_text of
  type_text (ArrayType count t) = counted_text (codes "[") count (type_text t) (codes "]")
  type_text (VectorType kind count t) = counted_text (vector_open kind) count (type_text t) (codes ">")
  type_text (StructType layout ts) = struct_open layout ++ fields_text ts ++ before_brace ts ++ struct_close layout
  type_text (NamedType name) = local (printed_name name)
  type_text (FunctionType result params variadic) = []

  -- fields, the first behind a blank
  pub fields_text : TypeTrees → Text
  fields_text NoTypes = []
  fields_text (ThenType t ts) = codes " " ++ type_text t ++ next_fields_text ts

  -- fields behind the first
  pub next_fields_text : TypeTrees → Text
  next_fields_text NoTypes = []
  next_fields_text (ThenType t ts) = codes ", " ++ type_text t ++ next_fields_text ts

-- a number of a width in two's complement, printed signed
abbrev pub signed_text : ℕ → ℕ → Text
signed_text w v = if nat_lt v (2 ^ (w - 1)) then decimal v else 45 ∷ decimal (2 ^ w - v)

-- an integer of a width: one bit prints as a word, up to 128 bits signed, more unsigned
abbrev pub int_text : ℕ → ℕ → Text
int_text w v =
    if w == 1 then (if v == 0 then codes "false" else codes "true")
    else (if nat_le w 128 then signed_text w v else decimal v)

-- zero, undef or poison of a type: null is the zero of a pointer
abbrev pub filled_text : Fill → TypeTree → Text
filled_text Z.Zero type = if is_pointer (shape type) then codes "null" else codes "zeroinitializer"
filled_text Z.Undef type = codes "undef"
filled_text Z.Poison type = codes "poison"

-- a constant of one word, a line for each kind; a checked module has no placeholder, and the others are said by their parts
abbrev pub plain_text : ConstTree → Text
plain_text (IntConst w v) = int_text w v
plain_text (FilledConst fill type) = filled_text fill type
plain_text (BytesConst bytes) = []
plain_text (ListConst type elements) = []
plain_text (SplatConst type element) = []
plain_text (PlaceholderConst number type) = []

-- the type that stands before a written constant
abbrev pub said_type : SaidConst → TypeTree
said_type (Plain c) = const_type c
said_type (Chars τ t) = τ
said_type (Listed τ brackets cs) = τ
said_type (Splat τ c) = τ

-- what stands before the elements of a constant, and behind them
abbrev pub brackets_open : Brackets → Text
brackets_open B.Array = codes "["
brackets_open B.Vector = codes "<"
brackets_open (B.Struct layout) = struct_open layout ++ codes " "

abbrev pub brackets_close : Brackets → Text
brackets_close B.Array = codes "]"
brackets_close B.Vector = codes ">"
brackets_close (B.Struct layout) = codes " " ++ struct_close layout

abbrev mutual
  -- a written constant without its type
  pub said_text : SaidConst → Text
  said_text (Plain c) = plain_text c
  said_text (Chars τ t) = t
  said_text (Listed τ brackets cs) = brackets_open brackets ++ elements_text cs ++ brackets_close brackets
  said_text (Splat τ c) = codes "splat (" ++ type_text (said_type c) ++ codes " " ++ said_text c ++ codes ")"

  -- elements, each behind its type
  pub elements_text : SaidConsts → Text
  elements_text NoneSaid = []
  elements_text (ThenSaid c cs) = type_text (said_type c) ++ codes " " ++ said_text c ++ next_elements_text cs

  -- elements behind the first
  pub next_elements_text : SaidConsts → Text
  next_elements_text NoneSaid = []
  next_elements_text (ThenSaid c cs) = codes ", " ++ type_text (said_type c) ++ codes " " ++ said_text c ++ next_elements_text cs

-- a constant without its type, of a module with these structs
abbrev pub const_text : List Struct → ConstTree → Text
const_text structs c = said_text (said_const structs c)

-- ---- instructions

-- an operand without its type, a line for each kind
abbrev pub operand_text : List Struct → Function → Operand → Text
operand_text structs f (Constant c) = const_text structs c
operand_text structs f (Parameter g i) = local_text f (slice_index_or f.params i []) (ParamAt i)
operand_text structs f (Result n) = local_text f (result_name f n) (ResultOf n)

-- a type and an operand of it
abbrev pub value_text : List Struct → Function → Operand → Text
value_text structs f o = type_text (operand_type f o) ++ codes " " ++ operand_text structs f o

-- a word and a blank, where it is set
abbrev pub flag_text : Text → Bool → Text
flag_text word false = []
flag_text word true = word ++ codes " "

abbrev pub predicate_text : LLVMIntPredicate → Text
predicate_text P.LLVMIntEQ = codes "eq"
predicate_text P.LLVMIntNE = codes "ne"
predicate_text P.LLVMIntUGT = codes "ugt"
predicate_text P.LLVMIntUGE = codes "uge"
predicate_text P.LLVMIntULT = codes "ult"
predicate_text P.LLVMIntULE = codes "ule"
predicate_text P.LLVMIntSGT = codes "sgt"
predicate_text P.LLVMIntSGE = codes "sge"
predicate_text P.LLVMIntSLT = codes "slt"
predicate_text P.LLVMIntSLE = codes "sle"

-- an entry of a phi
abbrev pub entry_text : List Struct → Function → Operand × ℕ → Text
entry_text structs f e = codes "[ " ++ operand_text structs f e.0 ++ codes ", " ++ block_ref f e.1 ++ codes " ]"

-- entries behind the first
abbrev pub next_entry_text : List Struct → Function → Operand × ℕ → Text
next_entry_text structs f e = codes ", " ++ entry_text structs f e

-- entries, of which there is one at least in a checked module
abbrev pub entries_text : List Struct → Function → List (Operand × ℕ) → Text
entries_text structs f [] = []
entries_text structs f (e ∷ es) = entry_text structs f e ++ flat_map (next_entry_text structs f) es

-- operands, of which the first stands behind its type
abbrev pub operands_text : List Struct → Function → List Operand → Text
operands_text structs f [] = []
operands_text structs f (o ∷ os) = value_text structs f o ++ flat_map (λ (x : Operand). codes ", " ++ operand_text structs f x) os

-- what a return has
abbrev pub returned_text : List Struct → Function → List Operand → Text
returned_text structs f [] = codes "void"
returned_text structs f (o ∷ os) = operands_text structs f (o ∷ os)

-- the blocks that a row leads to
abbrev pub target_text : Function → ℕ → Text
target_text f n = codes "label " ++ block_ref f n

abbrev pub targets_text : Function → List ℕ → Text
targets_text f [] = []
targets_text f (n ∷ ns) = target_text f n ++ flat_map (λ (x : ℕ). codes ", " ++ target_text f x) ns

-- operands, each behind its type
abbrev pub values_text : List Struct → Function → List Operand → Text
values_text structs f [] = []
values_text structs f (o ∷ os) = value_text structs f o ++ flat_map (λ (x : Operand). codes ", " ++ value_text structs f x) os

-- the type that is written behind operands
abbrev pub to_text : Option TypeTree → Text
to_text None = []
to_text (Some type) = codes " to " ++ type_text type

-- the type that is written before operands
abbrev pub before_text : Option TypeTree → Text
before_text None = []
before_text (Some type) = type_text type ++ codes ", "

-- the type that is written behind operands, and a comma between
abbrev pub after_text : Option TypeTree → Text
after_text None = []
after_text (Some type) = codes ", " ++ type_text type

-- an alignment behind operands, where there is one
abbrev pub align_text : Option Align → Text
align_text None = []
align_text (Some align) = codes ", align " ++ decimal (bytes_of align)

-- a word, and the flags that are set, each before a blank
abbrev pub flagged_text : Text → OverflowFlags → Text
flagged_text word flags = word ++ codes " " ++ flag_text (codes "nuw") flags.nuw ++ flag_text (codes "nsw") flags.nsw

-- what stands before the operands and blocks of a row: its word and immediates, each before a blank, a line for each
abbrev pub row_head : Op → Text
row_head (O.Add flags) = flagged_text (codes "add") flags
row_head (O.Sub flags) = flagged_text (codes "sub") flags
row_head (O.Mul flags) = flagged_text (codes "mul") flags
row_head (O.Shl flags) = flagged_text (codes "shl") flags
row_head O.UDiv = codes "udiv "
row_head O.SDiv = codes "sdiv "
row_head O.URem = codes "urem "
row_head O.SRem = codes "srem "
row_head O.LShr = codes "lshr "
row_head O.AShr = codes "ashr "
row_head O.And = codes "and "
row_head O.Or = codes "or "
row_head O.Xor = codes "xor "
row_head (O.ICmp predicate) = codes "icmp " ++ predicate_text predicate ++ codes " "
row_head O.Trunc = codes "trunc "
row_head O.SExt = codes "sext "
row_head (O.ZExt nneg) = codes "zext " ++ flag_text (codes "nneg") nneg
row_head O.PtrToInt = codes "ptrtoint "
row_head O.IntToPtr = codes "inttoptr "
row_head O.AddrSpaceCast = codes "addrspacecast "
row_head O.Select = codes "select "
row_head O.Freeze = codes "freeze "
row_head (O.Load access) = codes "load " ++ flag_text (codes "volatile") access.volatile
row_head (O.Store access) = codes "store " ++ flag_text (codes "volatile") access.volatile
row_head O.VAArg = codes "va_arg "
row_head O.Br = codes "br "
row_head O.CondBr = codes "br "
row_head O.Ret = codes "ret "
row_head O.Unreachable = codes "unreachable"

-- what a row names, and immediates that stand behind it, a line for each: most rows their operands, and behind them the type where
-- one is written
abbrev pub row_names : List Struct → Function → Op → Option TypeTree → List Operand → List ℕ → Text
row_names structs f (O.Add flags) written os ts = operands_text structs f os ++ to_text written
row_names structs f (O.Sub flags) written os ts = operands_text structs f os ++ to_text written
row_names structs f (O.Mul flags) written os ts = operands_text structs f os ++ to_text written
row_names structs f (O.Shl flags) written os ts = operands_text structs f os ++ to_text written
row_names structs f O.UDiv written os ts = operands_text structs f os ++ to_text written
row_names structs f O.SDiv written os ts = operands_text structs f os ++ to_text written
row_names structs f O.URem written os ts = operands_text structs f os ++ to_text written
row_names structs f O.SRem written os ts = operands_text structs f os ++ to_text written
row_names structs f O.LShr written os ts = operands_text structs f os ++ to_text written
row_names structs f O.AShr written os ts = operands_text structs f os ++ to_text written
row_names structs f O.And written os ts = operands_text structs f os ++ to_text written
row_names structs f O.Or written os ts = operands_text structs f os ++ to_text written
row_names structs f O.Xor written os ts = operands_text structs f os ++ to_text written
row_names structs f (O.ICmp predicate) written os ts = operands_text structs f os ++ to_text written
row_names structs f O.Trunc written os ts = operands_text structs f os ++ to_text written
row_names structs f O.SExt written os ts = operands_text structs f os ++ to_text written
row_names structs f (O.ZExt nneg) written os ts = operands_text structs f os ++ to_text written
row_names structs f O.PtrToInt written os ts = operands_text structs f os ++ to_text written
row_names structs f O.IntToPtr written os ts = operands_text structs f os ++ to_text written
row_names structs f O.AddrSpaceCast written os ts = operands_text structs f os ++ to_text written
row_names structs f O.Select written os ts = values_text structs f os
row_names structs f O.Freeze written os ts = operands_text structs f os ++ to_text written
row_names structs f (O.Load access) written os ts = before_text written ++ (values_text structs f os ++ align_text access.align)
row_names structs f (O.Store access) written os ts = values_text structs f os ++ align_text access.align
row_names structs f O.VAArg written os ts = operands_text structs f os ++ after_text written
row_names structs f O.Br written os ts = targets_text f ts
row_names structs f O.CondBr written os ts = operands_text structs f os ++ codes ", " ++ targets_text f ts
row_names structs f O.Ret written os ts = returned_text structs f os
row_names structs f O.Unreachable written os ts = []

abbrev pub row_text : List Struct → Function → RowData → Text
row_text structs f r = row_head r.op ++ row_names structs f r.op r.written r.operands r.targets

-- an instruction whose result has that type
abbrev pub instruction_text : List Struct → Function → TypeTree → Instruction → Text
instruction_text structs f type (Phi entries) = codes "phi " ++ type_text type ++ codes " " ++ entries_text structs f entries
instruction_text structs f type (Applied r) = row_text structs f r

-- the result, where there is one
abbrev pub gives_text : Function → TypeTree → Placed → Text
gives_text f type p = if is_void type then [] else local_text f p.name (ResultOf p.number) ++ codes " = "

abbrev pub placed_text : List Struct → Function → Placed → Text
placed_text structs f p = codes "  " ++ gives_text f p.type p ++ instruction_text structs f p.type p.instruction ++ codes "\n"

-- ---- functions and modules

-- the label line of a block: its name, or the number of what has none
abbrev pub label_text : Function → Block → Text
label_text f b = drop 1 (block_ref f b.number) ++ codes ":\n"

-- the lines of a block behind the first, after a blank line
abbrev pub block_text : List Struct → Function → Block → Text
block_text structs f b = codes "\n" ++ label_text f b ++ flat_map (placed_text structs f) b.instructions

-- the label line of the entry, which an unnamed one lacks
abbrev pub entry_label_text : Function → Block → Text → Text
entry_label_text f b [] = []
entry_label_text f b (c ∷ cs) = label_text f b

-- the lines of the blocks of a function
abbrev pub blocks_text : List Struct → Function → List Block → Text
blocks_text structs f [] = []
blocks_text structs f (b ∷ bs) = entry_label_text f b b.name ++ flat_map (placed_text structs f) b.instructions ++ flat_map (block_text structs f) bs

-- a comma and a blank between parameters
abbrev pub comma_text : (place : ℕ) → Text
comma_text zero = []
comma_text (suc i) = codes ", "

-- the parameters from a place on: the type and the name of each
abbrev pub params_text : Function → (place : ℕ) → List Text → Text
params_text f i [] = []
params_text f i (n ∷ ns) = comma_text i ++ type_text (param_type f.type i) ++ codes " " ++ local_text f n (ParamAt i) ++ params_text f (suc i) ns

-- what stands before the parameters of a function, after a blank line
abbrev pub head_text : Function → Text
head_text f = codes "\ndefine " ++ type_text (result_of f.type) ++ codes " " ++ global (printed_name f.name) ++ codes "("

-- a function, after a blank line
abbrev pub function_text : List Struct → Function → Text
function_text structs f =
    head_text f ++ params_text f 0 f.params ++ codes ") {\n" ++ blocks_text structs f f.blocks ++ codes "}\n"

-- the line of a module's name, none for an empty name
abbrev pub source_text : Text → Text
source_text [] = []
source_text (b ∷ bs) = codes "source_filename = " ++ printed_text (b ∷ bs) ++ codes "\n"

-- what is in a struct
abbrev pub body_text : Option StructBody → Text
body_text None = codes "opaque"
body_text (Some b) = type_text (StructType b.layout b.fields)

abbrev pub struct_text : Struct → Text
struct_text s = local (printed_name s.name) ++ codes " = type " ++ body_text s.body ++ codes "\n"

-- structs, a line each, after a blank line where there are any
abbrev pub structs_text : List Struct → Text
structs_text [] = []
structs_text (s ∷ ss) = codes "\n" ++ struct_text s ++ flat_map struct_text ss

abbrev pub module_text : ModuleData → Text
module_text d = source_text d.name ++ structs_text d.structs ++ flat_map (function_text d.structs) d.functions

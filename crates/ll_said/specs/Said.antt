-- What the text of module data says, a definition for each part.
use Rattle.std.specs.Prelude.{ℕ, suc, List, [], ◌∷◌, ◌++◌, Option, Some, None, if◌then◌else◌, length, map, drop, slice_index_or}
use Rattle.std.specs.List.{flat_map}
use Rattle.std.specs.Option.{option_map_or}
use Rattle.llvm_core.specs.Data.{TypeTree, IntType, ArrayType, VectorType, StructType, NamedType, StructBody, ConstTree, BytesConst, ListConst, SplatConst, ConstTrees, NoConsts, ThenConst, Operand, Constant, Parameter, Result, RowData, Instruction, Phi, Applied, Placed, Block, Function, Struct, ModuleData, operand_type, param_type}
use Rattle.kinds.specs.Types.{result_of}
use Rattle.kinds.specs.Held.{is_void}
use Rattle.ll_literals.specs.Names.{global, local, label, printed_name, printed_text}
use Rattle.llvm_core.specs.Elements.{body_named}
use Rattle.ll_lines.specs.declared.lines.Brackets.{Brackets}
use Rattle.ll_lines.specs.declared.lines.Brackets.TheVariants as B
use Rattle.ll_lines.specs.Lines as L
use Rattle.ll_lines.specs.Lines.{Text, SaidConst, SaidConsts, Said, Typed, RowLine, Incoming, Inst, Line, Part, Param, StructLine, File}
use Rattle.ll_said.specs.Naming.{ParamAt, ResultOf, local_text, result_name, block_ref}

-- ---- constants

-- the token c"..." of bytes
abbrev pub chars_text : List ℕ → Text
chars_text bytes = 99 ∷ printed_text bytes

-- The brackets that stand around the elements of a constant of that type: those of a struct with a name are those of its fields. A
-- type of no elements has none, whichever are answered.
abbrev pub brackets_of : List Struct → TypeTree → Brackets
brackets_of structs (VectorType kind count τ) = B.Vector
brackets_of structs (StructType layout τs) = B.Struct layout
brackets_of structs (NamedType name) = option_map_or (λ (b : StructBody). B.Struct b.layout) (body_named structs name) B.Array
brackets_of structs _ = B.Array

-- ---- blocks and names

-- the name or number of a result, where there is one
abbrev pub gives_of : Function → TypeTree → Placed → Option Text
gives_of f type p = if is_void type then None else Some (local_text f p.name (ResultOf p.number))

-- the name of a block, or the number of what has none
abbrev pub label_of : Function → Block → Text
label_of f b = label (drop 1 (block_ref f b.number))

-- the label of the first block, which an unnamed one lacks
abbrev pub entry_label : Function → Block → (name : Text) → List Part
entry_label f b [] = []
entry_label f b (c ∷ cs) = L.Label (label_of f b) ∷ []

-- the parameters from a place on
abbrev pub params_of : Function → (place : ℕ) → List Text → List Param
params_of f i [] = []
params_of f i (n ∷ ns) = record { type = param_type f.type i; name = Some (local_text f n (ParamAt i)) } ∷ params_of f (suc i) ns

-- ---- instructions and functions, of a module with these structs

module _ (structs : List Struct) where
  abbrev mutual
    -- a constant, a line for each kind of several parts
    pub said_const : ConstTree → SaidConst
    said_const (BytesConst bytes) = L.Chars (ArrayType (length bytes) (IntType 8)) (chars_text bytes)
    said_const (ListConst τ cs) = L.Listed τ (brackets_of structs τ) (said_consts cs)
    said_const (SplatConst τ c) = L.Splat τ (said_const c)
    said_const c = L.Plain c

    pub said_consts : ConstTrees → SaidConsts
    said_consts NoConsts = L.NoneSaid
    said_consts (ThenConst c cs) = L.ThenSaid (said_const c) (said_consts cs)

  -- an operand, a line for each kind
  abbrev pub said_of : Function → Operand → Said
  said_of f (Constant c) = L.Const (said_const c)
  said_of f (Parameter g i) = L.Local (local_text f (slice_index_or f.params i []) (ParamAt i))
  said_of f (Result n) = L.Local (local_text f (result_name f n) (ResultOf n))

  abbrev pub typed_of : Function → Operand → Typed
  typed_of f o = record { type = operand_type f o; said = said_of f o }

  abbrev pub entry_of : Function → Operand × ℕ → Incoming
  entry_of f e = record { said = said_of f e.0; block = block_ref f e.1 }

  abbrev pub row_of : Function → RowData → RowLine
  row_of f r = record {
    op = r.op;
    written = r.written;
    operands = map (typed_of f) r.operands;
    targets = map (block_ref f) r.targets;
  }

  -- an instruction whose result has that type
  abbrev pub inst_of : Function → TypeTree → Instruction → Inst
  inst_of f type (Phi entries) = L.Phi type (map (entry_of f) entries)
  inst_of f type (Applied r) = L.Row (row_of f r)

  abbrev pub line_of : Function → Placed → Line
  line_of f p = record { result = gives_of f p.type p; inst = inst_of f p.type p.instruction }

  abbrev pub lines_of : Function → Block → List Part
  lines_of f b = map (λ (p : Placed). L.Does (line_of f p)) b.instructions

  abbrev pub block_parts : Function → Block → List Part
  block_parts f b = L.Label (label_of f b) ∷ lines_of f b

  -- the parts of a body
  abbrev pub parts_of : Function → List Block → List Part
  parts_of f [] = []
  parts_of f (b ∷ bs) = entry_label f b b.name ++ (lines_of f b ++ flat_map (block_parts f) bs)

  abbrev pub function_of : Function → L.Function
  function_of f = record {
    result = result_of f.type;
    name = global (printed_name f.name);
    params = params_of f 0 f.params;
    body = parts_of f f.blocks;
  }

-- ---- modules

-- the name of the module between quotes, none for an empty name
abbrev pub source_of : Text → Option Text
source_of [] = None
source_of (b ∷ bs) = Some (printed_text (b ∷ bs))

abbrev pub struct_of : Struct → StructLine
struct_of s = record { name = local (printed_name s.name); body = s.body }

abbrev pub file_of : ModuleData → File
file_of d = record { source = source_of d.name; structs = map struct_of d.structs; functions = map (function_of d.structs) d.functions }

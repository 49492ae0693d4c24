-- Parts of a module's data by their numbers, and their texts.
use Rattle.std.specs.Prelude.{◌≡◌, ◌<◌, ◌≤◌, ℕ, zero, suc, List, [], ◌∷◌, ◌++◌, All, length, codes, slice_get, slice_index_or, Some, None, IfSome, decimal}
use Rattle.std.specs.List.{flat_map}
use Rattle.std.specs.Option.{option_map_or}
use Rattle.llvm_core.specs.declared.numbers.LLVMType.{LLVMType}
use Rattle.llvm_core.specs.declared.numbers.LLVMStruct.{LLVMStruct}
use Rattle.llvm_core.specs.declared.numbers.LLVMFunction.{LLVMFunction}
use Rattle.llvm_core.specs.declared.numbers.LLVMBasicBlock.{LLVMBasicBlock}
use Rattle.llvm_core.specs.declared.numbers.LLVMInstRef.{LLVMInstRef}
use Rattle.llvm_core.specs.declared.code.LLVMValue.{LLVMValue}
use Rattle.llvm_core.specs.declared.code.LLVMValue.TheVariants as V
use Rattle.llvm_core.specs.declared.code.LLVMInst.{LLVMInst}
use Rattle.llvm_core.specs.declared.code.LLVMInst.TheVariants as I
use Rattle.llvm_core.specs.declared.code.PhiEntry.{PhiEntry}
use Rattle.llvm_core.specs.declared.structs.StructData.{StructData}
use Rattle.llvm_core.specs.declared.code.FunctionData.{FunctionData}
use Rattle.llvm_core.specs.declared.code.BlockData.{BlockData}
use Rattle.llvm_core.specs.declared.code.InstData.{InstData}
use Rattle.llvm_core.specs.Module.{Module}
use Rattle.llvm_core.specs.Sound.{IsModule}
use Rattle.llvm_core.specs.Data.{TypeTree, ConstTree, ConstTrees, Placed, Block, Function, Struct, ModuleData, const_type, struct_of, structs_of, trees_of, type_at, param_type, placed_at, block_at, function_of, placed_in}
use Rattle.llvm_core.specs.Form.{HasNumber}
use Rattle.kinds.specs.declared.types.StructLayout.{StructLayout}
use Rattle.kinds.specs.Types.{result_of}
use Rattle.ll_literals.specs.Names.{printed_name}
use Rattle.ll_literals.specs.Numbers.{number_limit}
use Rattle.ll_said.specs.Said.{said_consts, brackets_of}
use Rattle.ll_print.specs.declared.numbers.Numbers.{Numbers}
use Rattle.ll_print.specs.Printing.{Unnamed, type_text, brackets_open, brackets_close, elements_text, const_text, struct_close, unnamed_result, unnamed_block, unnamed_in, gives_text, placed_text, entry_label_text, block_text}
use Rattle.ll_print.specs.Numbering.{IsNumbering}

abbrev pub no_function : FunctionData
no_function = record { name = []; ty = record { 0 = 0 }; space = 0; params = []; blocks = [] }

-- the function of a number
abbrev pub function_in : Module → LLVMFunction → Function
function_in m f = function_of (trees_of m) m.blocks m.insts (f.0, slice_index_or m.functions f.0 no_function)

abbrev pub no_struct : StructData
no_struct = record { name = []; body = None }

-- the struct of a number
abbrev pub struct_in : Module → LLVMStruct → Struct
struct_in m s = struct_of (trees_of m).types (slice_index_or m.structs s.0 no_struct)

-- ---- constants

-- a constant behind its type
abbrev pub element_text : List Struct → ConstTree → List ℕ
element_text structs c = type_text (const_type c) ++ codes " " ++ const_text structs c

-- constants, each behind its type
abbrev pub consts_text : List Struct → ConstTrees → List ℕ
consts_text structs cs = elements_text (said_consts structs cs)

-- the elements of a constant of a type, between brackets
abbrev pub list_text : List Struct → TypeTree → ConstTrees → List ℕ
list_text structs τ cs = brackets_open (brackets_of structs τ) ++ consts_text structs cs ++ brackets_close (brackets_of structs τ)

-- a vector of which each element is that constant
abbrev pub splat_text : List Struct → ConstTree → List ℕ
splat_text structs c = codes "splat (" ++ element_text structs c ++ codes ")"

-- ---- texts of parts

abbrev pub gives_of : Module → Function → LLVMInstRef → List ℕ
gives_of m f i = option_map_or (λ (p : Placed). gives_text f p.type p) (placed_at (trees_of m) m.insts i) []

abbrev pub line_of : Module → Function → LLVMInstRef → List ℕ
line_of m f i = option_map_or (placed_text (structs_of m) f) (placed_at (trees_of m) m.insts i) []

-- the lines of the first block
abbrev pub entry_lines : List Struct → Function → Block → List ℕ
entry_lines structs f b = entry_label_text f b b.name ++ flat_map (placed_text structs f) b.instructions

abbrev pub entry_lines_of : Module → Function → LLVMBasicBlock → List ℕ
entry_lines_of m f b = option_map_or (entry_lines (structs_of m) f) (block_at (trees_of m) m.blocks m.insts b) []

-- the lines of a block behind the first
abbrev pub lines_of : Module → Function → LLVMBasicBlock → List ℕ
lines_of m f b = option_map_or (block_text (structs_of m) f) (block_at (trees_of m) m.blocks m.insts b) []

-- the lines of all blocks
abbrev pub all_lines_of : Module → Function → List LLVMBasicBlock → List ℕ
all_lines_of m f [] = []
all_lines_of m f (b ∷ bs) = entry_lines_of m f b ++ flat_map (lines_of m f) bs

-- a name, or the number of what has none
abbrev pub bare_text : List ℕ → ℕ → List ℕ
bare_text [] number = decimal number
bare_text (b ∷ bs) number = printed_name (b ∷ bs)

-- behind %
abbrev pub named_text : List ℕ → ℕ → List ℕ
named_text name number = 37 ∷ bare_text name number

-- the label line of a block
abbrev pub label_line : List ℕ → ℕ → List ℕ
label_line name number = bare_text name number ++ codes ":\n"

-- the label line of the first block, none where it has no name
abbrev pub entry_label_line : List ℕ → ℕ → List ℕ
entry_label_line [] number = []
entry_label_line (b ∷ bs) number = label_line (b ∷ bs) number

-- what stands before so many structs: a blank line, where there are any
abbrev pub blank_text : (structs : ℕ) → List ℕ
blank_text zero = []
blank_text (suc n) = codes "\n"

-- what stands before the field at a place
abbrev pub gap_text : (place : ℕ) → List ℕ
gap_text zero = codes " "
gap_text (suc i) = codes ", "

-- what stands behind so many fields
abbrev pub close_text : StructLayout → (fields : ℕ) → List ℕ
close_text layout zero = struct_close layout
close_text layout (suc n) = codes " " ++ struct_close layout

-- ---- what has no name

abbrev pub unnamed_at : Module → LLVMInstRef → List Unnamed
unnamed_at m i = option_map_or (λ (p : Placed). unnamed_result p.type p) (placed_at (trees_of m) m.insts i) []

abbrev pub unnamed_of : Module → LLVMBasicBlock → List Unnamed
unnamed_of m b = option_map_or unnamed_block (block_at (trees_of m) m.blocks m.insts b) []

-- each function has as many numbers as unnamed things
abbrev pub IsNumberable : Function → Type 0
IsNumberable f = length (unnamed_in f) ≤ number_limit

abbrev pub AreNumberable : ModuleData → Type 0
AreNumberable d = All IsNumberable d.functions

-- ---- what belongs to a function

-- a constant that is there, a parameter of the function, or the result of an instruction of it
abbrev pub IsOwn : Module → LLVMFunction → LLVMValue → Type 0
IsOwn m f (V.Const c) = c.0 < length m.consts
IsOwn m f (V.Param g i) = (g ≡ f) × (i < length (function_in m f).params)
IsOwn m f (V.Inst i) = (i.0 < length m.insts) × HasNumber i.0 (placed_in (function_in m f))

-- one of the blocks has that number
abbrev pub HasBlockNumber : ℕ → List Block → Type 0
HasBlockNumber n bs = (i : ℕ) × (b : Block) × (slice_get bs i ≡ Some b) × (b.number ≡ n)

-- a block of the function
abbrev pub IsOwnBlock : Module → LLVMFunction → LLVMBasicBlock → Type 0
IsOwnBlock m f b = (b.0 < length m.blocks) × HasBlockNumber b.0 (function_in m f).blocks

-- the operand and the block of an entry belong to the function
abbrev pub OwnsEntry : Module → LLVMFunction → PhiEntry → Type 0
OwnsEntry m f e = IsOwn m f e.value × IsOwnBlock m f e.block

-- the operands and blocks of an instruction belong to the function, and the type that it writes is there
abbrev pub OwnsOperands : Module → LLVMFunction → LLVMInst → Type 0
OwnsOperands m f (I.Phi type entries) = All (OwnsEntry m f) entries
OwnsOperands m f (I.Row r) = All (IsOwn m f) r.operands × All (IsOwnBlock m f) r.targets × IfSome r.written (λ (t : LLVMType). t.0 < length m.types)

-- an instruction that is there, with operands of the function
pub record OwnsInst (m : Module) (f : LLVMFunction) (i : LLVMInstRef) : Type 0 where
  pub within : i.0 < length m.insts
  pub operands : (x : InstData) → slice_get m.insts i.0 ≡ Some x → OwnsOperands m f x.inst

-- a block of the function, with instructions that the function owns
pub record OwnsBlock (m : Module) (f : LLVMFunction) (b : LLVMBasicBlock) : Type 0 where
  pub own : IsOwnBlock m f b
  pub insts : (x : BlockData) → slice_get m.blocks b.0 ≡ Some x → All (OwnsInst m f) x.insts

-- the function returns that type, and takes parameters of those types
pub record IsSignature (m : Module) (f : LLVMFunction) (result : LLVMType) (types : List LLVMType) : Type 0 where
  pub returned : result_of (function_in m f).type ≡ type_at (trees_of m).types result
  pub returned_within : result.0 < length m.types
  pub within : All (λ (t : LLVMType). t.0 < length m.types) types
  pub all : length types ≡ length (function_in m f).params
  pub typed : (i : ℕ) (t : LLVMType) → slice_get types i ≡ Some t → param_type (function_in m f).type i ≡ type_at (trees_of m).types t

-- the function is there, and its unnamed things have their numbers
pub record IsPrinting (m : Module) (n : Numbers) : Type 0 where
  pub sound : IsModule m
  pub within : n.function.0 < length m.functions
  pub numbered : IsNumbering n (unnamed_in (function_in m n.function))

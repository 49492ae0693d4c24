-- What clauses see of what the passes read.
use Rattle.std.specs.Prelude.{◌≡◌, ◌+◌, ◌⊎◌, ℕ, true, List, [], ◌∷◌, map, take, Option, Some, None, if◌then◌else◌, length, slice_get, All, IfSome}
use Rattle.std.specs.Option.{option_map}
use Rattle.kinds.specs.Types.{TypeTree, IntType, VoidType, same_tree}
use Rattle.llvm_core.specs.Module.{Module}
use Rattle.llvm_core.specs.Data.{Trees, ConstTree, Struct, Operand, Constant, Parameter, const_type, type_at, trees_of, structs_of}
use Rattle.llvm_core.specs.Sound.{IsModule}
use Rattle.ll_lines.specs.declared.lines.RowLine.{RowLine}
use Rattle.ll_lines.specs.declared.lines.Line as code_line
use Rattle.ll_lines.specs.declared.lines.Part.{Part}
use Rattle.ll_lines.specs.declared.lines.Part.TheVariants as code_parts
use Rattle.ll_lines.specs.declared.names.Name.{Name}
use Rattle.ll_lines.specs.Lines.{Text, Line}
use Rattle.ll_lines.specs.Views.{text_of, line_view, IsTypeIn, IsTypedIn, IsPartIn, const_view, table_view, param_view, said_view, typed_view, incoming_view, inst_view, row_view}
use Rattle.ll_lines.specs.declared.lines.Incoming as code_incoming
use Rattle.ll_lines.specs.declared.lines.Inst as code_inst
use Rattle.ll_lines.specs.declared.lines.Inst.TheVariants as code_insts
use Rattle.kinds.specs.Typing.{fits_trees}
use Rattle.ll_lines.specs.declared.lines.SaidConst as code_const
use Rattle.ll_lines.specs.declared.lines.Said as code_said
use Rattle.ll_lines.specs.declared.lines.Typed as code_typed
use Rattle.ll_bodies.specs.declared.scope.Scope as code_scope
use Rattle.ll_bodies.specs.ScopeViews.{local_at}
use Rattle.ll_bodies.specs.Constants.{const_meant}
use Rattle.ll_bodies.specs.Bits.{HasBits}
use Rattle.ll_bodies.specs.TableViews.{AreMeant}
use Rattle.ll_lines.specs.Lines as Lines
use Rattle.ll_lines.specs.declared.lines.Param as code_param
use Rattle.llvm_core.specs.declared.numbers.LLVMFunction.{LLVMFunction}
use Rattle.ll_bodies.specs.declared.blocks.SaidBlock as code_block
use Rattle.ll_bodies.specs.declared.scope.Local.{Local}
use Rattle.ll_bodies.specs.declared.scope.Local.TheVariants.{Param, Result, Block}
use Rattle.ll_bodies.specs.Scopes.{Key, Scope, BlockLocal, ValueLocal, local_key, label_key, define_written}
use Rattle.ll_bodies.specs.Meaning.{SaidBlock, result_type, result_scope, lines_scope}
use Rattle.ll_literals.specs.Chain.{◌>>=◌}
use Rattle.ll_bodies.specs.BlockViews.{lines_of, lines_view, block_view}
use Rattle.ll_bodies.specs.declared.results.Source.{Source}

-- how many constants the table of the text has
abbrev pub made_in : Source → ℕ
made_in s = length s.table.now

-- the module is sound, the two types and those of bits are what they are named for, and the numbers are those of the table's constants
pub record IsSource (s : Source) : Type 0 where
  pub sound : IsModule s.module.now
  pub made : AreMeant s.bytes.now s.module.now s.table.now (made_in s) s.consts.now
  pub bit : type_at (trees_of s.module.now).types s.bit ≡ IntType 1
  pub bit_there : IsTypeIn s.module.now s.bit
  pub void : type_at (trees_of s.module.now).types s.void ≡ VoidType
  pub void_there : IsTypeIn s.module.now s.void
  pub vectors : HasBits s.module.now s.bits.now

-- the types and constants of a row are there
abbrev pub IsRowIn : Module → (made : ℕ) → RowLine → Type 0
IsRowIn m made r = IfSome r.written (IsTypeIn m) × All (IsTypedIn m made) r.operands

-- the operands of a row fit it
abbrev pub IsFittingRow : Trees → RowLine → Type 0
IsFittingRow t r = fits_trees r.op (option_map (type_at t.types) r.written) (map (λ (x : code_typed.Typed). type_at t.types x.ty) r.operands) ≡ true

-- the operands of a line fit it, where it is a row
abbrev pub IsFitting : Trees → code_inst.Inst → Type 0
IsFitting t (code_insts.Phi ty entries) = Unit {0}
IsFitting t (code_insts.Row r) = IsFittingRow t r

-- the operands of a line fit it where a name is written of its result
abbrev pub FitsIfNamed : Trees → code_line.Line → Type 0
FitsIfNamed t l = IfSome l.result (λ (n : Name). IsFitting t l.inst)

abbrev pub IsSettled : Trees → Part → Type 0
IsSettled t (code_parts.Label n) = Unit {0}
IsSettled t (code_parts.Does l) = FitsIfNamed t l

abbrev pub HasSettled : Trees → code_block.SaidBlock → Type 0
HasSettled t x = All (IsSettled t) x.lines.now

-- ---- what is said, as the source has it

abbrev pub types_in : Source → List TypeTree
types_in s = (trees_of s.module.now).types

abbrev pub structs_in : Source → List Struct
structs_in s = structs_of s.module.now

-- what the constants of the table say
abbrev pub table_in : Source → List Lines.SaidConst
table_in s = table_view s.bytes.now (trees_of s.module.now) s.table.now

abbrev pub line_in : Source → code_line.Line → Line
line_in s l = line_view s.bytes.now (trees_of s.module.now) (table_in s) l

abbrev pub lines_in : Source → List Part → List Line
lines_in s ps = lines_view s.bytes.now (trees_of s.module.now) (table_in s) ps

abbrev pub block_in : Source → code_block.SaidBlock → SaidBlock
block_in s b = block_view s.bytes.now (trees_of s.module.now) (table_in s) b

abbrev pub name_in : Source → Option Name → Option Text
name_in s n = option_map (text_of s.bytes.now) n

-- the line defines that under the number
abbrev pub line_scope : Source → (number : ℕ) → code_line.Line → Scope → Option Scope
line_scope s number l = λ t. result_scope t number (result_type (line_in s l).inst) (line_in s l).result

-- the result of the line, under the number, with its type
abbrev pub IsResultAt : Source → (number : ℕ) → code_line.Line → Local → Type 0
IsResultAt s number l (Param f place ty) = ⊥
IsResultAt s number l (Block b) = ⊥
IsResultAt s number l (Result i ty) = (i.0 ≡ number) × (result_type (line_in s l).inst ≡ Some (type_at (types_in s) ty)) × IsTypeIn s.module.now ty

-- the result of one of the lines, which have the numbers from first on
abbrev pub IsResultAmong : Source → (first : ℕ) → List code_line.Line → Local → Type 0
IsResultAmong s first ls y = (j : ℕ) × (l : code_line.Line) × (slice_get ls j ≡ Some l) × IsResultAt s (first + j) l y

-- the block defines its label under the number b, and the results of its lines under those from n on
abbrev pub block_scope : Source → (b n : ℕ) → code_block.SaidBlock → Scope → Option Scope
block_scope s b n x = λ t. define_written t (BlockLocal b) label_key (block_in s x).label >>= λ u. lines_scope u n (block_in s x).lines

abbrev pub IsBlockAt : (b : ℕ) → Local → Type 0
IsBlockAt b (Param f place ty) = ⊥
IsBlockAt b (Result i ty) = ⊥
IsBlockAt b (Block x) = x.0 ≡ b

-- the block, or the result of one of its lines
abbrev pub IsOfBlock : Source → (b n : ℕ) → code_block.SaidBlock → Local → Type 0
IsOfBlock s b n x y = IsBlockAt b y ⊎ IsResultAmong s n (lines_of x.lines.now) y

-- how many lines blocks have
abbrev pub count_lines : List code_block.SaidBlock → ℕ
count_lines [] = 0
count_lines (x ∷ xs) = length (lines_of x.lines.now) + count_lines xs

-- one of the blocks, which have the numbers from b on, or the result of one of their lines, which have those from n on
abbrev pub IsOfBlocks : Source → (b n : ℕ) → List code_block.SaidBlock → Local → Type 0
IsOfBlocks s b n xs y = (k : ℕ) × (x : code_block.SaidBlock) × (slice_get xs k ≡ Some x) × IsOfBlock s (b + k) (n + count_lines (take k xs)) x y

-- the types and constants of its lines are there
abbrev pub HasLinesIn : Module → (made : ℕ) → code_block.SaidBlock → Type 0
HasLinesIn m made x = All (IsPartIn m made) x.lines.now

abbrev pub param_in : Source → code_param.Param → Lines.Param
param_in s p = param_view s.bytes.now (trees_of s.module.now) p

-- the parameter at a place of the function f is defined
abbrev pub param_scope : Source → (f place : ℕ) → code_param.Param → Scope → Option Scope
param_scope s f place p = λ t. define_written t (ValueLocal (Parameter f place) (param_in s p).type) local_key (param_in s p).name

-- one of the parameters of the function
abbrev pub IsParamAmong : LLVMFunction → List code_param.Param → Local → Type 0
IsParamAmong f ps y = (place : ℕ) × (p : code_param.Param) × (slice_get ps place ≡ Some p) × (y ≡ Param f place p.ty)

-- ---- what is named

abbrev pub source_trees : Source → Trees
source_trees s = trees_of s.module.now

-- what a constant means
abbrev pub const_in : Source → code_const.SaidConst → Option ConstTree
const_in s c = const_meant (structs_in s) (const_view s.bytes.now (trees_of s.module.now) (table_in s) c)

-- the operand of a type that a constant is
abbrev pub constant_in : Source → TypeTree → code_const.SaidConst → Option Operand
constant_in s τ c = const_in s c >>= λ d. if same_tree (const_type d) τ then Some (Constant d) else None

abbrev pub said_in : Source → code_said.Said → Lines.Said
said_in s x = said_view s.bytes.now (trees_of s.module.now) (table_in s) x

abbrev pub typed_in : Source → code_typed.Typed → Lines.Typed
typed_in s x = typed_view s.bytes.now (trees_of s.module.now) (table_in s) x

-- the type of what a key stands for is there
abbrev pub IsLocalIn : Module → Local → Type 0
IsLocalIn m (Param f place ty) = IsTypeIn m ty
IsLocalIn m (Result i ty) = IsTypeIn m ty
IsLocalIn m (Block b) = Unit {0}

pub record IsScopeIn (m : Module) (scope : code_scope.Scope) : Type 0 where
  pub at : (k : Key) (y : Local) → local_at scope k ≡ Some y → IsLocalIn m y

abbrev pub entry_in : Source → code_incoming.Incoming → Lines.Incoming
entry_in s e = incoming_view s.bytes.now (trees_of s.module.now) (table_in s) e

abbrev pub inst_in : Source → code_inst.Inst → Lines.Inst
inst_in s i = inst_view s.bytes.now (trees_of s.module.now) (table_in s) i

abbrev pub row_in : Source → RowLine → Lines.Inst
row_in s r = Lines.Row (row_view s.bytes.now (trees_of s.module.now) (table_in s) r)

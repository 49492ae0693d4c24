-- What clauses see of a module that a function is added to.
use Rattle.std.specs.Prelude.{◌≡◌, ◌+◌, ℕ, List, [], ◌∷◌, ◌++◌, length, map, slice_get, Option, Some}
use Rattle.llvm_core.specs.declared.numbers.LLVMFunction.{LLVMFunction}
use Rattle.llvm_core.specs.declared.types.LLVMTypeKind.{LLVMTypeKind}
use Rattle.llvm_core.specs.declared.consts.LLVMConstKind.{LLVMConstKind}
use Rattle.llvm_core.specs.declared.code.FunctionData.{FunctionData}
use Rattle.llvm_core.specs.Module.{Module}
use Rattle.llvm_core.specs.Data.{ModuleData, data_of, with_param, with_function}
use Rattle.llvm_core.specs.Sound.{IsModule}
use Rattle.ll_lines.specs.declared.lines.Param.{Param}
use Rattle.std.specs.Prelude.{false}
use Rattle.kinds.specs.Types.{FunctionType}
use Rattle.llvm_core.specs.Data as L
use Rattle.llvm_core.specs.Data.{Trees, Block, type_at, structs_of}
use Rattle.ll_lines.specs.declared.lines.Function as code
use Rattle.ll_lines.specs.Lines as said
use Rattle.ll_lines.specs.Lines.{Text}
use Rattle.ll_lines.specs.declared.lines.ConstLine.{ConstLine}
use Rattle.ll_lines.specs.Views.{text_of, param_view, table_view, function_view}
use Rattle.ll_bodies.specs.Meaning.{types_of, function_data, functions_data, count_insts}
use Rattle.ll_literals.specs.Names.{symbol_name}
use Rattle.llvm_core.specs.Bodies.{with_blocks}
use Rattle.llvm_core.specs.Data.{trees_of}
use Rattle.ll_bodies.specs.declared.adding.Shared.{Shared}
use Rattle.ll_bodies.specs.Bits.{KeepsVectors}
use Rattle.ll_bodies.specs.TableViews.{AreMeant}
use Rattle.ll_bodies.specs.Scopes.{local_key, written_name}
use Rattle.std.specs.Option.{option_map}

-- only types are added
pub record AddsTypes (old new : Module) : Type 0 where
  pub more : List LLVMTypeKind
  pub types : new.types ≡ old.types ++ more
  pub rest : new ≡ record old { types = new.types }
  pub same : data_of new ≡ data_of old

-- the names of parameters, empty where none is written
abbrev pub names_in : List ℕ → List Param → List (List ℕ)
names_in bytes ps = map (λ (p : Param). written_name local_key (option_map (text_of bytes) p.name)) ps

-- the function of the number f has these names of parameters, from a place on
abbrev pub with_params : ModuleData → (f place : ℕ) → List (List ℕ) → ModuleData
with_params d f i [] = d
with_params d f i (name ∷ names) = with_params (with_param d f i name) f (i + 1) names

-- only names of parameters of the function f are others
pub record Renames (f : LLVMFunction) (old new : Module) : Type 0 where
  pub rest : new ≡ record old { functions = new.functions }
  pub function : (x : FunctionData) → slice_get old.functions f.0 ≡ Some x → (y : FunctionData) × (slice_get new.functions f.0 ≡ Some y) × (y.ty ≡ x.ty) × (length y.params ≡ length x.params)

-- the numbers are those of the table's constants
abbrev pub IsShared : Module → Shared → Type 0
IsShared m s = AreMeant s.bytes.now m s.table.now (length s.table.now) s.consts.now

-- a function of a text, and what the constants of its table say, over a module
abbrev pub function_over : (bytes : List ℕ) → List ConstLine → Module → code.Function → said.Function
function_over bytes lines m x = function_view bytes (trees_of m) (table_view bytes (trees_of m) lines) x

-- the data of a function of a text in a module
abbrev pub data_over : (bytes : List ℕ) → List ConstLine → Module → (f b n : ℕ) → code.Function → Option L.Function
data_over bytes lines m f b n x = function_data (structs_of m) f b n (function_over bytes lines m x)

-- those of functions behind the ones that are there
abbrev pub all_over : (bytes : List ℕ) → List ConstLine → Module → List code.Function → Option (List L.Function)
all_over bytes lines m xs = functions_data (structs_of m) (length m.functions) (length m.blocks) (length m.insts) (map (function_over bytes lines m) xs)

-- the function that is said, with the number f, that name and those blocks
abbrev pub function_with : (bytes : List ℕ) → Trees → (f : ℕ) → Text → code.Function → List Block → L.Function
function_with bytes t f name x blocks = record {
  number = f;
  name = name;
  type = FunctionType (type_at t.types x.result) (types_of (map (param_view bytes t) x.params.items)) false;
  space = 0;
  params = map (λ (p : said.Param). written_name local_key p.name) (map (param_view bytes t) x.params.items);
  blocks = blocks;
}

-- the function f gets the blocks that are said of it
pub record GivesBody (bytes : List ℕ) (lines : List ConstLine) (f : ℕ) (x : code.Function) (old new : Module) : Type 0 where
  pub blocks : List Block
  pub is : data_over bytes lines old f (length old.blocks) (length old.insts) x ≡ option_map (λ name. function_with bytes (trees_of old) f name x blocks) (symbol_name (text_of bytes x.name))
  pub given : data_of new ≡ with_blocks (data_of old) f blocks
  pub types : new.types ≡ old.types
  pub consts : new.consts ≡ old.consts
  pub block_count : length new.blocks ≡ length old.blocks + length blocks
  pub inst_count : length new.insts ≡ length old.insts + count_insts blocks

-- types and constants are added, and structs stay
pub record Keeps (old new : Module) : Type 0 where
  pub more : List LLVMTypeKind
  pub types : new.types ≡ old.types ++ more
  pub more_consts : List LLVMConstKind
  pub consts : new.consts ≡ old.consts ++ more_consts
  pub structs : structs_of new ≡ structs_of old

-- the function that is said goes behind those that are there
pub record AddsFunction (bytes : List ℕ) (lines : List ConstLine) (x : code.Function) (old new : Module) : Type 0 where
  pub function : L.Function
  pub is : data_over bytes lines old (length old.functions) (length old.blocks) (length old.insts) x ≡ Some function
  pub given : data_of new ≡ with_function (data_of old) function
  pub keeps : Keeps old new
  pub vectors : KeepsVectors old new
  pub blocks : length new.blocks ≡ length old.blocks + length function.blocks
  pub insts : length new.insts ≡ length old.insts + count_insts function.blocks
  pub sound : IsModule new

-- the functions that are said go behind those that are there
pub record AddsFunctions (bytes : List ℕ) (lines : List ConstLine) (xs : List code.Function) (old new : Module) : Type 0 where
  pub made : List L.Function
  pub is : all_over bytes lines old xs ≡ Some made
  pub given : data_of new ≡ record (data_of old) { functions = (data_of old).functions ++ made }
  pub sound : IsModule new

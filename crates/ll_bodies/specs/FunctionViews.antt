-- What clauses see of a function whose body is made: its scope and its blocks, apart from its name and its type.
use Rattle.std.specs.Prelude.{◌≡◌, ◌⊎◌, ℕ, false, List, Option, Some, map, length, slice_get}
use Rattle.llvm_core.specs.declared.numbers.LLVMFunction.{LLVMFunction}
use Rattle.llvm_core.specs.declared.code.FunctionData.{FunctionData}
use Rattle.llvm_core.specs.Module.{Module}
use Rattle.llvm_core.specs.Parts.{type_params}
use Rattle.ll_bodies.specs.declared.scope.Local.{Local}
use Rattle.kinds.specs.Types.{FunctionType}
use Rattle.llvm_core.specs.Data as L
use Rattle.llvm_core.specs.Data.{Block}
use Rattle.ll_lines.specs.declared.lines.Param.{Param}
use Rattle.ll_lines.specs.declared.lines.Function as code
use Rattle.ll_lines.specs.Lines as said
use Rattle.ll_lines.specs.Lines.{Text, Function}
use Rattle.ll_lines.specs.Views.{function_view}
use Rattle.ll_literals.specs.Chain.{◌>>=◌}
use Rattle.ll_bodies.specs.declared.blocks.SaidBlock.{SaidBlock}
use Rattle.ll_bodies.specs.declared.results.Source.{Source}
use Rattle.ll_bodies.specs.Scopes.{Scope, empty_scope, local_key, written_name}
use Rattle.ll_bodies.specs.Meaning.{types_of, params_scope, blocks_of, blocks_scope, blocks_data}
use Rattle.ll_bodies.specs.SourceViews.{param_in, block_in, source_trees, structs_in, table_in, IsParamAmong, IsOfBlocks}

-- the function of lines that the program holds
abbrev pub function_in : Source → code.Function → Function
function_in s f = function_view s.bytes.now (source_trees s) (table_in s) f

-- the scope of the function f, with these parameters and blocks
abbrev pub function_scope : Source → (f b n : ℕ) → List Param → List SaidBlock → Option Scope
function_scope s f b n ps xs = params_scope empty_scope f 0 (map (param_in s) ps) >>= λ t. blocks_scope t b n (map (block_in s) xs)

-- the blocks that function_data gives the function
abbrev pub function_body : Source → (f b n : ℕ) → code.Function → Option (List Block)
function_body s f b n x = do
  said ← blocks_of (function_in s x).body
  t ← params_scope empty_scope f 0 (function_in s x).params
  u ← blocks_scope t b n said
  blocks_data (structs_in s) u b n said

-- the function of the number f, with that name and those blocks
abbrev pub function_made : Source → (f : ℕ) → code.Function → Text → List Block → L.Function
function_made s f x name blocks = record {
  number = f;
  name = name;
  type = FunctionType (function_in s x).result (types_of (function_in s x).params) false;
  space = 0;
  params = map (λ (p : said.Param). written_name local_key p.name) (function_in s x).params;
  blocks = blocks;
}

-- a parameter, or a block or a result of the function
abbrev pub IsNamed : Source → LLVMFunction → (b n : ℕ) → List Param → List SaidBlock → Local → Type 0
IsNamed s f b n ps xs y = IsParamAmong f ps y ⊎ IsOfBlocks s b n xs y

-- the function is there, with parameters of the types that are said, and blocks and instructions from b and n on are the next of the module
pub record IsNext (m : Module) (f : LLVMFunction) (b n : ℕ) (x : code.Function) : Type 0 where
  pub function : FunctionData
  pub there : slice_get m.functions f.0 ≡ Some function
  pub types : type_params m.types function.ty ≡ map (λ (p : Param). p.ty) x.params.items
  pub names : length function.params ≡ length x.params.items
  pub blocks : b ≡ length m.blocks
  pub insts : n ≡ length m.insts

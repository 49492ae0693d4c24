-- Functions of the module that were exported so far.
use Rattle.std.specs.Prelude.{◌≡◌, ◌<◌, ◌+◌, ◌^◌, ℕ, List, ◌++◌, length}
use Rattle.std.specs.List.{filter_map}
use Rattle.llvm_core.specs.declared.numbers.LLVMFunction.{LLVMFunction}
use Rattle.llvm_core.specs.declared.numbers.LLVMType.{LLVMType}
use Rattle.llvm_core.specs.Module.{Module}
use Rattle.llvm_core.specs.Data as L
use Rattle.llvm_core.specs.Data.{ModuleData, data_of, with_function}
use Rattle.dialect_types.specs.Trees.{NamedStruct, structs_of, type_trees}
use Rattle.dialect_core.specs.declared.numbers.OpRef.{OpRef}
use Rattle.dialect_core.specs.ContextData.{ContextData, region_at}
use Rattle.dialect_core.specs.Data.{Func, DialectBlock, block_in, func_in}
use Rattle.dialect_core.specs.Form.{IsFormFunc, IsRuled}
use Rattle.meaning.specs.Pairs.{Matched}
use Rattle.to_llvm_ir.specs.Order.{IsTaken}
use Rattle.to_llvm_ir.specs.Made.{Numbers, function_made, entries}
use Rattle.to_llvm_ir.specs.Accepted.{IsAccepted}
use Rattle.to_llvm_ir.specs.Opening.{IsDeclared}
use Rattle.to_llvm_ir.specs.States.{Task, IsTask}

-- the blocks of an operation's region, in order
abbrev pub blocks_of : ContextData → OpRef → List DialectBlock
blocks_of c o = filter_map (block_in (type_trees c.types) c) (region_at c.ops o.0)

-- the functions among operations, in order
abbrev pub functions_in : ContextData → List OpRef → List Func
functions_in c ops = filter_map (func_in (type_trees c.types) c) ops

-- a function of the form, whose constants keep the rules by the structs of the context
abbrev pub IsRuledForm : ContextData → Func → Type 0
IsRuledForm c g = IsFormFunc g × IsRuled (structs_of c.types) g

-- the constants of the function keep the rules, where some structs are those with a name
abbrev pub HasRules : Func → Type 0
HasRules g = (structs : List NamedStruct) × IsRuled structs g

-- The function f is the one that is made of g, with some numbers: the term is computed from g and from these. And what was
-- found of g: it is of the form, its constants keep the rules, its blocks are taken in an order of an export, and nothing of it is
-- refused.
pub record IsMadeOf (g : Func) (f : L.Function) : Type 0 where
  pub numbers : Numbers
  pub form : IsFormFunc g
  pub ruled : HasRules g
  pub taken : IsTaken g numbers.order
  pub accepted : IsAccepted numbers.order g
  pub is : f ≡ function_made g numbers (entries g numbers)

-- a last function is new, which is made of g
pub record AddsFunction (g : Func) (old new : ModuleData) : Type 0 where
  pub function : L.Function
  pub is : new ≡ with_function old function
  pub made : IsMadeOf g function
  pub few : length new.functions < 2 ^ 31

-- new functions, made of these in order, stand behind those that were there
pub record AddsFunctions (more : List Func) (old new : ModuleData) : Type 0 where
  pub functions : List L.Function
  pub is : new ≡ record old { functions = old.functions ++ functions }
  pub made : Matched IsMadeOf more functions
  pub few : length old.functions < 2 ^ 31 → length new.functions < 2 ^ 31

-- a last function of the module is made of g, whose blocks are taken in the order, and has no blocks yet
abbrev pub IsStarted : ContextData → Func → List ℕ → LLVMFunction → (old new : Module) → Type 0
IsStarted c g order f old new = (t : Task) × (ty : LLVMType) × (t.source ≡ g) × (t.before ≡ data_of old) × IsTask c t × IsDeclared t f ty new × (length new.functions ≡ length old.functions + 1) × (t.numbers.order ≡ order)

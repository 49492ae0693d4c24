-- What clauses see of the constants of a table, as they are added to a module.
use Rattle.std.specs.Prelude.{◌≡◌, ◌<◌, ℕ, List, ◌++◌, Option, Some, None, length, slice_index_or, IfSome}
use Rattle.std.specs.Option.{option_map}
use Rattle.llvm_core.specs.declared.numbers.LLVMConst.{LLVMConst}
use Rattle.llvm_core.specs.declared.consts.LLVMConstKind.{LLVMConstKind}
use Rattle.llvm_core.specs.Module.{Module}
use Rattle.llvm_core.specs.Consts.{HasConstParts}
use Rattle.llvm_core.specs.Data.{ConstTree, const_at, const_tree, formed, trees_of, structs_of, data_of}
use Rattle.ll_lines.specs.declared.lines.ConstLine.{ConstLine}
use Rattle.ll_lines.specs.declared.lines.SaidConst as code
use Rattle.ll_lines.specs.Views.{no_const, const_line_view, table_view}
use Rattle.ll_bodies.specs.Constants.{const_meant}

-- what the constant at a place of a table means in the module
abbrev pub meant_at : (bytes : List ℕ) → Module → List ConstLine → ℕ → Option ConstTree
meant_at bytes m lines i = const_meant (structs_of m) (slice_index_or (table_view bytes (trees_of m) lines) i no_const)

-- the first k constants of a table have these numbers in the module, none where they mean nothing
pub record AreMeant (bytes : List ℕ) (m : Module) (lines : List ConstLine) (k : ℕ) (numbers : List (Option LLVMConst)) : Type 0 where
  pub count : length numbers ≡ k
  pub there : (i : ℕ) → IfSome (slice_index_or numbers i None) (λ (c : LLVMConst). c.0 < length m.consts)
  pub at : (i : ℕ) → i < k → option_map (const_at (trees_of m).consts) (slice_index_or numbers i None) ≡ meant_at bytes m lines i

-- only constants are added
pub record AddsConsts (old new : Module) : Type 0 where
  pub more : List LLVMConstKind
  pub consts : new.consts ≡ old.consts ++ more
  pub rest : new ≡ record old { consts = new.consts }
  pub same : data_of new ≡ data_of old

-- What is meant is a constant of that kind, where a module may have it, and else nothing.
abbrev pub MeansKind : Module → (meant : Option ConstTree) → Option LLVMConstKind → Type 0
MeansKind m meant None = meant ≡ None
MeansKind m meant (Some k) = (HasConstParts m k → meant ≡ Some (formed (const_tree (trees_of m).types (trees_of m).consts k))) × (¬ (HasConstParts m k) → meant ≡ None)

-- the number of what is written as a constant, by those of the table's constants
abbrev pub number_in : List (Option LLVMConst) → code.SaidConst → Option LLVMConst
number_in numbers (code.TheVariants.Plain c) = Some c
number_in numbers (code.TheVariants.Made p) = slice_index_or numbers p.0 None

-- what a line of a table means, over the lines before it
abbrev pub line_meant : (bytes : List ℕ) → Module → List ConstLine → ConstLine → Option ConstTree
line_meant bytes m lines l = const_meant (structs_of m) (const_line_view bytes (trees_of m) (table_view bytes (trees_of m) lines) l)

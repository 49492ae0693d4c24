-- How a module and a store grow while values are made: what is there stays, and says the same.
use Rattle.std.specs.Prelude.{◌≡◌, ◌<◌, ◌≤◌, ◌++◌, ℕ, List, map, length, slice_get, Option, Some}
use Rattle.llvm_core.specs.declared.numbers.LLVMType.{LLVMType}
use Rattle.llvm_core.specs.declared.numbers.LLVMConst.{LLVMConst}
use Rattle.llvm_core.specs.Module.{Module}
use Rattle.llvm_core.specs.Sound.{IsModule}
use Rattle.llvm_core.specs.Data.{trees_of, type_at, const_at, data_of}
use Rattle.ll_lines.specs.declared.lines.SaidConst as code_const
use Rattle.ll_lines.specs.declared.lines.ConstLine.{ConstLine}
use Rattle.ll_lines.specs.declared.lines.Said as code_said
use Rattle.ll_lines.specs.Lines.{SaidConst, Said}
use Rattle.ll_lines.specs.Views.{said_view, IsConstIn, IsSaidIn}
use Rattle.ll_values.specs.declared.form.Kind.{Kind}
use Rattle.ll_values.specs.declared.store.Store.{Store}
use Rattle.ll_values.specs.declared.value.Literal as code_literal
use Rattle.ll_values.specs.declared.value.Value.{Value}
use Rattle.ll_values.specs.Lists.{list_at}
use Rattle.ll_values.specs.Values as S
use Rattle.ll_values.specs.Values.{value_by}
use Rattle.ll_values.specs.Views.{table_of, said_const, literal_view, value_view, made_in, IsLiteralIn, IsValueIn, IsStoreIn}

-- only types and constants are added
pub record Interns (old new : Module) : Type 0 where
  pub type_count : length old.types ≤ length new.types
  pub const_count : length old.consts ≤ length new.consts
  pub types : (t : LLVMType) → t.0 < length old.types → type_at (trees_of new).types t ≡ type_at (trees_of old).types t
  pub consts : (c : LLVMConst) → c.0 < length old.consts → const_at (trees_of new).consts c ≡ const_at (trees_of old).consts c
  pub same_data : data_of new ≡ data_of old
  pub sound : IsModule new

pub record KeepsLists {T : Type 0} (old new : List (List T)) : Type 0 where
  pub count : length old ≤ length new
  pub at : (n : ℕ) → n ≤ length old → list_at new n ≡ list_at old n

-- the table only grows
pub record KeepsTable (old new : List ConstLine) : Type 0 where
  pub more : List ConstLine
  pub front : new ≡ old ++ more

pub record Keeps (old new : Store) : Type 0 where
  pub table : KeepsTable old.table.items new.table.items
  pub consts : KeepsLists old.consts new.consts
  pub inst_count : length old.insts.items ≤ length new.insts.items
  pub insts : (n : ℕ) → n < length old.insts.items → slice_get new.insts.items n ≡ slice_get old.insts.items n
  pub entries : KeepsLists old.entries new.entries
  pub bodies : KeepsLists old.bodies new.bodies
  pub types : KeepsLists old.types new.types
  pub params : KeepsLists old.params new.params
  pub structs : KeepsLists old.structs new.structs
  pub functions : KeepsLists old.functions new.functions

-- the value says what is made, which the store keeps now
pub record Kept (bytes : List ℕ) (m : Module) (old new : Store) (made : S.Value) (v : Value) : Type 0 where
  pub store : IsStoreIn m new
  pub keeps : Keeps old new
  pub there : IsValueIn m new v
  pub value : value_view bytes (trees_of m) new v ≡ made

-- so the constant, which stands in the table now
pub record KeptConst (bytes : List ℕ) (m : Module) (old new : Store) (made : SaidConst) (c : code_const.SaidConst) : Type 0 where
  pub store : IsStoreIn m new
  pub keeps : Keeps old new
  pub there : IsConstIn m (made_in new) c
  pub value : said_const bytes (trees_of m) new c ≡ made

-- what is said at a type is what a literal says at it
pub record Says (bytes : List ℕ) (m n : Module) (old new : Store) (made : Option Said) (x : code_said.Said) : Type 0 where
  pub interns : Interns m n
  pub store : IsStoreIn n new
  pub keeps : Keeps old new
  pub there : IsSaidIn n (made_in new) x
  pub value : made ≡ Some (said_view bytes (trees_of n) (table_of bytes (trees_of n) new) x)

-- so are elements that are listed
pub record SaysList (bytes : List ℕ) (m n : Module) (old new : Store) (made : Option S.Literal) (l : code_literal.Literal) : Type 0 where
  pub interns : Interns m n
  pub store : IsStoreIn n new
  pub keeps : Keeps old new
  pub there : IsLiteralIn n new l
  pub value : made ≡ Some (literal_view bytes (trees_of n) new l)

-- the value is what is made of parts
pub record Makes (bytes : List ℕ) (m n : Module) (old new : Store) (kind : Kind) (parts : List Value) (v : Value) : Type 0 where
  pub interns : Interns m n
  pub store : IsStoreIn n new
  pub keeps : Keeps old new
  pub there : IsValueIn n new v
  pub value : value_by kind (map (value_view bytes (trees_of m) old) parts) ≡ Some (value_view bytes (trees_of n) new v)

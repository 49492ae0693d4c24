-- Files that their text says: what is asked of each part.
use Rattle.std.specs.Prelude.{◌≡◌, ℕ, Bool, true, false, ◌&&◌, [], length, map, IfSome}
use Rattle.std.specs.List.{AllByRecursion}
use Rattle.kinds.specs.Rules.{target_count, operand_count}
use Rattle.kinds.specs.Table.{rule_of}
use Rattle.kinds.specs.Types.{TypeTree, ArrayType, VectorType, StructType, NamedType, FunctionType, IntType, TypeTrees, NoTypes, ThenType, shape}
use Rattle.kinds.specs.Structs.{StructBody}
use Rattle.kinds.specs.Held.{IsFirstClass, IsReturned}
use Rattle.kinds.specs.Names.{is_good_name}
use Rattle.kinds.specs.Typing.{fits_trees}
use Rattle.kinds.specs.declared.fill.Fill.{Fill}
use Rattle.kinds.specs.Fill.{is_own_fill}
use Rattle.kinds.specs.Fitting.{is_vector_of}
use Rattle.llvm_core.specs.Parts.{IsIntAt}
use Rattle.llvm_core.specs.Data.{ConstTree, IntConst, FilledConst}
use Rattle.ll_tokens.specs.declared.kinds.Kind.TheVariants as K
use Rattle.ll_lines.specs.declared.lines.Brackets.{Brackets}
use Rattle.ll_lines.specs.declared.lines.Brackets.TheVariants as B
use Rattle.ll_lines.specs.Lines as L
use Rattle.ll_lines.specs.Lines.{Text, SaidConst, SaidConsts, Said, Typed, RowLine, Incoming, Inst, Line, Part, Param, Function, StructLine, File}
use Rattle.ll_spacing.specs.Forms.{IsText}
use Rattle.ll_written.specs.Printing.{said_type}

-- ---- types

abbrev mutual
  -- each name in a type is one that a text can say: a line for what has a name, and for each kind with parts
  pub has_good_names : TypeTree → Bool
  has_good_names (NamedType name) = is_good_name name
  has_good_names (ArrayType count t) = has_good_names t
  has_good_names (VectorType kind count t) = has_good_names t
  has_good_names (StructType layout ts) = have_good_names ts
  has_good_names (FunctionType result params variadic) = has_good_names result && have_good_names params
  has_good_names t = true

  pub have_good_names : TypeTrees → Bool
  have_good_names NoTypes = true
  have_good_names (ThenType t ts) = has_good_names t && have_good_names ts

-- a type of a value that a text says
pub record IsSayableType (τ : TypeTree) : Type 0 where
  pub type : IsFirstClass τ
  pub names : has_good_names τ ≡ true

-- what a function may return that a text says
pub record IsSayableResult (τ : TypeTree) : Type 0 where
  pub type : IsReturned τ
  pub names : has_good_names τ ≡ true

-- ---- values

-- a constant of one word of a type: an integer, or zero, undef or poison
pub data IsConstOf : TypeTree → ConstTree → Type 0 where
  an_int : (w n : ℕ) → IsIntAt w n → IsConstOf (IntType w) (IntConst w n)
  a_filled : (fill : Fill) (τ : TypeTree) → is_own_fill fill (shape τ) ≡ true → IsConstOf τ (FilledConst fill τ)

abbrev pub IsLocal : Text → Type 0
IsLocal t = IsText K.Local t

-- there is one, and a vector may have such
abbrev pub begin_with_lane : SaidConsts → Bool
begin_with_lane L.NoneSaid = false
begin_with_lane (L.ThenSaid c cs) = is_vector_of 1 (shape (said_type c))

-- the elements of a vector begin so
abbrev pub HasLane : Brackets → SaidConsts → Type 0
HasLane B.Array cs = Unit {0}
HasLane B.Vector cs = begin_with_lane cs ≡ true
HasLane (B.Struct layout) cs = Unit {0}

abbrev mutual
  -- a written constant of a type; whether its elements are those of the type is not asked
  pub IsSaidConst : TypeTree → SaidConst → Type 0
  IsSaidConst τ (L.Plain c) = IsConstOf τ c
  IsSaidConst τ (L.Chars υ t) = (υ ≡ τ) × IsText K.CStr t
  IsSaidConst τ (L.Listed υ brackets cs) = (υ ≡ τ) × HasLane brackets cs × AreElements cs
  IsSaidConst τ (L.Splat υ c) = (υ ≡ τ) × IsSayableType (said_type c) × IsSaidConst (said_type c) c

  -- constants, each behind its type
  pub AreElements : SaidConsts → Type 0
  AreElements L.NoneSaid = Unit {0}
  AreElements (L.ThenSaid c cs) = (IsSayableType (said_type c) × IsSaidConst (said_type c) c) × AreElements cs

-- a constant behind its type
abbrev pub IsElement : SaidConst → Type 0
IsElement c = IsSayableType (said_type c) × IsSaidConst (said_type c) c

abbrev pub IsSaidOf : TypeTree → Said → Type 0
IsSaidOf τ (L.Local t) = IsLocal t
IsSaidOf τ (L.Const c) = IsSaidConst τ c

pub record IsTyped (x : Typed) : Type 0 where
  pub type : IsSayableType x.type
  pub said : IsSaidOf x.type x.said

-- ---- instructions

-- a row of the table whose rule holds
pub record IsRow (r : RowLine) : Type 0 where
  pub operands : AllByRecursion IsTyped r.operands
  pub written : IfSome r.written IsSayableType
  pub targets : AllByRecursion IsLocal r.targets
  pub fits : fits_trees r.op r.written (map (λ (x : Typed). x.type) r.operands) ≡ true
  -- whether its function returns void, as a return wants to know
  pub void : Bool
  pub count : length r.operands ≡ operand_count (rule_of r.op).takes void
  pub leads : length r.targets ≡ target_count (rule_of r.op).leads

pub record IsIncoming (τ : TypeTree) (e : Incoming) : Type 0 where
  pub said : IsSaidOf τ e.said
  pub block : IsLocal e.block

-- a phi has an entry
abbrev pub IsInst : Inst → Type 0
IsInst (L.Phi τ es) = IsSayableType τ × AllByRecursion (IsIncoming τ) es × ¬ (es ≡ [])
IsInst (L.Row r) = IsRow r

-- ---- functions and files

pub record IsLine (l : Line) : Type 0 where
  pub result : IfSome l.result IsLocal
  pub inst : IsInst l.inst

abbrev pub IsPart : Part → Type 0
IsPart (L.Label t) = IsText K.Label t
IsPart (L.Does l) = IsLine l

pub record IsParam (p : Param) : Type 0 where
  pub type : IsSayableType p.type
  pub name : IfSome p.name IsLocal

-- a function has a body
pub record IsFunction (f : Function) : Type 0 where
  pub result : IsSayableResult f.result
  pub name : IsText K.Global f.name
  pub params : AllByRecursion IsParam f.params
  pub body : AllByRecursion IsPart f.body
  pub some : ¬ (f.body ≡ [])

-- fields that a struct may have
abbrev pub IsBody : StructBody → Type 0
IsBody b = IsSayableType (StructType b.layout b.fields)

pub record IsStruct (s : StructLine) : Type 0 where
  pub name : IsLocal s.name
  pub body : IfSome s.body IsBody

pub record IsWritable (f : File) : Type 0 where
  pub source : IfSome f.source (IsText K.Str)
  pub structs : AllByRecursion IsStruct f.structs
  pub functions : AllByRecursion IsFunction f.functions

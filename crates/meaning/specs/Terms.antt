-- Terms: what the operands of a run stand for, and what each silent row makes of its operands.
-- Types are the trees of module data, for both sides.
use Rattle.std.specs.Prelude.{ℕ, Bool, true, false, List, [], ◌∷◌, Option, Some, None, if◌then◌else◌}
use Rattle.kinds.specs.declared.fill.Fill.{Fill}
use Rattle.kinds.specs.declared.op.Op.{Op}
use Rattle.kinds.specs.declared.rules.Family.{Family}
use Rattle.kinds.specs.declared.rules.Family.TheVariants.{Shows, Builds}
use Rattle.kinds.specs.Table.{rule_of}
use Rattle.kinds.specs.Types.{TypeTree, TypeTrees, shape}
use Rattle.kinds.specs.Fill.{is_own_fill}
use Rattle.kinds.specs.Held.{width_in}
use Rattle.kinds.specs.Structs.{renamed, renamed_all}

-- ---- terms

mutual
  pub data Term : Type 0 where
    -- the parameter at a place
    Param : (place : ℕ) → Term
    -- the result of the event of this number
    Answer : (event : ℕ) → Term
    -- what no definition has set
    Unset : Term
    Int : (width value : ℕ) → Term
    -- zero, undef or poison of a type
    Filled : (fill : Fill) (type : TypeTree) → Term
    -- an aggregate by its elements
    ListOf : (type : TypeTree) (elements : Terms) → Term
    -- a scalable vector, each lane of which is that
    SplatOf : (type : TypeTree) (lane : Term) → Term
    -- an expression of a silent row
    Expr : (op : Op) (type : TypeTree) (operands : Terms) → Term
    -- an aggregate with an element put in, where the aggregate is not known by its elements
    Insert : (type : TypeTree) (aggregate : Term) (path : Path) (element : Term) → Term

  pub data Terms : Type 0 where
    NoTerms : Terms
    ThenTerm : Term → Terms → Terms

  -- places from the outside in, or one place that a term says
  pub data Path : Type 0 where
    Places : List ℕ → Path
    PlaceOf : Term → Path

abbrev pub terms_of : List Term → Terms
terms_of [] = NoTerms
terms_of (t ∷ ts) = ThenTerm t (terms_of ts)

-- the term of zero, undef or poison of a type: the zero of an integer type is the integer 0
abbrev pub filled_term : Fill → TypeTree → Term
filled_term fill type = if is_own_fill fill (shape type) then Filled fill type else Int (width_in type) 0

abbrev pub is_unset : Term → Bool
is_unset Unset = true
is_unset _ = false

-- ---- silent and event

-- what a row does in a run: it shows an event, or builds an expression
abbrev pub family : Op → Family
family o = (rule_of o).family

abbrev pub made_by : Family → Op → TypeTree → List Term → Option Term
made_by Shows o ty ts = None
made_by Builds o ty ts = Some (Expr o ty (terms_of ts))

-- the term of a silent row; none for an event
abbrev pub silent : Op → TypeTree → List Term → Option Term
silent o ty ts = made_by (family o) o ty ts

-- ---- terms under a match

-- where each block of each function stands, functions by name, and the name of each identified struct
pub record Match : Type 0 where
  pub block : List ℕ → ℕ → ℕ
  pub struct : List ℕ → List ℕ

-- a type with each struct that it names under the name that the match gives it
abbrev pub rename_type : Match → TypeTree → TypeTree
rename_type match t = renamed match.struct t

abbrev pub rename_types : Match → TypeTrees → TypeTrees
rename_types match ts = renamed_all match.struct ts

abbrev mutual
  pub rename : Match → Term → Term
  rename match (Param i) = Param i
  rename match (Answer n) = Answer n
  rename match Unset = Unset
  rename match (Int w v) = Int w v
  rename match (Filled fill ty) = Filled fill (rename_type match ty)
  rename match (ListOf ty ts) = ListOf (rename_type match ty) (rename_all match ts)
  rename match (SplatOf ty t) = SplatOf (rename_type match ty) (rename match t)
  rename match (Expr o ty ts) = Expr o (rename_type match ty) (rename_all match ts)
  rename match (Insert ty a p e) = Insert (rename_type match ty) (rename match a) (rename_path match p) (rename match e)

  pub rename_all : Match → Terms → Terms
  rename_all match NoTerms = NoTerms
  rename_all match (ThenTerm t ts) = ThenTerm (rename match t) (rename_all match ts)

  pub rename_path : Match → Path → Path
  rename_path match (Places ns) = Places ns
  rename_path match (PlaceOf t) = PlaceOf (rename match t)

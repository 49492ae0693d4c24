-- What a text says, with names and numbers as they are written. A name is the text of its token.
use Rattle.std.specs.Prelude.{ℕ, List, Option}
use Rattle.kinds.specs.declared.op.Op.{Op}
use Rattle.kinds.specs.Types.{TypeTree}
use Rattle.kinds.specs.Structs.{StructBody}
use Rattle.llvm_core.specs.Data.{ConstTree}
use Rattle.ll_lines.specs.declared.lines.Brackets.{Brackets}

abbrev pub Text : Type 0
Text = List ℕ

mutual
  -- a constant as it is written, with the type that stands before it
  pub data SaidConst : Type 0 where
    -- a word or an integer's digits, as the constant that they say
    Plain : ConstTree → SaidConst
    -- c and a text between quotes, the token
    Chars : (type : TypeTree) → Text → SaidConst
    -- elements between brackets
    Listed : (type : TypeTree) → Brackets → SaidConsts → SaidConst
    -- splat and the constant that each element is
    Splat : (type : TypeTree) → SaidConst → SaidConst

  pub data SaidConsts : Type 0 where
    NoneSaid : SaidConsts
    ThenSaid : SaidConst → SaidConsts → SaidConsts

-- a value: % and a name or a number, or a constant
pub data Said : Type 0 where
  Local : Text → Said
  Const : SaidConst → Said

-- a value with its type
pub record Typed : Type 0 where
  pub type : TypeTree
  pub said : Said

-- an instruction that is no phi, as a row of the table
pub record RowLine : Type 0 where
  pub op : Op
  -- the type that is written beside the operands, as that of a cast
  pub written : Option TypeTree
  pub operands : List Typed
  pub targets : List Text

-- an entry of a phi: what it takes on an edge, and the block that the edge comes from
pub record Incoming : Type 0 where
  pub said : Said
  pub block : Text

pub data Inst : Type 0 where
  Phi : (type : TypeTree) (entries : List Incoming) → Inst
  Row : RowLine → Inst

-- an instruction, and what is written of the name of its result
pub record Line : Type 0 where
  pub result : Option Text
  pub inst : Inst

-- a part of a body: a name or a number and a colon, or a line
pub data Part : Type 0 where
  Label : Text → Part
  Does : Line → Part

pub record Param : Type 0 where
  pub type : TypeTree
  pub name : Option Text

pub record Function : Type 0 where
  pub result : TypeTree
  -- @ and a name
  pub name : Text
  pub params : List Param
  pub body : List Part

-- a struct: % and a name or a number, and its fields, none where it is opaque
pub record StructLine : Type 0 where
  pub name : Text
  pub body : Option StructBody

-- structs and functions each in the order of the text, in which they may stand among one another
pub record File : Type 0 where
  -- the name of the module, between quotes
  pub source : Option Text
  pub structs : List StructLine
  pub functions : List Function

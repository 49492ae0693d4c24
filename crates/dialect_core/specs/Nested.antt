-- The types that the data of a module name: those of its functions, of the arguments of their blocks, and of their results.
use Rattle.std.specs.Prelude.{List, All, IfSome}
use Rattle.kinds.specs.Structs.{IsNested}
use Rattle.dialect_types.specs.Trees.{TypeTree, NamedStruct}
use Rattle.dialect_core.specs.Data.{DialectOp, DialectBlock, Func, DialectModule}

-- of each type that a block names P holds
pub record BlockNames (P : TypeTree → Type 0) (b : DialectBlock) : Type 0 where
  pub args : All P b.args
  pub results : All (λ (o : DialectOp). IfSome o.result P) b.ops

-- of each that a function names
pub record FuncNames (P : TypeTree → Type 0) (g : Func) : Type 0 where
  pub type : P g.type
  pub blocks : All (BlockNames P) g.blocks

-- each type that a module names nests no deeper than is allowed, through the fields of these structs too
abbrev pub AreNested : List NamedStruct → DialectModule → Type 0
AreNested structs d = All (FuncNames (IsNested structs)) d.functions

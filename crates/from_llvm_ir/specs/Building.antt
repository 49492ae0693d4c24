-- A dialect module under construction: its last function, whose blocks take operations at their ends.
use Rattle.std.specs.Prelude.{ℕ, ◌≡◌, ◌<◌, ◌+◌, List, [], ◌∷◌, ◌++◌, Option, Some, None, All, length, slice_get}
use Rattle.std.specs.List.{flat_map}
use Rattle.dialect_types.specs.declared.types.TypeHandle.{TypeHandle}
use Rattle.kinds.specs.Structs.{Struct}
use Rattle.dialect_types.specs.Trees.{TypeTree, structs_of}
use Rattle.dialect_core.specs.declared.numbers.BlockRef.{BlockRef}
use Rattle.dialect_core.specs.declared.linkage.LinkageAttr.TheVariants.{ExternalLinkage}
use Rattle.dialect_core.specs.declared.ops.Value.{Value}
use Rattle.dialect_core.specs.declared.ops.Successor.{Successor}
use Rattle.dialect_core.specs.declared.ops.OpKind.{OpKind}
use Rattle.dialect_core.specs.declared.ops.OpKind.TheVariants.{Func as FuncKind}
use Rattle.dialect_core.specs.declared.ops.OpData.{OpData}
use Rattle.dialect_core.specs.ContextData.{ContextData}
use Rattle.dialect_core.specs.Data.{DialectModule, DialectBlock, DialectOp, Func, Kind, with_func}
use Rattle.from_llvm_ir.specs.Imported.{IsBuilding}

-- the module of a context that holds nothing else: a name, and no functions
abbrev pub module_named : List ℕ → DialectModule
module_named name = record { name = name; functions = [] }

-- a function without blocks
abbrev pub bare_func : ℕ → (name : List ℕ) → (llvm_name : Option (List ℕ)) → TypeTree → Func
bare_func n name llvm_name type = record { number = n; name = name; llvm_name = llvm_name; type = type; linkage = ExternalLinkage; blocks = [] }

-- a new function as a context keeps it
abbrev pub func_data : (name : List ℕ) → (llvm_name : Option (List ℕ)) → TypeHandle → OpData
func_data name llvm_name ty = record { kind = FuncKind; name = Some name; operands = []; successors = []; result = None; symbol = Some (record { ty = ty; linkage = ExternalLinkage; llvm_name = llvm_name }); blocks = [] }

-- an operation as a context keeps it
abbrev pub op_data : OpKind → Option (List ℕ) → List Value → List Successor → Option TypeHandle → OpData
op_data kind name operands successors result = record { kind = kind; name = name; operands = operands; successors = successors; result = result; symbol = None; blocks = [] }

-- and in the module's data
abbrev pub new_op : ℕ → Option (List ℕ) → Kind → List Value → List Successor → Option TypeTree → DialectOp
new_op n name kind operands successors result = record { number = n; name = name; kind = kind; operands = operands; successors = successors; result = result }

-- what stays while the last function grows: the module and its block for functions, the functions before, the function
-- without its blocks, and the structs
pub record Home : Type 0 where
  pub m : ℕ
  pub body : BlockRef
  pub before : DialectModule
  pub func : Func
  -- the structs with a name of the context
  pub structs : List Struct

abbrev pub with_blocks : Home → List DialectBlock → Func
with_blocks h bs = record h.func { blocks = bs }

abbrev pub with_ops : DialectBlock → List DialectOp → DialectBlock
with_ops b os = record b { ops = os }

abbrev pub ops_of : List DialectBlock → List DialectOp
ops_of bs = flat_map (λ (b : DialectBlock). b.ops) bs

-- no operation stands in the blocks
abbrev pub AreBare : List DialectBlock → Type 0
AreBare bs = (i : ℕ) (b : DialectBlock) → slice_get bs i ≡ Some b → b.ops ≡ []

-- the numbers of operations are below n, and differ
pub record AreFresh (n : ℕ) (os : List DialectOp) : Type 0 where
  pub below : All (λ (o : DialectOp). o.number < n) os
  pub apart : (i j : ℕ) (a b : DialectOp) → slice_get os i ≡ Some a → slice_get os j ≡ Some b → a.number ≡ b.number → i ≡ j

-- blocks are numbered from a number on
abbrev pub AreNumbered : ℕ → List DialectBlock → Type 0
AreNumbered base bs = (i : ℕ) (b : DialectBlock) → slice_get bs i ≡ Some b → b.number ≡ base + i

-- the context holds the module whose last function has these blocks, numbered from `base` on, where the functions
-- before and the module have none
pub record IsUnder (h : Home) (base : ℕ) (c : ContextData) (bs : List DialectBlock) : Type 0 where
  pub above : h.body.0 < base
  pub building : IsBuilding c h.m h.body (with_func h.before (with_blocks h bs))
  pub numbered : AreNumbered base bs
  pub before : All (λ (f : Func). All (λ (x : DialectBlock). x.number < base) f.blocks) h.before.functions
  pub fresh : AreFresh (length c.ops) (ops_of bs)
  pub structs : structs_of c.types ≡ h.structs

-- and the block of that number stands behind `left`, and those behind it hold nothing yet
pub record IsOpen (h : Home) (base : ℕ) (c : ContextData) (block : BlockRef) (left : List DialectBlock) (now : DialectBlock) (right : List DialectBlock) : Type 0 where
  pub under : IsUnder h base c (left ++ now ∷ right)
  pub number : now.number ≡ block.0
  pub bare : AreBare right

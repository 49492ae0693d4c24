-- What the tests of the form speak of: operations, blocks and functions as a context has them.
use Rattle.std.specs.Prelude.{◌≡◌, true, List, [], ◌∷◌, All, IfSome, slice_get}
use Rattle.std.specs.Option.{option_map_or, option_and_then}
use Rattle.dialect_types.specs.declared.types.TypeHandle.{TypeHandle}
use Rattle.dialect_types.specs.Trees.{TypeTree, type_trees}
use Rattle.dialect_core.specs.declared.numbers.OpRef.{OpRef}
use Rattle.dialect_core.specs.declared.numbers.BlockRef.{BlockRef}
use Rattle.dialect_core.specs.declared.linkage.LinkageAttr.TheVariants.{ExternalLinkage}
use Rattle.dialect_core.specs.declared.ops.OpKind.{OpKind}
use Rattle.dialect_core.specs.declared.ops.OpData.{OpData}
use Rattle.dialect_core.specs.declared.ops.BlockData.{BlockData}
use Rattle.dialect_core.specs.Lists.{list_at}
use Rattle.dialect_core.specs.ContextData.{ContextData, kind_at}
use Rattle.dialect_core.specs.Data.{Kind, kind_of, llvm_name_of}
use Rattle.dialect_core.specs.Form.{IsShortKind}
use Rattle.kinds.specs.Held.{IsHeld, IsHeldSignature}
use Rattle.kinds.specs.Names.{is_good_name}
use Rattle.dialect_core.specs.Checking.{func_at, tree_at}

-- ---- operations

-- the constant of that type is translated that an operation of the kind makes or holds
abbrev pub IsShortOp : ContextData → OpKind → TypeTree → Type 0
IsShortOp c k type = IfSome (kind_of (type_trees c.types) k) (λ (d : Kind). IsShortKind d type)

-- the kind of an operation of the context
abbrev pub IsShortAt : ContextData → OpRef → TypeTree → Type 0
IsShortAt c o type = IfSome (kind_at c.ops o) (λ (k : OpKind). IsShortOp c k type)

-- its result, where it has one, is of a type that is translated, and so is its constant
abbrev pub IsNarrowAt : ContextData → OpRef → Type 0
IsNarrowAt c o = IfSome (option_and_then (λ (x : OpData). x.result) (slice_get c.ops o.0)) (λ (t : TypeHandle). IsHeld (tree_at c t) × IsShortAt c o (tree_at c t))

-- ---- blocks

-- its arguments are of types that are translated, and its operations are narrow
pub record IsNarrowBlockAt (c : ContextData) (b : BlockRef) : Type 0 where
  pub args : All (λ (t : TypeHandle). IsHeld (tree_at c t)) (option_map_or (λ (x : BlockData). x.args) (slice_get c.blocks b.0) [])
  pub ops : All (IsNarrowAt c) (list_at c.lists b)

-- each is such a block, and there is one
abbrev pub AreNarrowBlocks : ContextData → List BlockRef → Type 0
AreNarrowBlocks c [] = ⊥
AreNarrowBlocks c (entry ∷ more) = All (IsNarrowBlockAt c) (entry ∷ more)

-- ---- functions

-- its LLVM name, its linkage and its type
pub record IsNarrowHead (c : ContextData) (f : OpRef) : Type 0 where
  pub good : is_good_name (llvm_name_of (func_at c f)) ≡ true
  pub linkage : (func_at c f).linkage ≡ ExternalLinkage
  pub signature : IsHeldSignature (func_at c f).type

-- A context as lists: numbers name the items of its lists.
use Rattle.std.specs.Prelude.{◌≡◌, ◌⊎◌, ◌<◌, ℕ, Bool, true, false, List, [], ◌∷◌, ◌++◌, Option, Some, None, All, is_some, length, slice_get}
use Rattle.std.specs.Option.{option_map, option_map_or, option_and_then}
use Rattle.support.specs.Changes.{with_change}
use Rattle.dialect_types.specs.declared.types.TypeHandle.{TypeHandle}
use Rattle.dialect_types.specs.declared.types.TypeKind.{TypeKind}
use Rattle.dialect_core.specs.declared.numbers.OpRef.{OpRef}
use Rattle.dialect_core.specs.declared.numbers.BlockRef.{BlockRef}
use Rattle.dialect_core.specs.Lists.{with_after, without}
use Rattle.dialect_core.specs.declared.ops.Value.{Value}
use Rattle.dialect_core.specs.declared.ops.Value.TheVariants.{Result, Argument}
use Rattle.dialect_core.specs.declared.ops.Successor.{Successor}
use Rattle.dialect_core.specs.declared.ops.OpKind.{OpKind}
use Rattle.dialect_core.specs.declared.ops.OpKind.TheVariants.{Module, Func, Constant, Filled, Row}
use Rattle.dialect_core.specs.declared.ops.Symbol.{Symbol}
use Rattle.dialect_core.specs.declared.ops.OpData.{OpData}
use Rattle.dialect_core.specs.declared.ops.BlockData.{BlockData}

-- the types, operations and blocks by number; of each operation also the block that it stands in, and of each block its operations in order
pub record ContextData : Type 0 where
  pub types : List TypeKind
  pub ops : List OpData
  pub blocks : List BlockData
  pub parents : List (Option BlockRef)
  pub lists : List (List OpRef)

abbrev pub empty_context : ContextData
empty_context = record { types = []; ops = []; blocks = []; parents = []; lists = [] }

-- ---- what the building calls make

-- a new last operation, in no block
abbrev pub with_op : ContextData → OpData → ContextData
with_op c x = record c { ops = c.ops ++ x ∷ []; parents = c.parents ++ None ∷ [] }

-- a new block b, last in the region of the operation that holds it, without operations
abbrev pub with_block : ContextData → BlockRef → BlockData → ContextData
with_block c b x = record c {
  ops = with_change (λ (o : OpData). record o { blocks = o.blocks ++ b ∷ [] }) x.holder.0 c.ops;
  blocks = c.blocks ++ x ∷ [];
  lists = c.lists ++ [] ∷ [];
}

-- the block has an argument of that type last
abbrev pub with_argument : ContextData → BlockRef → TypeHandle → ContextData
with_argument c b ty = record c { blocks = with_change (λ (x : BlockData). record x { args = x.args ++ ty ∷ [] }) b.0 c.blocks }

-- the operation has that name
abbrev pub with_name : ContextData → OpRef → List ℕ → ContextData
with_name c o name = record c { ops = with_change (λ (x : OpData). record x { name = Some name }) o.0 c.ops }

-- the function has that LLVM name
abbrev pub with_llvm_name : ContextData → OpRef → List ℕ → ContextData
with_llvm_name c o name = record c { ops = with_change (λ (x : OpData). record x { symbol = option_map (λ (s : Symbol). record s { llvm_name = Some name }) x.symbol }) o.0 c.ops }

-- the operation stands last in the block
abbrev pub with_appended : ContextData → OpRef → BlockRef → ContextData
with_appended c o b = record c {
  parents = with_change (λ _. Some b) o.0 c.parents;
  lists = with_change (λ (xs : List OpRef). xs ++ o ∷ []) b.0 c.lists;
}

-- the operation stands first in the block
abbrev pub with_prepended : ContextData → OpRef → BlockRef → ContextData
with_prepended c o b = record c {
  parents = with_change (λ _. Some b) o.0 c.parents;
  lists = with_change (λ (xs : List OpRef). o ∷ xs) b.0 c.lists;
}

-- the operation stands directly behind another in the block
abbrev pub with_inserted : ContextData → OpRef → OpRef → BlockRef → ContextData
with_inserted c o other b = record c {
  parents = with_change (λ _. Some b) o.0 c.parents;
  lists = with_change (with_after o other) b.0 c.lists;
}

-- the operation stands in no block, and in the block no longer
abbrev pub with_unlinked : ContextData → OpRef → BlockRef → ContextData
with_unlinked c o b = record c {
  parents = with_change (λ _. None) o.0 c.parents;
  lists = with_change (without o) b.0 c.lists;
}

-- ---- conditions of the calls

abbrev pub is_module : OpKind → Bool
is_module Module = true
is_module Func = false
is_module (Constant a) = false
is_module (Filled fill) = false
is_module (Row o) = false

abbrev pub is_func : OpKind → Bool
is_func Func = true
is_func Module = false
is_func (Constant a) = false
is_func (Filled fill) = false
is_func (Row o) = false

-- neither a module nor a function
abbrev pub is_plain : OpKind → Bool
is_plain Module = false
is_plain Func = false
is_plain (Constant a) = true
is_plain (Filled fill) = true
is_plain (Row o) = true

-- the kind of an operation
abbrev pub kind_at : List OpData → OpRef → Option OpKind
kind_at ops o = option_map (λ (x : OpData). x.kind) (slice_get ops o.0)

-- an operation that is neither a module nor a function
abbrev pub IsPlainKindAt : List OpData → OpRef → Type 0
IsPlainKindAt ops o = (k : OpKind) × (kind_at ops o ≡ Some k) × (is_plain k ≡ true)

-- the type and linkage of a function
abbrev pub symbol_at : List OpData → OpRef → Option Symbol
symbol_at ops o = option_and_then (λ (x : OpData). x.symbol) (slice_get ops o.0)

-- the LLVM name that is set of an operation, which only a function has
abbrev pub llvm_name_at : List OpData → OpRef → Option (List ℕ)
llvm_name_at ops o = option_and_then (λ (s : Symbol). s.llvm_name) (symbol_at ops o)

-- the operation has a type and a linkage, as a function has
abbrev pub IsSymbol : List OpData → OpRef → Type 0
IsSymbol ops o = (s : Symbol) × (symbol_at ops o ≡ Some s)

-- the operation that holds the block that an operation stands in
abbrev pub parent_of : ContextData → OpRef → Option OpRef
parent_of c o = option_and_then (λ (b : BlockRef). option_map (λ (x : BlockData). x.holder) (slice_get c.blocks b.0)) (option_and_then (λ (p : Option BlockRef). p) (slice_get c.parents o.0))

-- the blocks of an operation's region
abbrev pub region_at : List OpData → ℕ → List BlockRef
region_at ops m = option_map_or (λ (x : OpData). x.blocks) (slice_get ops m) []

-- the operation may hold a block more: a function, or a module without a block
abbrev pub HoldsMore : List OpData → OpRef → Type 0
HoldsMore ops o = (kind_at ops o ≡ Some Func) ⊎ ((kind_at ops o ≡ Some Module) × (region_at ops o.0 ≡ []))

-- the kind of the operation that holds a block
abbrev pub holder_kind : List OpData → List BlockData → BlockRef → Option OpKind
holder_kind ops blocks b = option_and_then (λ (x : BlockData). kind_at ops x.holder) (slice_get blocks b.0)

-- the operation may stand in the block: it is no module, and a function only in a module's block
pub record StandsIn (ops : List OpData) (blocks : List BlockData) (o : OpRef) (b : BlockRef) : Type 0 where
  pub no_module : ¬ (kind_at ops o ≡ Some Module)
  pub func_in_module : kind_at ops o ≡ Some Func → holder_kind ops blocks b ≡ Some Module

-- ---- numbers in range

-- the value is of an operation below n, or of a block below m
abbrev pub IsValueWithin : ℕ → ℕ → Value → Type 0
IsValueWithin n m (Result o) = o.0 < n
IsValueWithin n m (Argument b i) = b.0 < m

abbrev pub IsSuccessorWithin : ℕ → ℕ → Successor → Type 0
IsSuccessorWithin n m s = (s.block.0 < m) × All (IsValueWithin n m) s.args

-- the numbers in an operation are of operations below n and of blocks below m, and just a function has a type and a linkage
pub record IsOpWithin (n m : ℕ) (x : OpData) : Type 0 where
  pub operands : All (IsValueWithin n m) x.operands
  pub successors : All (IsSuccessorWithin n m) x.successors
  pub blocks : All (λ (b : BlockRef). b.0 < m) x.blocks
  pub symbol : is_func x.kind ≡ is_some x.symbol

-- what operations and blocks name is there, and an operation of a block's list stands in that block
pub record IsContext (ops : List OpData) (blocks : List BlockData) (parents : List (Option BlockRef)) (lists : List (List OpRef)) : Type 0 where
  pub parent_each : length parents ≡ length ops
  pub list_each : length lists ≡ length blocks
  pub within : (o : ℕ) (x : OpData) → slice_get ops o ≡ Some x → IsOpWithin (length ops) (length blocks) x
  pub standing : (b : ℕ) (xs : List OpRef) → slice_get lists b ≡ Some xs → All (λ (o : OpRef). slice_get parents o.0 ≡ Some (Some (record { 0 = b }))) xs
  pub holders : (b : ℕ) (x : BlockData) → slice_get blocks b ≡ Some x → x.holder.0 < length ops

-- the operation that holds the block of the number b
abbrev pub holder_at : List BlockData → ℕ → Option ℕ
holder_at blocks b = option_map (λ (x : BlockData). x.holder.0) (slice_get blocks b)

-- the blocks of each region are those that its operation holds, and each stands there once
pub record AreRegions (region : ℕ → List BlockRef) (holder : ℕ → Option ℕ) : Type 0 where
  pub ours : (o k : ℕ) (b : BlockRef) → slice_get (region o) k ≡ Some b → holder b.0 ≡ Some o
  pub listed : (o b : ℕ) → holder b ≡ Some o → (k : ℕ) × (slice_get (region o) k ≡ Some (record { 0 = b }))
  pub once : (o i j : ℕ) (b : BlockRef) → slice_get (region o) i ≡ Some b → slice_get (region o) j ≡ Some b → i ≡ j

-- what a context keeps: what is named is there, and each region has the blocks that its operation holds
pub record IsKept (ops : List OpData) (blocks : List BlockData) (parents : List (Option BlockRef)) (lists : List (List OpRef)) : Type 0 where
  pub numbers : IsContext ops blocks parents lists
  pub regions : AreRegions (region_at ops) (holder_at blocks)

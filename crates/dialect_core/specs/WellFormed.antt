-- Well-formed modules: the rules of the dialect for the kinds of operations that there are, and what the open form
-- (`IsOpenForm`) asks besides.
use Rattle.std.specs.Prelude.{◌≡◌, ◌<◌, ◌≤◌, ◌^◌, ℕ, Bool, true, false, List, [], ◌∷◌, length, slice_get, Some, None, All, IfSome}
use Rattle.dialect_types.specs.Trees.{type_at, type_trees, structs_of}
use Rattle.dialect_types.specs.declared.types.TypeHandle.{TypeHandle}
use Rattle.const_attrs.specs.Trees.{attr_tree, attr_data}
use Rattle.const_attrs.specs.Verified.{broken}
use Rattle.dialect_core.specs.declared.numbers.OpRef.{OpRef}
use Rattle.dialect_core.specs.declared.numbers.BlockRef.{BlockRef}
use Rattle.dialect_core.specs.declared.linkage.LinkageAttr.{LinkageAttr}
use Rattle.dialect_core.specs.declared.linkage.LinkageAttr.TheVariants as L
use Rattle.dialect_core.specs.declared.ops.Successor.{Successor}
use Rattle.dialect_core.specs.declared.ops.OpKind.{OpKind}
use Rattle.dialect_core.specs.declared.ops.OpKind.TheVariants as K
use Rattle.dialect_core.specs.declared.ops.OpData.{OpData}
use Rattle.dialect_core.specs.declared.ops.BlockData.{BlockData}
use Rattle.dialect_core.specs.declared.ops.Symbol.{Symbol}
use Rattle.dialect_core.specs.Lists.{list_at}
use Rattle.dialect_core.specs.ContextData.{ContextData, kind_at, region_at, symbol_at, is_plain}
pub use Rattle.dialect_core.specs.Rules.{Typing, IsTypedBy, IsEdge, AreEdges, IsOfKind}
use Rattle.kinds.specs.Types.{params_of}
use Rattle.kinds.specs.Held.{IsFirstClass, IsHeld, IsSignature, IsHeldSignature}
use Rattle.kinds.specs.Names.{is_good_name, is_own_name}
use Rattle.dialect_core.specs.Data.{DialectOp, DialectBlock, Func, llvm_name_of, held, data_of, ops_in, type_in}
use Rattle.dialect_core.specs.Form.{EndsInOnly, IsShortKind, IsRuled}

-- ---- operations

-- an operation of the function
abbrev pub IsWellFormedOp : Typing → Func → DialectOp → Type 0
IsWellFormedOp types g o = IsOfKind types g o.operands o.result o.successors o.kind

-- ---- blocks and functions

-- a block of the function: its arguments are of first class types, and one terminator stands in it, last
pub record IsWellFormedBlock (types : Typing) (g : Func) (b : DialectBlock) : Type 0 where
  pub args : All IsFirstClass b.args
  pub ops : All (IsWellFormedOp types g) b.ops
  pub ends : EndsInOnly b.ops

-- a linkage that a function without a body may have
abbrev pub suits_declaration : LinkageAttr → Bool
suits_declaration L.ExternalLinkage = true
suits_declaration L.ExternalWeakLinkage = true
suits_declaration L.AvailableExternallyLinkage = false
suits_declaration L.LinkOnceAnyLinkage = false
suits_declaration L.LinkOnceODRLinkage = false
suits_declaration L.WeakAnyLinkage = false
suits_declaration L.WeakODRLinkage = false
suits_declaration L.AppendingLinkage = false
suits_declaration L.InternalLinkage = false
suits_declaration L.PrivateLinkage = false
suits_declaration L.CommonLinkage = false
suits_declaration L.LinkOnceODRAutoHideLinkage = false
suits_declaration L.DLLImportLinkage = false
suits_declaration L.DLLExportLinkage = false
suits_declaration L.LinkerPrivateLinkage = false
suits_declaration L.LinkerPrivateWeakLinkage = false
suits_declaration L.GhostLinkage = false

-- a linkage that a function with a body may have: one that has a word in a text, and is none of extern_weak, common and
-- appending
abbrev pub suits_body : LinkageAttr → Bool
suits_body L.ExternalLinkage = true
suits_body L.AvailableExternallyLinkage = true
suits_body L.LinkOnceAnyLinkage = true
suits_body L.LinkOnceODRLinkage = true
suits_body L.WeakAnyLinkage = true
suits_body L.WeakODRLinkage = true
suits_body L.InternalLinkage = true
suits_body L.PrivateLinkage = true
suits_body L.AppendingLinkage = false
suits_body L.ExternalWeakLinkage = false
suits_body L.CommonLinkage = false
suits_body L.LinkOnceODRAutoHideLinkage = false
suits_body L.DLLImportLinkage = false
suits_body L.DLLExportLinkage = false
suits_body L.LinkerPrivateLinkage = false
suits_body L.LinkerPrivateWeakLinkage = false
suits_body L.GhostLinkage = false

-- a linkage that a function with these blocks may have
abbrev pub suits : List DialectBlock → LinkageAttr → Bool
suits [] linkage = suits_declaration linkage
suits (entry ∷ more) linkage = suits_body linkage

-- a function, with a body or without: its LLVM name is that of a symbol and of no intrinsic, its linkage is one for the body that it has or lacks, the first block takes what
-- the function takes, and no number of a block or of an operation stands twice
pub record IsWellFormedFunc (types : Typing) (g : Func) : Type 0 where
  pub named : ¬ (g.name ≡ [])
  pub llvm_named : is_own_name (llvm_name_of g) ≡ true
  pub linkage : suits g.blocks g.linkage ≡ true
  pub signature : IsSignature g.type
  pub params : (b : DialectBlock) → slice_get g.blocks 0 ≡ Some b → b.args ≡ params_of g.type
  pub blocks : All (IsWellFormedBlock types g) g.blocks
  pub block_numbers : (i j : ℕ) (a b : DialectBlock) → slice_get g.blocks i ≡ Some a → slice_get g.blocks j ≡ Some b → a.number ≡ b.number → i ≡ j
  pub numbers : (i j : ℕ) (a b : DialectOp) → slice_get (ops_in g) i ≡ Some a → slice_get (ops_in g) j ≡ Some b → a.number ≡ b.number → i ≡ j

-- ---- lists

-- a list of fewer than 2^31 entries
abbrev pub IsFew : {X : Type 0} → List X → Type 0
IsFew xs = length xs < 2 ^ 31

-- an operation: its operands, its edges, and what each of them passes
pub record HasFewUses (x : OpData) : Type 0 where
  pub operands : IsFew x.operands
  pub successors : IsFew x.successors
  pub passed : All (λ (s : Successor). IsFew s.args) x.successors

abbrev pub IsFewOp : ContextData → OpRef → Type 0
IsFewOp c o = (x : OpData) → slice_get c.ops o.0 ≡ Some x → HasFewUses x

-- a block: its arguments and its operations
pub record IsFewBlock (c : ContextData) (b : BlockRef) : Type 0 where
  pub args : (x : BlockData) → slice_get c.blocks b.0 ≡ Some x → IsFew x.args
  pub ops : IsFew (list_at c.lists b)
  pub each : All (IsFewOp c) (list_at c.lists b)

-- a function: the types that it takes, and its blocks
pub record IsFewFunc (c : ContextData) (o : OpRef) : Type 0 where
  pub params : (s : Symbol) → symbol_at c.ops o ≡ Some s → IsFew (params_of (type_at (type_trees c.types) s.ty))
  pub blocks : IsFew (region_at c.ops o.0)
  pub each : All (IsFewBlock c) (region_at c.ops o.0)

-- the block of a module: its functions
abbrev pub HasFewEntries : ContextData → BlockRef → Type 0
HasFewEntries c b = IsFew (list_at c.lists b) × All (IsFewFunc c) (list_at c.lists b)

-- ---- modules

-- the arguments of a block are of first class types, and few
abbrev pub HasFirstClassArgs : ContextData → BlockRef → Type 0
HasFirstClassArgs c b = (x : BlockData) → slice_get c.blocks b.0 ≡ Some x → IsFew x.args × All (λ (t : TypeHandle). IsFirstClass (type_at (type_trees c.types) t)) x.args

-- no two functions have one name, be it their own or that of LLVM
abbrev pub HasNamesApart : (Func → List ℕ) → List Func → Type 0
HasNamesApart name fs = (i j : ℕ) (f g : Func) → slice_get fs i ≡ Some f → slice_get fs j ≡ Some g → name f ≡ name g → i ≡ j

-- the constant that an operation holds, where it holds one, keeps the rules of constants
abbrev pub KeepsRules : ContextData → OpKind → Type 0
KeepsRules c K.Module = Unit {0}
KeepsRules c K.Func = Unit {0}
KeepsRules c (K.Constant value) = broken (structs_of c.types) (attr_tree (type_trees c.types) (attr_data value)) ≡ None
KeepsRules c (K.Filled fill) = Unit {0}
KeepsRules c (K.Row op) = Unit {0}

-- an operation that is neither a module nor a function, and whose constant keeps the rules
abbrev pub IsPlainAt : ContextData → OpRef → Type 0
IsPlainAt c o = (k : OpKind) × (kind_at c.ops o ≡ Some k) × (is_plain k ≡ true) × KeepsRules c k

-- the block is the first of the region of an operation of the context
abbrev pub IsFirst : ContextData → BlockRef → Type 0
IsFirst c b = (holder : ℕ) × (slice_get (region_at c.ops holder) 0 ≡ Some b)

-- no edge of the operation goes to a first block
abbrev pub IsPastFirsts : ContextData → OpRef → Type 0
IsPastFirsts c o = (x : OpData) → slice_get c.ops o.0 ≡ Some x → All (λ (s : Successor). ¬ IsFirst c s.block) x.successors

-- The operation of the number m is a module of at most one block. That block takes values, and holds functions alone,
-- whose blocks hold neither functions nor modules: the data leave such out, so these rules speak of the context. So does
-- the rule that no edge goes to the first block of a region, be it of this function, of another or of a module. An
-- operand, and a value that an edge passes, has its type in the context, whichever function it belongs to: that each is
-- one of its own function is for the export to ask. Each list has fewer than 2^31 entries.
pub record IsWellFormed (c : ContextData) (m : ℕ) : Type 0 where
  pub kind : kind_at c.ops (record { 0 = m }) ≡ Some K.Module
  pub region : length (region_at c.ops m) ≤ 1
  pub args : All (HasFirstClassArgs c) (region_at c.ops m)
  pub funcs_alone : All (λ (o : OpRef). kind_at c.ops o ≡ Some K.Func) (held c m)
  pub plain : All (λ (o : OpRef). All (IsPlainAt c) (held c o.0)) (held c m)
  pub past_firsts : All (λ (o : OpRef). All (IsPastFirsts c) (held c o.0)) (held c m)
  pub functions : All (IsWellFormedFunc (type_in c)) (data_of c m).functions
  pub names : HasNamesApart (λ (f : Func). f.name) (data_of c m).functions
  pub llvm_names : HasNamesApart llvm_name_of (data_of c m).functions
  pub few : IsFew (held c m)
  pub few_each : All (IsFewFunc c) (held c m)

-- ---- what the open form asks besides

-- an operation of the form: the type of its result, where it has one, is translated, and so is a constant that it holds
abbrev pub IsNarrowOp : DialectOp → Type 0
IsNarrowOp o = IfSome o.result IsHeld × IfSome o.result (IsShortKind o.kind)

-- a block of the form: the types of its arguments are translated
pub record IsNarrowBlock (b : DialectBlock) : Type 0 where
  pub args : All IsHeld b.args
  pub ops : All IsNarrowOp b.ops

-- a function of the form, as far as that is narrower: it has a body, external linkage, and a name that the form takes
pub record IsNarrowFunc (g : Func) : Type 0 where
  pub good : is_good_name (llvm_name_of g) ≡ true
  pub linkage : g.linkage ≡ L.ExternalLinkage
  pub signature : IsHeldSignature g.type
  pub blocks : All IsNarrowBlock g.blocks
  pub body : ¬ (g.blocks ≡ [])

-- each function of the module is so
abbrev pub IsNarrow : ContextData → ℕ → Type 0
IsNarrow c m = All IsNarrowFunc (data_of c m).functions

-- a function of the context of the form, whose values may be those of other functions, and whose constants keep the rules: `IsFormFunc`
-- where the values are its own
abbrev pub IsOpenForm : ContextData → Func → Type 0
IsOpenForm c g = IsWellFormedFunc (type_in c) g × IsNarrowFunc g × IsRuled (structs_of c.types) g

-- What an import has made: a dialect module whose functions stand for those of the source.
use Rattle.std.specs.Prelude.{ℕ, zero, suc, ◌≡◌, ◌<◌, ◌≤◌, ◌⊎◌, true, false, not, nat_eq, if◌then◌else◌, List, [], ◌∷◌, ◌++◌, Option, Some, None, All, map, filter, length, slice_get, slice_index_or, codes}
use Rattle.std.specs.Option.{option_map, option_map_or, option_and_then}
use Rattle.std.specs.List.{filter_map, flat_map, find, position_from}
use Rattle.std.specs.Str.{bytes_eq}
use Rattle.llvm_core.specs.Data as L
use Rattle.llvm_core.specs.declared.numbers.LLVMInstRef.{LLVMInstRef}
use Rattle.llvm_core.specs.declared.code.LLVMValue.{LLVMValue}
use Rattle.llvm_core.specs.declared.code.LLVMValue.TheVariants as V
use Rattle.llvm_core.specs.Data.{ConstTree, Placed, const_type, targets, phi_entries, placed_in}
use Rattle.kinds.specs.Structs.{Struct}
use Rattle.llvm_core.specs.Form.{HasMadeOperands, is_phi}
use Rattle.dialect_types.specs.Legalised.{Named, Gave, IsLegalised}
use Rattle.dialect_types.specs.Trees.{structs_of}
use Rattle.dialect_types.specs.declared.types.TypeHandle.{TypeHandle}
use Rattle.dialect_core.specs.declared.numbers.OpRef.{OpRef}
use Rattle.dialect_core.specs.declared.numbers.BlockRef.{BlockRef}
use Rattle.dialect_core.specs.declared.ops.OpKind.{OpKind}
use Rattle.dialect_core.specs.declared.ops.OpKind.TheVariants.{Module, Func as FuncKind}
use Rattle.dialect_core.specs.declared.ops.OpData.{OpData}
use Rattle.dialect_core.specs.declared.ops.BlockData.{BlockData}
use Rattle.dialect_core.specs.Lists.{list_at}
use Rattle.dialect_core.specs.ContextData.{ContextData, IsPlainKindAt, kind_at, region_at}
use Rattle.dialect_core.specs.Data.{DialectModule, DialectBlock, DialectOp, Func, Kind, IsTypedOp, data_of}
use Rattle.dialect_core.specs.Form.{IsFormFunc, IsRuled, HasConstantsInEntry, IsExportable, HasTargets}
use Rattle.dialect_core.specs.WellFormed.{IsWellFormed}
use Rattle.meaning.specs.Terms.{Match}
use Rattle.meaning.specs.Setting.{Setting}
use Rattle.meaning.specs.Renamed.{renamed_module}
use Rattle.renamed_source.specs.Names.{struct_name}
use Rattle.meaning.specs.Pairs.{Matched, BothOrNone}
use Rattle.meaning.specs.Code.{IsDistinctNames}
use Rattle.meaning.specs.Llvm.{used}
use Rattle.meaning.specs.Shape.{SameShape}
use Rattle.block_order.specs.DepthFirst.{IsDepthFirst}
use Rattle.from_consts.specs.Constants.{kind_for}
use Rattle.from_llvm_ir.specs.Match.{IsPlaces, place_at}
use Rattle.from_llvm_ir.specs.Order.{IsInverse}
use Rattle.from_llvm_ir.specs.Walks.{graph_of, HasDominatedUses}
use Rattle.from_llvm_ir.specs.declared.matching.FunctionBlocks.{FunctionBlocks}
use Rattle.from_llvm_ir.specs.declared.importing.Imported.{Imported}
use Rattle.renamed_source.specs.Source.{pairs_of}

-- ---- constants

-- the operand of the first entry of a phi for a block
abbrev pub first_entry : ℕ → List (L.Operand × ℕ) → Option L.Operand
first_entry p entries = option_map (λ (e : L.Operand × ℕ). e.0) (find (λ (e : L.Operand × ℕ). nat_eq e.1 p) entries)

-- the constant that an operand is
abbrev pub constant_in : L.Operand → Option ConstTree
constant_in (L.Constant c) = Some c
constant_in _ = None

-- the operands that phis take on an edge from the block of the number p to that of the number t: of each phi
-- its first entry for p
abbrev pub passed : L.Function → (p t : ℕ) → List L.Operand
passed f p t = flat_map (λ (b : L.Block). filter_map (λ (x : Placed). option_and_then (first_entry p) (phi_entries x.instruction)) b.instructions) (filter (λ (b : L.Block). nat_eq b.number t) f.blocks)

-- the constants that an instruction of a block uses: those among what it uses itself in order, and then those that its edges
-- pass, edge by edge
abbrev pub constants_in : L.ModuleData → L.Function → L.Block → Placed → List ConstTree
constants_in d f b p = filter_map constant_in (used p.instruction ++ flat_map (passed f b.number) (targets p.instruction))

-- the item is in the list
abbrev pub IsIn : {A : Type 0} → List A → A → Type 0
IsIn xs x = (i : ℕ) × (slice_get xs i ≡ Some x)

-- each item of a list where it stands for the first time, in order
pub data FirstUses {A : Type 0} : (uses firsts : List A) → Type 0 where
  NoUses : FirstUses [] []
  UsedAgain : (uses firsts : List A) (x : A) → FirstUses uses firsts → IsIn firsts x → FirstUses (uses ++ x ∷ []) firsts
  UsedFirst : (uses firsts : List A) (x : A) → FirstUses uses firsts → ¬ IsIn firsts x → FirstUses (uses ++ x ∷ []) (firsts ++ x ∷ [])

-- what the operation of a constant holds; the structs of the source have the identifiers of the dialect already
abbrev pub own_kind : ConstTree → Option Kind
own_kind c = kind_for (λ (name : List ℕ). name) c

-- the operation makes the constant, and has no name
abbrev pub Makes : ConstTree → DialectOp → Type 0
Makes c o = (own_kind c ≡ Some o.kind) × (o.result ≡ Some (const_type c)) × (o.name ≡ None)

-- ---- functions

-- Names go by the list of those that an import met, each with its identifier. What is said of a name once is said of
-- every list that goes on from the one that there was, and so of that of the whole import.

-- the identifier of an instruction's result or of a block: that which its name was given, none where it has no name
abbrev pub IsGivenName : List Named → (name : List ℕ) → Option (List ℕ) → Type 0
IsGivenName given [] i = i ≡ None
IsGivenName given (b ∷ bs) None = ⊥
IsGivenName given (b ∷ bs) (Some i) = Gave given (b ∷ bs) i

pub record HasGivenName (given : List Named) (p : Placed) (o : DialectOp) : Type 0 where
  pub name : IsGivenName given p.name o.name

-- the LLVM name that is kept beside an identifier: none where they are the same
abbrev pub kept_name : (name identifier : List ℕ) → Option (List ℕ)
kept_name n i = if bytes_eq n i then None else Some n

-- the instructions of a block but its phis, and its phis
abbrev pub rest_of : L.Block → List Placed
rest_of b = filter (λ (p : Placed). not (is_phi p)) b.instructions

abbrev pub phis_of : L.Block → List Placed
phis_of b = filter is_phi b.instructions

-- the label: of the entry `entry`, of another block the identifier of its name
abbrev pub IsLabel : List Named → (place : ℕ) → L.Block → Option (List ℕ) → Type 0
IsLabel given zero b label = label ≡ Some (codes "entry")
IsLabel given (suc n) b label = IsGivenName given b.name label

-- the types of the arguments behind the entry: those of the phis in order
abbrev pub HasArguments : (place : ℕ) → L.Block → DialectBlock → Type 0
HasArguments zero b c = Unit {0}
HasArguments (suc n) b c = c.args ≡ map (λ (p : Placed). p.type) (phis_of b)

-- what stands first in a block: the constants in the entry, nothing elsewhere
abbrev pub front_for : (place : ℕ) → List DialectOp → List DialectOp
front_for zero hoisted = hoisted
front_for (suc n) hoisted = []

-- the block of the dialect at a place of the source: an operation for each instruction that is no phi, in order,
-- with the identifier of its name, behind the constants in the entry
pub record IsImportedBlock (given : List Named) (hoisted : List DialectOp) (place : ℕ) (b : L.Block) (c : DialectBlock) : Type 0 where
  pub label : IsLabel given place b c.label
  pub args : HasArguments place b c
  pub rest : List DialectOp
  pub ops : c.ops ≡ front_for place hoisted ++ rest
  pub names : Matched (HasGivenName given) (rest_of b) rest

-- n, n + 1, .. , as many as the list has items
abbrev pub counting : {A : Type 0} → ℕ → List A → List ℕ
counting n [] = []
counting n (x ∷ xs) = n ∷ counting (suc n) xs

-- the blocks of a function in the order of their places
abbrev pub in_order : List ℕ → List L.Block → List L.Block
in_order places blocks = filter_map (λ (j : ℕ). option_and_then (slice_get blocks) (position_from (nat_eq j) 0 places)) (counting 0 places)

-- the constants that a function uses, in the order of the dialect
abbrev pub constants_used : L.ModuleData → L.Function → List ℕ → List ConstTree
constants_used d f places = flat_map (λ (b : L.Block). flat_map (constants_in d f b) (rest_of b)) (in_order places f.blocks)

-- The function g stands for the function f of the module d: its blocks in the depth-first order of their graph, where
-- each definition dominates its uses; the constants that it uses once each in order of first use, block by block an
-- operation for each instruction, and under every match that puts its blocks at these places and leaves the names of structs
-- the same shape, whatever the module of the one and that of the other tell their bodies. Names are those that the list
-- gives; the function keeps that of LLVM where its own is another.
pub record ImportedFunction (d : L.ModuleData) (given : List Named) (f : L.Function) (x : FunctionBlocks) (g : Func) : Type 0 where
  pub function : x.function.0 ≡ f.number
  pub places : IsPlaces (length f.blocks) x.places
  pub order : (o : List ℕ) × IsDepthFirst (graph_of f) o × IsInverse o x.places
  pub uses : HasDominatedUses f
  pub name : Gave given f.name g.name
  pub llvm_name : g.llvm_name ≡ kept_name f.name g.name
  pub type : g.type ≡ f.type
  pub form : IsFormFunc g
  -- where the elements of each constant that the source uses are those that structs ask for, it keeps the rules of constants
  pub ruled : (structs : List Struct) → HasMadeOperands structs f → IsRuled structs g
  pub first : HasConstantsInEntry g
  pub exportable : IsExportable g
  pub targets : HasTargets g
  pub constants : List ConstTree
  pub first_uses : FirstUses (constants_used d f x.places) constants
  pub hoisted : List DialectOp
  pub made : Matched Makes constants hoisted
  pub blocks : (i : ℕ) → BothOrNone (IsImportedBlock given hoisted i) (slice_get f.blocks i) (slice_get g.blocks (place_at i x))
  pub shape : (match : Match) (source made : Setting) → ((s : List ℕ) → match.struct s ≡ s) → ((b : ℕ) → match.block f.name b ≡ place_at b x) → SameShape match source f made g

-- ---- modules

-- functions and blocks of the data have numbers below these
abbrev pub IsBelow : (ops blocks : ℕ) → Func → Type 0
IsBelow ops blocks f = (f.number < ops) × All (λ (b : DialectBlock). b.number < blocks) f.blocks

-- the kind of the operation that holds a block
abbrev pub holder_kind : ContextData → BlockRef → Option OpKind
holder_kind c b = option_and_then (λ (x : BlockData). kind_at c.ops x.holder) (slice_get c.blocks b.0)

-- the operation of the number m is a module, and has the block for its functions, which takes nothing
pub record IsModuleAt (c : ContextData) (m : ℕ) (body : BlockRef) : Type 0 where
  pub kind : kind_at c.ops (record { 0 = m }) ≡ Some Module
  pub region : region_at c.ops m ≡ body ∷ []
  pub block : body.0 < length c.blocks
  pub holder : holder_kind c body ≡ Some Module
  pub bare : (x : BlockData) → slice_get c.blocks body.0 ≡ Some x → x.args ≡ []

-- What stands in a context from the operation m and from the block for its functions on is the module's own: its types
-- are there, and it names and holds nothing older.
pub record IsOwn (c : ContextData) (m : ℕ) (body : BlockRef) : Type 0 where
  pub ops : (o : ℕ) (x : OpData) → m ≤ o → slice_get c.ops o ≡ Some x → IsTypedOp (length c.types) x × ((k : ℕ) (b : BlockRef) → slice_get x.blocks k ≡ Some b → body.0 ≤ b.0)
  pub blocks : (b : ℕ) (x : BlockData) → body.0 ≤ b → slice_get c.blocks b ≡ Some x → All (λ (t : TypeHandle). t.0 < length c.types) x.args
  pub lists : (b : BlockRef) → body.0 ≤ b.0 → b.0 < length c.blocks → All (λ (o : OpRef). m ≤ o.0) (list_at c.lists b)

-- functions alone stand in the block for functions, and neither functions nor modules in a block behind it
pub record HasFuncsApart (c : ContextData) (body : BlockRef) : Type 0 where
  pub funcs : All (λ (o : OpRef). kind_at c.ops o ≡ Some FuncKind) (list_at c.lists body)
  pub plain : (b : BlockRef) → body.0 < b.0 → b.0 < length c.blocks → All (IsPlainKindAt c.ops) (list_at c.lists b)

-- the context holds a module, with one block for its functions, and its data are d
pub record IsBuilding (c : ContextData) (m : ℕ) (body : BlockRef) (d : DialectModule) : Type 0 where
  pub held : IsModuleAt c m body
  pub apart : HasFuncsApart c body
  pub is : data_of c m ≡ d
  pub there : m < length c.ops
  pub own : IsOwn c m body
  pub below : All (IsBelow (length c.ops) (length c.blocks)) d.functions

-- the source as the import read it: its structs under the names that it gave them
abbrev pub seen_by : Imported → L.ModuleData → L.ModuleData
seen_by i d = renamed_module (struct_name (pairs_of i.structs.items)) d

-- the data of an imported module in the context that holds it
abbrev pub imported_data : ContextData → Imported → DialectModule
imported_data c i = data_of c i.module.0.0

-- a function of the dialect for each of the source, in order, with its entry of the match
pub data AreImported (d : L.ModuleData) (given : List Named) : List L.Function → List FunctionBlocks → List Func → Type 0 where
  NoneImported : AreImported d given [] [] []
  ThenImported : (f : L.Function) (x : FunctionBlocks) (g : Func) (fs : List L.Function) (xs : List FunctionBlocks) (gs : List Func)
      → ImportedFunction d given f x g → AreImported d given fs xs gs → AreImported d given (f ∷ fs) (x ∷ xs) (g ∷ gs)

-- the names met are that of the module and then those of its functions in order, each where it stands first, and behind
-- them all others
pub record BeginsWith (d : L.ModuleData) (given : List Named) : Type 0 where
  pub firsts : List (List ℕ)
  pub first_uses : FirstUses (d.name ∷ map (λ (f : L.Function). f.name) d.functions) firsts
  pub others : List (List ℕ)
  pub are : map (λ (g : Named). g.name) given ≡ firsts ++ others

-- The context c holds the dialect module, which has the functions of the source in order, and the match covers the source.
-- Its names, and those of its structs, are those that one list of names gives. Where no two functions of the source have one name, it keeps every rule
-- of the dialect.
pub record IsImported (d : L.ModuleData) (c : ContextData) (i : Imported) : Type 0 where
  pub given : List Named
  pub legalised : IsLegalised given
  pub begins : BeginsWith d given
  pub body : BlockRef
  pub building : IsBuilding c i.module.0.0 body (imported_data c i)
  pub name : Gave given d.name (imported_data c i).name
  pub structs : All (λ (p : List ℕ × List ℕ). Gave given p.0 p.1) (pairs_of i.structs.items)
  pub functions : AreImported d given d.functions i.blocks (imported_data c i).functions
  pub ruled : All (IsRuled (structs_of c.types)) (imported_data c i).functions
  pub well_formed : IsDistinctNames (map (λ (f : L.Function). f.name) d.functions) → IsWellFormed c i.module.0.0

-- ---- uses before a definition, of which inner contracts speak

-- an instruction of the block b that is no phi uses the result of the instruction n
abbrev pub IsUsedBy : L.Function → L.Block → Placed → ℕ → Type 0
IsUsedBy f b user n = (is_phi user ≡ false) × IsIn (used user.instruction ++ flat_map (passed f b.number) (targets user.instruction)) (L.Result n)

-- The result of the instruction n is used where it does not stand before, the blocks taken in the order of their
-- places: an operand of the instruction at place k of the block b, whose definition stands neither in a block of a
-- lower place nor before it in b. What a phi takes for b is used by the terminator of b, and a phi is defined at the
-- start of its block.
pub record IsEarlyUse (f : L.Function) (places : List ℕ) (n : ℕ) : Type 0 where
  pub block : ℕ
  pub b : L.Block
  pub at : slice_get f.blocks block ≡ Some b
  pub place : ℕ
  pub user : Placed
  pub here : slice_get b.instructions place ≡ Some user
  pub uses : IsUsedBy f b user n
  pub early : (definition : ℕ) (c : L.Block) (k : ℕ) (p : Placed) → slice_get f.blocks definition ≡ Some c → slice_get c.instructions k ≡ Some p → p.number ≡ n
      → ¬ (slice_index_or places definition definition < slice_index_or places block block) × ¬ ((definition ≡ block) × ((k < place) ⊎ (is_phi p ≡ true)))

-- the name of the instruction of that number, empty where it has none
abbrev pub name_in : L.Function → ℕ → List ℕ
name_in f n = option_map_or (λ (p : Placed). p.name) (find (λ (p : Placed). nat_eq p.number n) (placed_in f)) []

-- the value is the result of an instruction of f, used where it does not stand before, and has that name: what stops
-- an import whose blocks have these places
pub record IsRefused (f : L.Function) (places : List ℕ) (name : List ℕ) (v : LLVMValue) : Type 0 where
  pub inst : LLVMInstRef
  pub value : v ≡ V.Inst inst
  pub early : IsEarlyUse f places inst.0
  pub named : name ≡ name_in f inst.0

-- What an export has made: an LLVM module whose functions stand for those of a dialect module.
use Rattle.std.specs.Prelude.{ℕ, zero, suc, ◌≡◌, ◌<◌, ◌^◌, false, nat_eq, if◌then◌else◌, List, [], ◌∷◌, ◌++◌, Option, Some, None, All, IfSome, Contains, length, map, filter, slice_get, unwrap_or, codes}
use Rattle.std.specs.Option.{option_map_or}
use Rattle.std.specs.List.{filter_map, flat_map}
use Rattle.std.specs.Fmt.{decimal}
use Rattle.llvm_core.specs.Module.{Module}
use Rattle.support.specs.Interned.{IsDistinctList}
use Rattle.llvm_core.specs.Data as L
use Rattle.llvm_core.specs.Data.{Operand, Placed, data_of, phi_entries}
use Rattle.llvm_core.specs.Form.{IsFormFunction, IsHeldFunction, IsFewIn, HasPhisFirst, is_phi, targets_of, local_names}
use Rattle.dialect_types.specs.Trees.{TypeTree, NamedStruct}
use Rattle.dialect_core.specs.declared.numbers.BlockRef.{BlockRef}
use Rattle.dialect_core.specs.declared.ops.Value.{Value}
use Rattle.dialect_core.specs.declared.ops.Value.TheVariants.{Result, Argument}
use Rattle.dialect_core.specs.declared.ops.Successor.{Successor}
use Rattle.dialect_core.specs.declared.ops.BlockData.{BlockData}
use Rattle.dialect_core.specs.ContextData.{ContextData}
use Rattle.dialect_core.specs.Data.{DialectModule, DialectBlock, DialectOp, Func, llvm_name_of, name_at}
use Rattle.dialect_core.specs.Form.{others_of, uses_of, edges_of, FitsTarget, HasEqualEdges, HasTargets, HasOnlyEntryConstants}
use Rattle.meaning.specs.Setting.{Setting}
use Rattle.meaning.specs.Pairs.{Matched, BothOrNone}
use Rattle.meaning.specs.Code.{rename_symbol}
use Rattle.meaning.specs.Llvm as Llvm
use Rattle.meaning.specs.Dialect as Dialect
use Rattle.meaning.specs.Dialect.{same_value}
use Rattle.meaning.specs.Llvm.{ResultKey}
use Rattle.meaning.specs.Shape.{Plan}
use Rattle.meaning.specs.Woven.{WovenShape, SetsConstantsFirst, SameTrace, func_reads_unset}
use Rattle.meaning.specs.Examples.{same_places}
use Rattle.to_llvm_ir.specs.declared.to_llvm_err.ToLLVMErr.{ToLLVMErr}
use Rattle.to_llvm_ir.specs.declared.to_llvm_err.ToLLVMErr.TheVariants as E
use Rattle.to_llvm_ir.specs.Order.{IsExportOrder, StandsBeforeIn}

-- ---- names

-- the name of the block at a place, by its label where it has one
abbrev pub block_name : Option (List ℕ) → ℕ → List ℕ
block_name (Some label) k = label ++ codes "_block" ++ decimal k
block_name None k = codes "block" ++ decimal k

-- the name of the result of the number k, by its given name where it has one
abbrev pub value_name : Option (List ℕ) → ℕ → List ℕ
value_name (Some name) k = name ++ codes "_v" ++ decimal k
value_name None k = codes "v" ++ decimal k

-- the name of what an operation becomes, by its given name and the number of its result; none without a result
abbrev pub result_name : Option (List ℕ) → Option TypeTree → ℕ → List ℕ
result_name name (Some type) k = value_name name k
result_name name None k = []

-- the result of an operation that has one
abbrev pub result : DialectOp → Value
result o = Result (record { 0 = o.number })

abbrev pub results_of : DialectOp → List Value
results_of o = option_map_or (λ (type : TypeTree). result o ∷ []) o.result []

-- the first arguments of the block of a number, from a place on
abbrev pub arguments_from : (block place : ℕ) → List TypeTree → List Value
arguments_from b i [] = []
arguments_from b i (t ∷ ts) = Argument (record { 0 = b }) i ∷ arguments_from b (suc i) ts

abbrev pub arguments_of : DialectBlock → List Value
arguments_of c = arguments_from c.number 0 c.args

-- the values of a block: its arguments, and then the results of its operations, those of constants too
abbrev pub values_of : DialectBlock → List Value
values_of c = arguments_of c ++ flat_map results_of c.ops

-- the values of a function, the blocks in order
abbrev pub values_in : Func → List Value
values_in g = flat_map values_of g.blocks

-- the place of a value in a list, the length where it is not in it
abbrev pub place_in : Value → List Value → ℕ
place_in v [] = 0
place_in v (x ∷ xs) = if same_value x v then 0 else suc (place_in v xs)

-- the number of a value of a function is its place among them
abbrev pub value_number : Func → Value → ℕ
value_number g v = place_in v (values_in g)

-- the values that become phis: the arguments of a block, but not those of the entry, which are the parameters
abbrev pub phi_values : (place : ℕ) → DialectBlock → List Value
phi_values zero c = []
phi_values (suc n) c = arguments_of c

-- the name of the phi that an argument becomes, and of the instruction that an operation becomes
abbrev pub phi_name : Func → Value → List ℕ
phi_name g v = value_name None (value_number g v)

abbrev pub operation_name : Func → DialectOp → List ℕ
operation_name g o = result_name o.name o.result (value_number g (result o))

-- the names of the block at a place: its own, those of its phis, and those of what its operations but the constants
-- become, in order
pub record HasNames (g : Func) (place : ℕ) (c : DialectBlock) (b : L.Block) : Type 0 where
  pub label : b.name ≡ block_name c.label place
  pub names : map (λ (p : Placed). p.name) b.instructions ≡ map (phi_name g) (phi_values place c) ++ map (operation_name g) (others_of c.ops)

-- ---- phis

-- the types of the phis that a block's arguments become; the entry has none, since its arguments are the parameters
abbrev pub phi_types : (place : ℕ) → List TypeTree → List L.TypeTree
phi_types zero types = []
phi_types (suc n) types = types

-- the blocks that edges to the block of the number n come from, edge by edge: the blocks in order, of each its
-- targets in order
abbrev pub edge_sources : ℕ → List L.Block → List ℕ
edge_sources n blocks = flat_map (λ (b : L.Block). map (λ (t : ℕ). b.number) (filter (nat_eq n) (targets_of b))) blocks

-- the blocks of a function in an order of their places
abbrev pub blocks_by : List ℕ → L.Function → List L.Block
blocks_by order f = filter_map (slice_get f.blocks) order

-- the entries of a phi of the block of the number n: one for each edge that leads there, in the order of the edges, the
-- blocks taken in an order, and those for one block have one operand
pub record HasEdges (order : List ℕ) (f : L.Function) (n : ℕ) (entries : List (Operand × ℕ)) : Type 0 where
  pub sources : map (λ (e : Operand × ℕ). e.1) entries ≡ edge_sources n (blocks_by order f)
  pub alike : (i j : ℕ) (x y : Operand × ℕ) → slice_get entries i ≡ Some x → slice_get entries j ≡ Some y → x.1 ≡ y.1 → x.0 ≡ y.0

-- the block at a place of the function f begins with a phi for each argument of the dialect's block, in order, of its
-- type, and has no others
pub record HasPhis (order : List ℕ) (f : L.Function) (place : ℕ) (c : DialectBlock) (b : L.Block) : Type 0 where
  pub types : map (λ (p : Placed). p.type) (filter is_phi b.instructions) ≡ phi_types place c.args
  pub first : HasPhisFirst b.instructions
  pub entries : All (λ (p : Placed). IfSome (phi_entries p.instruction) (HasEdges order f b.number)) b.instructions

-- under a plan the phis of a block stand for the arguments of the dialect's block, in order
abbrev pub StandForArguments : Plan → DialectBlock → L.Block → Type 0
StandForArguments plan c b = (i : ℕ) (p : Placed) → slice_get (filter is_phi b.instructions) i ≡ Some p → plan.value (ResultKey p.number) ≡ Some (Argument (record { 0 = c.number }) i)

-- ---- functions and modules

-- Nothing of the function is to be refused, its blocks taken in an order: each value stands before its uses, each edge
-- leads to a block of the function with a value for each argument, and two edges of a block that lead to one block
-- pass the same values. So no cause of a refusal but want of memory holds of it.
pub record HasNoCause (order : List ℕ) (g : Func) : Type 0 where
  pub uses : (j k : ℕ) (c : DialectBlock) (o : DialectOp) → slice_get g.blocks j ≡ Some c → slice_get c.ops k ≡ Some o → All (StandsBeforeIn order g j k) (uses_of o)
  pub targets : (j : ℕ) (c : DialectBlock) → slice_get g.blocks j ≡ Some c → All (FitsTarget g) (edges_of c)
  pub equal : (j : ℕ) (c : DialectBlock) → slice_get g.blocks j ≡ Some c → HasEqualEdges c

-- the function f stands for the function g of the dialect, whose constants stand at any places, whatever their modules tell
pub record ExportedFunction (g : Func) (f : L.Function) : Type 0 where
  pub name : f.name ≡ llvm_name_of g
  pub type : f.type ≡ g.type
  pub space : f.space ≡ 0
  pub shape : (a b : Setting) → WovenShape same_places a f b g
  -- where all constants stand in the first block, it sets them before what reads them
  pub sets : HasOnlyEntryConstants g → (a b : Setting) → SetsConstantsFirst (shape a b).plan (map (Dialect.block b g) g.blocks)
  -- parameters have no names
  pub params : All (λ (n : List ℕ). n ≡ []) f.params
  pub names : (place : ℕ) → BothOrNone (HasNames g place) (slice_get g.blocks place) (slice_get f.blocks place)
  -- the order in which its blocks were taken
  pub order : List ℕ
  pub is_order : IsExportOrder g order
  pub taken : HasNoCause order g
  -- whether an edge leads to the block or not
  pub phis : (place : ℕ) → BothOrNone (HasPhis order f place) (slice_get g.blocks place) (slice_get f.blocks place)
  pub arguments : (a b : Setting) (place : ℕ) → BothOrNone (StandForArguments (shape a b).plan) (slice_get g.blocks place) (slice_get f.blocks place)
  pub locals : IsDistinctList (local_names f)
  pub few : IsFewIn f
  -- where each block with arguments is an edge's target, each phi has an edge
  pub form : HasTargets g → IsFormFunction f
  pub held : IsHeldFunction f

-- The function f, whose module tells a, has the traces of the function g of the dialect, whose module tells b: for every
-- list of choices where all constants of g stand in its first block, and else for every list whose run of g reads no
-- unset value. For a constant of another block may be read in a run that never sets it, and f has it written in place.
-- And f is the same symbol.
pub record HasTraces (a b : Setting) (g : Func) (f : L.Function) : Type 0 where
  pub symbol : rename_symbol same_places (Llvm.entry a f).symbol ≡ (Dialect.entry b g).symbol
  pub first : HasOnlyEntryConstants g → (choices : List ℕ) → SameTrace same_places a f b g choices
  pub set : (choices : List ℕ) → func_reads_unset b g choices ≡ false → SameTrace same_places a f b g choices

-- the module back has a function for each of the dialect's, in order, and its name, and the structs of the context, in the
-- order in which they were made there
pub record IsExported (structs : List NamedStruct) (d : DialectModule) (back : Module) : Type 0 where
  pub name : (data_of back).name ≡ d.name
  pub structs_are : (data_of back).structs ≡ structs
  pub functions : Matched ExportedFunction d.functions (data_of back).functions
  pub few : length (data_of back).functions < 2 ^ 31

-- ---- refusals

-- a function of the module, the place of a block in it, and that block
pub record HasBlockAt (d : DialectModule) : Type 0 where
  pub place : ℕ
  pub function : Func
  pub here : slice_get d.functions place ≡ Some function
  pub block : ℕ
  pub is : DialectBlock
  pub there : slice_get function.blocks block ≡ Some is

-- the given name that the context has of what defines a value, in whichever function it stands; empty where it has none
abbrev pub given_name : ContextData → Value → List ℕ
given_name c (Result r) = name_at c.ops r.0
given_name c (Argument b i) = []

-- a value of that name is used where it does not stand before, the blocks taken in the order of the export; one of
-- another function stands before nothing
pub record IsEarlyUse (c : ContextData) (d : DialectModule) (name : List ℕ) : Type 0 where
  pub block : HasBlockAt d
  pub place : ℕ
  pub op : DialectOp
  pub at : slice_get block.is.ops place ≡ Some op
  pub value : Value
  pub used : Contains (uses_of op) value
  pub order : List ℕ
  pub is_order : IsExportOrder block.function order
  pub early : ¬ StandsBeforeIn order block.function block.block place value
  pub named : name ≡ given_name c value

-- an edge of the module's, from a block
pub record HasEdge (d : DialectModule) : Type 0 where
  pub block : HasBlockAt d
  pub place : ℕ
  pub edge : Successor
  pub at : slice_get (edges_of block.is) place ≡ Some edge

-- the label that the context gives a block, empty where it gives none
abbrev pub label_of : ContextData → BlockRef → List ℕ
label_of c b = option_map_or (λ (x : BlockData). unwrap_or x.label []) (slice_get c.blocks b.0) []

-- an edge leads to no block of its function, but to one of that label
pub record LeadsOutside (c : ContextData) (d : DialectModule) (label : List ℕ) : Type 0 where
  pub edge : HasEdge d
  pub outside : All (λ (b : DialectBlock). ¬ (b.number ≡ edge.edge.block.0)) edge.block.function.blocks
  pub labelled : label ≡ label_of c edge.edge.block

-- an edge passes another number of values than its target has arguments
pub record IsMismatched (d : DialectModule) : Type 0 where
  pub edge : HasEdge d
  pub target : DialectBlock
  pub at : ℕ
  pub there : slice_get edge.block.function.blocks at ≡ Some target
  pub leads : target.number ≡ edge.edge.block.0
  pub differs : ¬ (length edge.edge.args ≡ length target.args)

-- two edges from the block at the place p of a function to that at the place t pass different values
pub record HasOtherEdge (d : DialectModule) (p t : ℕ) : Type 0 where
  pub edge : HasEdge d
  pub from : edge.block.block ≡ p
  pub target : DialectBlock
  pub there : slice_get edge.block.function.blocks t ≡ Some target
  pub leads : target.number ≡ edge.edge.block.0
  pub other_place : ℕ
  pub other : Successor
  pub at : slice_get (edges_of edge.block.is) other_place ≡ Some other
  pub same : other.block ≡ edge.edge.block
  pub differs : ¬ (other.args ≡ edge.edge.args)

-- why an export refuses a module whose data are d; want of memory needs no reason
abbrev pub IsCause : ContextData → DialectModule → ToLLVMErr → Type 0
IsCause c d (E.UndefinedValue name) = IsEarlyUse c d name
IsCause c d (E.UndefinedBlock label) = LeadsOutside c d label
IsCause c d E.NumBlockArgsNumPhisMismatch = IsMismatched d
IsCause c d (E.EdgeArgsDiffer p t) = HasOtherEdge d p t
IsCause c d E.NoMemory = Unit {0}

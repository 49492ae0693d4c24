-- A function on the way from the dialect to LLVM: what stands for its values, and what the module holds so far.
use Rattle.std.specs.Prelude.{◌≡◌, ◌<◌, ◌+◌, ℕ, suc, Bool, false, nat_eq, nat_lt, if◌then◌else◌, List, [], ◌++◌, Option, Some, None, All, IfSome, length, map, option_map, take, slice_get}
use Rattle.std.specs.List.{Contains, flat_map, filter_map}
use Rattle.support.specs.NumberMaps.{value_at}
use Rattle.kinds.specs.declared.rules.Gives.{Gives}
use Rattle.kinds.specs.Typing.{written_for}
use Rattle.llvm_core.specs.declared.numbers.LLVMInstRef.{LLVMInstRef}
use Rattle.llvm_core.specs.declared.numbers.LLVMType.{LLVMType}
use Rattle.llvm_core.specs.declared.numbers.LLVMBasicBlock.{LLVMBasicBlock}
use Rattle.llvm_core.specs.declared.types.ResultType.{ResultType}
use Rattle.llvm_core.specs.declared.code.LLVMInst.{LLVMInst}
use Rattle.llvm_core.specs.declared.code.LLVMValue.{LLVMValue}
use Rattle.llvm_core.specs.declared.code.LLVMValue.TheVariants as V
use Rattle.llvm_core.specs.Module.{Module}
use Rattle.llvm_core.specs.Sound.{IsModule}
use Rattle.llvm_core.specs.Parts.{IsPhi, HasValues, IsResultOver, result_type}
use Rattle.llvm_core.specs.Data as L
use Rattle.llvm_core.specs.Data.{Operand, Placed, trees_of, operand_of, instruction_of, result_tree, data_of, with_function, AllBlocks, AllPlaced}
use Rattle.dialect_types.specs.Trees.{TypeTree, structs_of, type_trees}
use Rattle.dialect_core.specs.declared.numbers.OpRef.{OpRef}
use Rattle.dialect_core.specs.declared.numbers.BlockRef.{BlockRef}
use Rattle.dialect_core.specs.declared.ops.Value.{Value}
use Rattle.dialect_core.specs.declared.ops.Value.TheVariants.{Result, Argument}
use Rattle.dialect_core.specs.declared.ops.Successor.{Successor}
use Rattle.dialect_core.specs.ContextData.{ContextData}
use Rattle.dialect_core.specs.Data.{DialectOp, DialectBlock, Func, op_at, block_in, func_in, value_type}
use Rattle.dialect_core.specs.Form.{IsFormFunc, IsRuled, uses_of, is_constant}
use Rattle.meaning.specs.Pairs.{Matched}
use Rattle.meaning.specs.Dialect.{option_type}
use Rattle.to_llvm_ir.specs.declared.values.Values.{Values}
use Rattle.to_llvm_ir.specs.declared.blocks.Blocks.{Blocks}
use Rattle.to_llvm_ir.specs.declared.blocks.Target.{Target}
use Rattle.to_llvm_ir.specs.RunMaps.{looked_up}
use Rattle.to_llvm_ir.specs.Order.{IsTaken, StandsBeforeIn, arranged, turn_of}
use Rattle.to_llvm_ir.specs.Exported.{result, arguments_of, phi_values}
use Rattle.to_llvm_ir.specs.Made.{Numbers, result_values, values_by, operand_for, block_for, instruction_for, insts, block_phis, block_made, blocks_made, blocks_with, function_with, no_entries, number_past, number_behind}
use Rattle.to_llvm_ir.specs.Accepted.{IsAcceptedOp}
use Rattle.to_llvm_ir.specs.Growth.{HasType}

-- ---- values that are known

-- what stands for a value, where it is known
abbrev pub found : Values → Value → Option LLVMValue
found values v = looked_up values.stands v

-- the value is one of the list
abbrev pub Has : List Value → Value → Type 0
Has vs v = (i : ℕ) × (slice_get vs i ≡ Some v)

abbrev pub IsArgument : Value → Type 0
IsArgument (Argument b i) = Unit {0}
IsArgument (Result r) = ⊥

-- a value of LLVM of that type stands for the value; for an argument that is an instruction, a phi
pub record IsKnown (g : Func) (n : Numbers) (values : Values) (m : Module) (v : Value) (type : TypeTree) : Type 0 where
  pub value : LLVMValue
  pub found : found values v ≡ Some value
  pub typed : HasType m value type
  pub stands : operand_of (trees_of m) value ≡ operand_for g n v
  pub phi : (i : LLVMInstRef) → value ≡ V.Inst i → IsArgument v → IsPhi m.insts i

-- the values of a list, and no others, are known
pub record AreKnown (g : Func) (n : Numbers) (seen : List Value) (values : Values) (m : Module) : Type 0 where
  pub known : (v : Value) (type : TypeTree) → Has seen v → value_type g v ≡ Some type → IsKnown g n values m v type
  pub only : (v : Value) (x : LLVMValue) → found values v ≡ Some x → Has seen v

-- the values of a block, those of constants and of operations without a result too
abbrev pub all_values : DialectBlock → List Value
all_values c = arguments_of c ++ map result c.ops

-- the values of the blocks before a place
abbrev pub seen_before : Func → ℕ → List Value
seen_before g j = flat_map all_values (take j g.blocks)

-- ---- a function that is exported

-- the function, its numbers, and the module before
pub record Task : Type 0 where
  pub source : Func
  pub numbers : Numbers
  pub before : L.ModuleData

-- the function of the context is of the form, the order is that of an export, and the numbers of the module before are
-- below its own; its constants keep the rules by the structs of the context, which are those of the module
pub record IsTask (c : ContextData) (t : Task) : Type 0 where
  pub op : OpRef
  pub held : func_in (type_trees c.types) c op ≡ Some t.source
  pub form : IsFormFunc t.source
  pub ruled : IsRuled (structs_of c.types) t.source
  pub structs : t.before.structs ≡ structs_of c.types
  pub order : IsTaken t.source t.numbers.order
  pub functions : All (λ (f : L.Function). f.number < t.numbers.function) t.before.functions
  pub blocks : AllBlocks (λ (b : L.Block). b.number < t.numbers.block) t.before
  pub insts : AllPlaced (λ (p : Placed). p.number < t.numbers.inst) t.before

-- the function has those blocks so far; so many values became instructions, so many are known, and the next has the number k
pub record IsState (t : Task) (blocks : List L.Block) (made seen : List Value) (k : ℕ) (values : Values) (m : Module) : Type 0 where
  pub is : data_of m ≡ with_function t.before (function_with t.source t.numbers blocks)
  pub sound : IsModule m
  pub block_count : length m.blocks ≡ t.numbers.block + length t.source.blocks
  pub inst_count : length m.insts ≡ t.numbers.inst + length made
  pub next : values.next ≡ k
  pub known : AreKnown t.source t.numbers seen values m

-- the number of the first value of the block at a place
abbrev pub first_at : Func → ℕ → ℕ
first_at g j = number_past 0 (take j g.blocks)

-- where the order names the block at a place
abbrev pub turn : Task → ℕ → ℕ
turn t p = turn_of t.numbers.order p

-- the values of the first k blocks of the order, those of constants and of operations without a result too
abbrev pub seen_to : Task → ℕ → List Value
seen_to t k = seen_before (arranged t.numbers.order t.source) k

-- those that became instructions
abbrev pub values_to : Task → ℕ → List Value
values_to t k = values_by (take k t.numbers.order) t.source

-- what the block at a place becomes, without entries
abbrev pub filled : Task → ℕ → DialectBlock → List Placed
filled t p c = (block_made t.source t.numbers no_entries p (first_at t.source p) c).instructions

-- the instructions of the block at a place, where the first k blocks of the order are done
abbrev pub filled_to : Task → ℕ → ℕ → DialectBlock → List Placed
filled_to t k p c = if nat_lt (turn t p) k then filled t p c else []

-- the first k blocks of the order are done, and the others are empty
abbrev pub blocks_before : Task → ℕ → List L.Block
blocks_before t k = blocks_with t.source t.numbers (filled_to t k) 0 t.source.blocks

abbrev pub IsBetween : Task → ℕ → Values → Module → Type 0
IsBetween t k values m = IsState t (blocks_before t k) (values_to t k) (seen_to t k) values.next values m

-- the block at a place has those instructions, those before it in the order are done, and the others are empty
abbrev pub blocks_within : Task → ℕ → List Placed → List L.Block
blocks_within t j ps = blocks_with t.source t.numbers (λ p c. if nat_eq p j then ps else filled_to t (turn t j) p c) 0 t.source.blocks

-- the block with its first arguments
abbrev pub upto : ℕ → DialectBlock → DialectBlock
upto i c = record c { args = take i c.args }

-- the first i arguments of the block at the place j are done
abbrev pub IsAtArgument : Task → (j : ℕ) → DialectBlock → (i : ℕ) → Values → Module → Type 0
IsAtArgument t j c i values m = IsState t
    (blocks_within t j (block_phis t.source t.numbers no_entries j (first_at t.source j) (upto i c)))
    (values_to t (turn t j) ++ phi_values j (upto i c))
    (seen_to t (turn t j) ++ arguments_of (upto i c))
    (first_at t.source j + i)
    values
    m

-- the first i operations of the block at the place j are done
abbrev pub IsAtOp : Task → (j : ℕ) → DialectBlock → (i : ℕ) → Values → Module → Type 0
IsAtOp t j c i values m = IsState t
    (blocks_within t j (block_phis t.source t.numbers no_entries j (first_at t.source j) c ++ insts t.source t.numbers (first_at t.source j + length c.args) (take i c.ops)))
    (values_to t (turn t j) ++ (phi_values j c ++ result_values (take i c.ops)))
    (seen_to t (turn t j) ++ (arguments_of c ++ map result (take i c.ops)))
    (number_behind (first_at t.source j + length c.args) (take i c.ops))
    values
    m

-- all blocks are done, and the phis have those entries
abbrev pub IsLinking : Task → (Value → List (Operand × ℕ)) → Values → Module → Type 0
IsLinking t given known m =
    IsState t (blocks_made t.source t.numbers given 0 0 t.source.blocks) (values_by t.numbers.order t.source) (flat_map all_values t.source.blocks) known.next known m

-- ---- blocks by their numbers

abbrev pub same_block : BlockRef → BlockRef → Bool
same_block b c = nat_eq b.0 c.0

-- what a block became, where it is known
abbrev pub found_block : Blocks → BlockRef → Option Target
found_block blocks b = value_at blocks.targets b.0

-- the block of that number is one of the first i of the function, and x says where it stands
pub record IsTargetOf (g : Func) (n : Numbers) (i : ℕ) (b : BlockRef) (x : Target) : Type 0 where
  pub place : ℕ
  pub early : place < i
  pub block : DialectBlock
  pub here : slice_get g.blocks place ≡ Some block
  pub number : block.number ≡ b.0
  pub place_is : x.place ≡ place
  pub block_is : x.block.0 ≡ n.block + place

-- the first i blocks, and no others, are known
pub record AreMapped (g : Func) (n : Numbers) (i : ℕ) (blocks : Blocks) : Type 0 where
  pub there : (j : ℕ) (c : DialectBlock) → j < i → slice_get g.blocks j ≡ Some c → (x : Target) × (found_block blocks (record { 0 = c.number }) ≡ Some x)
  pub only : (b : BlockRef) (x : Target) → found_block blocks b ≡ Some x → IsTargetOf g n i b x

-- ---- where an export stands

-- an operation of a block
pub record Spot : Type 0 where
  pub task : Task
  pub place : ℕ
  pub block : DialectBlock
  pub at : ℕ
  pub op : DialectOp

-- it is that of a number in the context
pub record IsSpot (c : ContextData) (op : OpRef) (s : Spot) : Type 0 where
  pub task : IsTask c s.task
  pub is : op_at (type_trees c.types) c.ops op ≡ Some s.op
  pub here : slice_get s.task.source.blocks s.place ≡ Some s.block
  pub there : slice_get s.block.ops s.at ≡ Some s.op

abbrev pub IsAtSpot : Spot → Values → Module → Type 0
IsAtSpot s values m = IsAtOp s.task s.place s.block s.at values m

-- the spot behind
abbrev pub IsBehindSpot : Spot → Values → Module → Type 0
IsBehindSpot s values m = IsAtOp s.task s.place s.block (suc s.at) values m

-- the operation of that number is next
pub record IsNext (c : ContextData) (op : OpRef) (s : Spot) (values : Values) (m : Module) : Type 0 where
  pub spot : IsSpot c op s
  pub state : IsAtSpot s values m

-- all blocks of the function are known
abbrev pub AreAllMapped : Task → Blocks → Type 0
AreAllMapped t blocks = AreMapped t.source t.numbers (length t.source.blocks) blocks

-- a value of that type that the operation there uses
pub record IsUsed (s : Spot) (v : Value) (type : TypeTree) : Type 0 where
  pub among : Contains (uses_of s.op) v
  pub typed : value_type s.task.source v ≡ Some type

-- what was found for it
pub record IsUse (s : Spot) (m : Module) (v : Value) (type : TypeTree) (x : LLVMValue) : Type 0 where
  pub typed : HasType m x type
  pub stands : operand_of (trees_of m) x ≡ operand_for s.task.source s.task.numbers v
  pub before : StandsBeforeIn s.task.numbers.order s.task.source s.place s.at v

-- what was found for a value that has a type
pub record IsUseOf (s : Spot) (m : Module) (v : Value) (x : LLVMValue) : Type 0 where
  pub type : TypeTree
  pub is : value_type s.task.source v ≡ Some type
  pub used : IsUse s m v type x

-- what was found for values, one by one
abbrev pub AreUses : Spot → Module → List Value → List LLVMValue → Type 0
AreUses s m vs xs = Matched (IsUseOf s m) vs xs

-- the block that an edge of the operation there leads to
pub record IsLead (s : Spot) (m : Module) (e : Successor) (b : LLVMBasicBlock) : Type 0 where
  pub is : b.0 ≡ block_for s.task.source s.task.numbers e.block.0
  pub there : b.0 < length m.blocks
  pub before : All (StandsBeforeIn s.task.numbers.order s.task.source s.place s.at) e.args

-- the type that a row writes, where its result has the type: its number is there, and has that tree
pub record IsWritten (m : Module) (gives : Gives) (own : Option TypeTree) (written : Option LLVMType) : Type 0 where
  pub there : IfSome written (λ (t : LLVMType). t.0 < length m.types)
  pub is : option_map (L.type_at (trees_of m).types) written ≡ written_for gives own

-- the instruction that the operation there becomes
pub record IsMade (s : Spot) (m : Module) (inst : LLVMInst) : Type 0 where
  pub values : HasValues m inst
  pub is : instruction_of (trees_of m) inst ≡ instruction_for s.task.source s.task.numbers s.op.kind s.op.result s.op.operands s.op.successors
  pub type : result_tree m inst ≡ option_type s.op.result
  pub void : result_type m inst ≡ None → s.op.result ≡ None
  pub within : (t : ResultType) → result_type m inst ≡ Some t → IsResultOver m.types t
  pub uses : All (StandsBeforeIn s.task.numbers.order s.task.source s.place s.at) (uses_of s.op)
  pub other : is_constant s.op ≡ false

-- the operations of a block, by their numbers
pub record IsListed (c : ContextData) (t : Task) (j : ℕ) (block : DialectBlock) (ops : List OpRef) : Type 0 where
  pub task : IsTask c t
  pub here : slice_get t.source.blocks j ≡ Some block
  pub are : filter_map (op_at (type_trees c.types) c.ops) ops ≡ block.ops

-- none of the operations is done yet, and the block is that at its place
pub record IsBegun (c : ContextData) (t : Task) (j : ℕ) (block : DialectBlock) (ops : List OpRef) (blocks : Blocks) (target : LLVMBasicBlock) (values : Values) (m : Module) : Type 0 where
  pub listed : IsListed c t j block ops
  pub mapped : AreAllMapped t blocks
  pub here : target.0 ≡ t.numbers.block + j
  pub state : IsAtOp t j block 0 values m

-- a block of the function, by its number
pub record IsBlockAt (c : ContextData) (t : Task) (j : ℕ) (block : DialectBlock) (b : BlockRef) : Type 0 where
  pub task : IsTask c t
  pub here : slice_get t.source.blocks j ≡ Some block
  pub is : block_in (type_trees c.types) c b ≡ Some block

-- the first i operations are done, and are not refused
pub record AreDone (t : Task) (j : ℕ) (c : DialectBlock) (i : ℕ) (values : Values) (m : Module) : Type 0 where
  pub state : IsAtOp t j c i values m
  pub accepted : (k : ℕ) (o : DialectOp) → k < i → slice_get c.ops k ≡ Some o → IsAcceptedOp t.numbers.order t.source j k o

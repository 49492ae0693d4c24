-- A function under construction: its constants are hoisted, then its blocks are filled, one by one.
use Rattle.std.specs.Prelude.{ℕ, ◌≡◌, ◌<◌, ◌+◌, ◌++◌, not, List, [], ◌∷◌, Some, All, filter, length, take, slice_get}
use Rattle.std.specs.List.{flat_map}
use Rattle.llvm_core.specs.declared.numbers.LLVMBasicBlock.{LLVMBasicBlock}
use Rattle.llvm_core.specs.declared.numbers.LLVMFunction.{LLVMFunction}
use Rattle.llvm_core.specs.declared.numbers.LLVMInstRef.{LLVMInstRef}
use Rattle.llvm_core.specs.Module.{Module}
use Rattle.llvm_core.specs.Data as L
use Rattle.llvm_core.specs.Data.{ConstTree, Placed, data_of}
use Rattle.llvm_core.specs.Form.{is_phi}
use Rattle.dialect_types.specs.Names.{IsIdentifier}
use Rattle.dialect_types.specs.Legalised.{Gave}
use Rattle.dialect_core.specs.declared.numbers.BlockRef.{BlockRef}
use Rattle.dialect_core.specs.declared.ops.Value.{Value}
use Rattle.dialect_core.specs.declared.numbers.FuncOp.{FuncOp}
use Rattle.dialect_core.specs.declared.ops.OpKind.TheVariants as K
use Rattle.dialect_core.specs.ContextData.{ContextData, kind_at}
use Rattle.dialect_core.specs.Data.{DialectBlock, DialectOp, with_func}
use Rattle.meaning.specs.Pairs.{Matched}
use Rattle.from_consts.specs.declared.conversion_err.ConversionErr.{ConversionErr}
use Rattle.from_consts.specs.declared.conversion_err.ConversionErr.TheVariants as E
use Rattle.from_llvm_ir.specs.declared.values.Values.{Values}
use Rattle.from_llvm_ir.specs.declared.entries.Entries.{Entries}
use Rattle.from_llvm_ir.specs.Match.{IsPlaces}
use Rattle.dialect_types.specs.Trees.{structs_of}
use Rattle.from_llvm_ir.specs.Types.{IsReadyFor}
use Rattle.from_llvm_ir.specs.Values.{Targets, target_at}
use Rattle.from_llvm_ir.specs.Imported.{constants_in, rest_of, front_for, kept_name, IsBuilding, IsBelow, IsRefused}
use Rattle.from_llvm_ir.specs.Building.{IsUnder, AreBare, bare_func, with_blocks, with_ops}
use Rattle.from_llvm_ir.specs.Source.{IsSource, IsBlockOf, IsInstOf, AreEntries}
use Rattle.from_llvm_ir.specs.Known.{Frame, blocks_of, knows, IsKnown}
use Rattle.from_llvm_ir.specs.Converted.{AreHeads, IsRow, HasPhis, HasOrder, AreConverted, AreFrom}

-- ---- what stays

-- each block in the order leads to that at its place
abbrev pub AreTargets : Frame → Targets → Type 0
AreTargets fr t = (place : ℕ) (b : L.Block) → slice_get (blocks_of fr) place ≡ Some b → target_at t (record { 0 = b.number }) ≡ Some (record { 0 = fr.base + place })

-- the frame is that of the function of the number f
pub record IsFramed (m : Module) (f : LLVMFunction) (fr : Frame) : Type 0 where
  pub source : IsSource m f fr.source
  pub number : fr.source.number ≡ f.0
  pub order : IsPlaces (length fr.source.blocks) fr.order
  -- each struct that the type of a value names is there
  pub ready : IsReadyFor fr.source fr.home.structs
  pub func : (n : ℕ) × (name : List ℕ) × (fr.home.func ≡ bare_func n name (kept_name fr.source.name name) fr.source.type) × IsIdentifier name × Gave fr.given fr.source.name name

-- the constants that an instruction uses, if it is no phi
abbrev pub uses_of_inst : L.ModuleData → L.Function → L.Block → Placed → List ConstTree
uses_of_inst d g b p = flat_map (constants_in d g b) (filter (λ (q : Placed). not (is_phi q)) (p ∷ []))

-- the constants that the function uses
abbrev pub all_uses : Module → Frame → List ConstTree
all_uses m fr = flat_map (λ (b : L.Block). flat_map (constants_in (data_of m) fr.source b) (rest_of b)) (blocks_of fr)

-- ---- blocks that are added

-- the operation of the number n is a function, and has the first blocks in order, without operations
pub record HasHeads (fr : Frame) (func : FuncOp) (c : ContextData) (j : ℕ) : Type 0 where
  pub heads : List DialectBlock
  pub above : fr.home.body.0 < fr.base
  pub building : IsBuilding c fr.home.m fr.home.body (with_func fr.home.before (with_blocks fr.home heads))
  pub kind : kind_at c.ops func.0 ≡ Some K.Func
  pub number : fr.home.func.number ≡ func.0.0
  pub before : All (IsBelow func.0.0 fr.base) fr.home.before.functions
  pub count : length heads ≡ j
  pub blocks : length c.blocks ≡ fr.base + j
  pub are : AreHeads fr heads
  pub bare : AreBare heads
  pub structs : structs_of c.types ≡ fr.home.structs

-- ---- what is hoisted

-- the blocks are there, and hold nothing but constants at the start of the first
pub record IsHoisting (fr : Frame) (m : Module) (c : ContextData) (values : Values) (uses : List ConstTree) : Type 0 where
  pub constants : List ConstTree
  pub hoisted : List DialectOp
  pub entry : DialectBlock
  pub more : List DialectBlock
  pub under : IsUnder fr.home fr.base c (with_ops entry hoisted ∷ more)
  pub heads : AreHeads fr (entry ∷ more)
  pub bare : AreBare more
  pub count : length (entry ∷ more) ≡ length (blocks_of fr)
  pub known : IsKnown m values uses (knows fr constants hoisted [] []) (length c.ops) fr.base 0

-- ---- blocks that are filled

-- the instructions of the first blocks
abbrev pub insts_before : Frame → ℕ → List Placed
insts_before fr j = flat_map (λ (b : L.Block). b.instructions) (take j (blocks_of fr))

-- the first j blocks are filled
pub record IsFilled (fr : Frame) (m : Module) (c : ContextData) (values : Values) (j : ℕ) : Type 0 where
  pub constants : List ConstTree
  pub hoisted : List DialectOp
  pub done : List Value
  pub left : List DialectBlock
  pub right : List DialectBlock
  pub under : IsUnder fr.home fr.base c (left ++ right)
  pub at : length left ≡ j
  pub count : length (left ++ right) ≡ length (blocks_of fr)
  pub converted : AreConverted (knows fr constants hoisted (insts_before fr j) done) left
  pub heads : AreHeads fr (left ++ right)
  pub bare : (i : ℕ) (x : DialectBlock) → slice_get right i ≡ Some x → x.ops ≡ front_for (j + i) hoisted
  pub known : IsKnown m values (all_uses m fr) (knows fr constants hoisted (insts_before fr j) done) (length c.ops) (fr.base + j) 0
  pub from : AreFrom (knows fr constants hoisted (insts_before fr j) done) left

-- and of the block b behind them the first instructions were imported
pub record IsBody (fr : Frame) (m : Module) (c : ContextData) (values : Values) (j x : ℕ) (b : L.Block) : Type 0 where
  pub constants : List ConstTree
  pub hoisted : List DialectOp
  pub done : List Value
  pub left : List DialectBlock
  pub now : DialectBlock
  pub rest : List DialectOp
  pub right : List DialectBlock
  pub source : slice_get (blocks_of fr) j ≡ Some b
  pub under : IsUnder fr.home fr.base c (left ++ with_ops now (front_for j hoisted ++ rest) ∷ right)
  pub at : length left ≡ j
  pub count : length (left ++ now ∷ right) ≡ length (blocks_of fr)
  pub converted : AreConverted (knows fr constants hoisted (insts_before fr j ++ take x b.instructions) done) left
  pub heads : AreHeads fr (left ++ now ∷ right)
  pub bare : AreBare right
  pub known : IsKnown m values (all_uses m fr) (knows fr constants hoisted (insts_before fr j ++ take x b.instructions) done) (length c.ops) (fr.base + j) (length (filter is_phi (take x b.instructions)))
  pub from : AreFrom (knows fr constants hoisted (insts_before fr j ++ take x b.instructions) done) (left ++ with_ops now (front_for j hoisted ++ rest) ∷ [])
  pub rows : Matched (IsRow (knows fr constants hoisted (insts_before fr j ++ take x b.instructions) done) b) (filter (λ (p : Placed). not (is_phi p)) (take x b.instructions)) rest
  pub phis : HasPhis (knows fr constants hoisted (insts_before fr j ++ take x b.instructions) done) (fr.base + j) (filter is_phi (take x b.instructions))
  pub in_order : HasOrder left (with_ops now (front_for j hoisted ++ rest))

-- ---- the next instruction

-- the instruction p of the number i stands at the place x of the block b, which is that of the number `from` and
-- stands at the place j of the order, and comes next
pub record IsAt (fr : Frame) (m : Module) (f : LLVMFunction) (targets : Targets) (entries : Entries) (c : ContextData) (values : Values) (from : LLVMBasicBlock) (block : BlockRef) (i : LLVMInstRef) (j x : ℕ) (b : L.Block) (p : Placed) : Type 0 where
  pub framed : IsFramed m f fr
  pub leads : AreTargets fr targets
  pub noted : AreEntries m fr.source entries
  pub place : ℕ
  pub of_block : IsBlockOf m fr.source from place b
  pub number : block.0 ≡ fr.base + j
  pub inst : IsInstOf m b i x p
  pub body : IsBody fr m c values j x b

-- the block b of the number `from` stands at the place j of the order, and comes next
pub record IsBegun (fr : Frame) (m : Module) (f : LLVMFunction) (targets : Targets) (entries : Entries) (c : ContextData) (values : Values) (from : LLVMBasicBlock) (block : BlockRef) (j : ℕ) (b : L.Block) : Type 0 where
  pub framed : IsFramed m f fr
  pub leads : AreTargets fr targets
  pub noted : AreEntries m fr.source entries
  pub place : ℕ
  pub of_block : IsBlockOf m fr.source from place b
  pub number : block.0 ≡ fr.base + j
  pub here : slice_get (blocks_of fr) j ≡ Some b
  pub filled : IsFilled fr m c values j

-- ---- refusals

-- why an import stops in a function whose blocks have these places
abbrev pub IsLate : L.Function → (places : List ℕ) → ConversionErr → Type 0
IsLate g places (E.UndefinedValue name v) = IsRefused g places name v
IsLate g places (E.IntConstTooWide width) = ⊥
IsLate g places (E.Unsupported u) = ⊥
IsLate g places (E.Struct s) = ⊥
IsLate g places E.NoMemory = Unit {0}

-- What the numbers of a source function stand for in its data, and what its phis take.
use Rattle.std.specs.Prelude.{ℕ, ◌≡◌, ◌<◌, ◌≤◌, ◌++◌, ◌⊎◌, nat_eq, List, Option, Some, None, length, slice_get}
use Rattle.std.specs.Option.{option_map, option_map_or}
use Rattle.std.specs.List.{find, flat_map}
use Rattle.std.specs.HashMap.{get}
use Rattle.llvm_core.specs.declared.numbers.LLVMFunction.{LLVMFunction}
use Rattle.llvm_core.specs.declared.numbers.LLVMBasicBlock.{LLVMBasicBlock}
use Rattle.llvm_core.specs.declared.numbers.LLVMInstRef.{LLVMInstRef}
use Rattle.llvm_core.specs.declared.code.LLVMValue.{LLVMValue}
use Rattle.llvm_core.specs.declared.code.LLVMInst.{LLVMInst}
use Rattle.llvm_core.specs.declared.code.LLVMInst.TheVariants as I
use Rattle.llvm_core.specs.declared.code.PhiEntry.{PhiEntry}
use Rattle.llvm_core.specs.declared.code.BlockData.{BlockData}
use Rattle.llvm_core.specs.declared.code.InstData.{InstData}
use Rattle.llvm_core.specs.Module.{Module}
use Rattle.llvm_core.specs.Sound.{IsModule}
use Rattle.llvm_core.specs.Parts.{IsValue}
use Rattle.llvm_core.specs.Data as L
use Rattle.llvm_core.specs.Data.{Placed, trees_of, type_at, operand_of, placed_in, placed_of, block_of, AreApart, data_of}
use Rattle.llvm_core.specs.Form.{IsFormFunction, IsHeldFunction, IsOperand, edges_between, operands_of}
use Rattle.kinds.specs.Held.{IsHeldResult}
use Rattle.meaning.specs.Llvm.{used}
use Rattle.from_llvm_ir.specs.declared.entries.Entries.{Entries}
use Rattle.from_llvm_ir.specs.contracts.entries.EntryPartialEq.TheImpl as keys
use Rattle.from_llvm_ir.specs.Imported.{passed}

-- the function of that number is g, of the form, and it is held
pub record IsSource (m : Module) (f : LLVMFunction) (g : L.Function) : Type 0 where
  pub sound : IsModule m
  pub apart : AreApart m
  pub at : slice_get (data_of m).functions f.0 ≡ Some g
  pub form : IsFormFunction g
  pub held : IsHeldFunction g

-- the block of that number stands at a place of g, and is b
pub record IsBlockOf (m : Module) (g : L.Function) (n : LLVMBasicBlock) (place : ℕ) (b : L.Block) : Type 0 where
  pub at : slice_get g.blocks place ≡ Some b
  pub row : BlockData
  pub here : slice_get m.blocks n.0 ≡ Some row
  pub is : b ≡ block_of (trees_of m) m.insts n row

-- the instruction of that number stands at a place of the block b, and is p
pub record IsInstOf (m : Module) (b : L.Block) (i : LLVMInstRef) (place : ℕ) (p : Placed) : Type 0 where
  pub at : slice_get b.instructions place ≡ Some p
  pub row : InstData
  pub here : slice_get m.insts i.0 ≡ Some row
  pub is : p ≡ placed_of (trees_of m) i row

-- t is the type of the instruction of that number, one that is translated or void
pub record IsTypeOf (m : Module) (i : LLVMInstRef) (t : L.TypeTree) : Type 0 where
  pub sound : IsModule m
  pub row : InstData
  pub here : slice_get m.insts i.0 ≡ Some row
  pub is : t ≡ type_at (trees_of m).types row.ty
  pub held : IsHeldResult t

-- the numbers name the blocks of g, in order
pub record AreBlocksOf (m : Module) (g : L.Function) (ns : List LLVMBasicBlock) : Type 0 where
  pub long : length ns ≡ length g.blocks
  pub each : (place : ℕ) (n : LLVMBasicBlock) → slice_get ns place ≡ Some n → (b : L.Block) × IsBlockOf m g n place b

-- the numbers name the instructions of b, in order
pub record AreInstsOf (m : Module) (b : L.Block) (is : List LLVMInstRef) : Type 0 where
  pub long : length is ≡ length b.instructions
  pub each : (place : ℕ) (i : LLVMInstRef) → slice_get is place ≡ Some i → (p : Placed) × IsInstOf m b i place p

-- ---- what phis take

-- the value of the first entry for a block
abbrev pub first_value : LLVMBasicBlock → List PhiEntry → Option LLVMValue
first_value from entries = option_map (λ (e : PhiEntry). e.value) (find (λ (e : PhiEntry). nat_eq e.block.0 from.0) entries)

-- the value that an instruction takes for a block: that of a phi's first entry for it
abbrev pub taken_by : LLVMBasicBlock → LLVMInst → Option LLVMValue
taken_by from (I.Phi type entries) = first_value from entries
taken_by from (I.Row r) = None

abbrev pub taken : Module → LLVMInstRef → LLVMBasicBlock → Option LLVMValue
taken m phi from = option_map_or (λ (x : InstData). taken_by from x.inst) (slice_get m.insts phi.0) None

-- what was noted of a phi and a block
abbrev pub entry_at : Entries → LLVMInstRef → LLVMBasicBlock → Option LLVMValue
entry_at e phi from = get keys.eq-value.it e.map (record { phi = phi; from = from })

-- what was noted is right
abbrev pub AreRight : Module → Entries → Type 0
AreRight m e = (phi : LLVMInstRef) (from : LLVMBasicBlock) → (entry_at e phi from ≡ taken m phi from) ⊎ (entry_at e phi from ≡ None)

-- what an instruction takes is found in it, entry by entry: it is no phi with more than a few entries
abbrev pub HasFew : LLVMInst → Type 0
HasFew (I.Phi type entries) = length entries ≤ 8
HasFew (I.Row r) = Unit {0}

-- what an instruction takes was noted, unless it is found in it
abbrev pub IsNotedOf : Module → Entries → LLVMInstRef → Type 0
IsNotedOf m e phi = (x : InstData) → slice_get m.insts phi.0 ≡ Some x → ¬ HasFew x.inst → (from : LLVMBasicBlock) → entry_at e phi from ≡ taken m phi from

-- what phis take that is not found in them was noted
pub record AreEntries (m : Module) (g : L.Function) (e : Entries) : Type 0 where
  pub each : (n : LLVMBasicBlock) (place : ℕ) (b : L.Block) (i : LLVMInstRef) (at : ℕ) (p : Placed) → IsBlockOf m g n place b → IsInstOf m b i at p → IsNotedOf m e i

-- ---- operands

-- an edge leads from the one block to the other, which stands in g
pub record LeadsTo (m : Module) (f : LLVMFunction) (g : L.Function) (entries : Entries) (from to : LLVMBasicBlock) : Type 0 where
  pub source : IsSource m f g
  pub noted : AreEntries m g entries
  pub place : ℕ
  pub block : L.Block
  pub is : IsBlockOf m g to place block
  pub edge : 0 < edges_between g from.0 to.0

-- p is the instruction of the number i in the block b of g, which is that of the number `from`
pub record IsSite (m : Module) (f : LLVMFunction) (g : L.Function) (entries : Entries) (from : LLVMBasicBlock) (i : LLVMInstRef) (b : L.Block) (p : Placed) : Type 0 where
  pub source : IsSource m f g
  pub noted : AreEntries m g entries
  pub place : ℕ
  pub of_block : IsBlockOf m g from place b
  pub at : ℕ
  pub inst : IsInstOf m b i at p

-- the operands of an instruction of the block b, and what its edges pass
abbrev pub used_by : L.Function → L.Block → Placed → List L.Operand
used_by g b p = used p.instruction ++ flat_map (passed g b.number) (L.targets p.instruction)

-- an operand of some type
abbrev pub IsUsable : L.Function → L.Operand → Type 0
IsUsable g o = (type : L.TypeTree) × IsOperand g type o

-- it is an operand of an instruction of g
pub record IsListed (g : L.Function) (o : L.Operand) : Type 0 where
  pub index : ℕ
  pub user : Placed
  pub there : slice_get (placed_in g) index ≡ Some user
  pub place : ℕ
  pub here : slice_get (operands_of user.instruction) place ≡ Some o

-- the value is there, and stands for an operand of an instruction of g
pub record IsUsed (m : Module) (g : L.Function) (v : LLVMValue) : Type 0 where
  pub valid : IsValue m v
  pub usable : IsUsable g (operand_of (trees_of m) v)
  pub listed : IsListed g (operand_of (trees_of m) v)

-- What the body of a function of LLVM is made of.
use Rattle.std.specs.Prelude.{◌≡◌, ℕ, false, List, [], Option, Some, None, map, filter, slice_get, nat_eq}
use Rattle.indexmap.specs.IndexMap.{get}
use Rattle.std.specs.List.{filter_map, position_or_len}
use Rattle.std.specs.Option.{option_map, option_map_or}
use Rattle.llvm_core.specs.declared.numbers.LLVMConst.{LLVMConst}
use Rattle.llvm_core.specs.declared.numbers.LLVMInstRef.{LLVMInstRef}
use Rattle.llvm_core.specs.declared.numbers.LLVMBasicBlock.{LLVMBasicBlock}
use Rattle.llvm_core.specs.declared.code.LLVMValue.{LLVMValue}
use Rattle.llvm_core.specs.declared.code.FunctionData.{FunctionData}
use Rattle.llvm_core.specs.declared.code.InstData.{InstData}
use Rattle.llvm_core.specs.declared.code.LLVMInst.TheVariants as I
use Rattle.llvm_core.specs.declared.code.Row.{Row}
use Rattle.llvm_core.specs.Module.{Module}
use Rattle.llvm_core.specs.Sound.{IsModule}
use Rattle.llvm_core.specs.Parts.{IsValue}
use Rattle.llvm_core.specs.Data as L
use Rattle.llvm_core.specs.Data.{Placed, Function, trees_of, function_of, block_at, placed_at, operand_of, operand_type, phi_entries, data_of, const_at}
use Rattle.llvm_core.specs.Checked.{IsChecked, home, is_outside}
use Rattle.llvm_core.specs.Form.{is_phi}
use Rattle.meaning.specs.Terms.{Term}
use Rattle.meaning.specs.Machine as M
use Rattle.meaning.specs.Llvm.{Key, ParamKey, ResultKey, setting_of, operand, row, entry_for, const_term}
use Rattle.meaning.specs.Setting.{Setting}
use Rattle.meaning.specs.Pairs.{Matched}
use Rattle.tracing.specs.declared.body.Slot.{Slot}
use Rattle.tracing.specs.declared.body.Slot.TheVariants.{Input, Result}
use Rattle.tracing.specs.declared.body.Source.{Source}
use Rattle.tracing.specs.declared.body.Edge.{Edge}
use Rattle.tracing.specs.declared.llvm_index.Phi.{Phi}
use Rattle.tracing.specs.declared.llvm_index.Index.{Index}
use Rattle.tracing.specs.Contents.{Contents, Lasts}
use Rattle.tracing.specs.Tables.{Origin}
use Rattle.tracing.specs.Bodies.{HandsOver}
use Rattle.tracing.specs.Renamed.{renamed, renamed_row}

abbrev pub slot_of : Key → Slot
slot_of (ParamKey f i) = Input f i
slot_of (ResultKey n) = Result n

-- a function of a checked module
pub record InChecked (m : Module) : Type 0 where
  pub number : ℕ
  pub function : FunctionData
  pub sound : IsModule m
  pub checked : IsChecked m
  pub at : slice_get m.functions number ≡ Some function

-- its data
abbrev pub data_in : (m : Module) → InChecked m → Function
data_in m h = function_of (trees_of m) m.blocks m.insts (h.number, h.function)

-- what it tells its bodies
abbrev pub setting_in : Module → Setting
setting_in m = setting_of (data_of m)

-- the term of a constant
abbrev pub term_in : Module → LLVMConst → Term
term_in m c = const_term (setting_in m) (const_at (trees_of m).consts c)

-- what its bodies are made from
abbrev pub origin_in : Module → Origin
origin_in m = record { types = (trees_of m).types; term = λ (q : ℕ). term_in m (record { 0 = q }) }

abbrev pub operand_in : Module → LLVMValue → M.Operand Slot
operand_in m v = renamed slot_of (operand (setting_in m) (operand_of (trees_of m) v))

-- the value is one of the function
pub record IsUsed (m : Module) (h : InChecked m) (v : LLVMValue) : Type 0 where
  pub here : IsValue m v
  pub inside : is_outside m (record { 0 = h.number }) v ≡ false

-- the instruction i is p, of the block of the number b and of the function
pub record IsPlacedIn (m : Module) (h : InChecked m) (b : ℕ) (i : LLVMInstRef) (p : Placed) : Type 0 where
  pub here : placed_at (trees_of m) m.insts i ≡ Some p
  pub owned : (x : InstData) → slice_get m.insts i.0 ≡ Some x → (x.block.0 ≡ b) × (home m x ≡ record { 0 = h.number })

-- and it is of that row
pub record IsRowIn (m : Module) (h : InChecked m) (b : ℕ) (i : LLVMInstRef) (p : Placed) (r : Row) : Type 0 where
  pub placed : IsPlacedIn m h b i p
  pub is : option_map (λ (x : InstData). x.inst) (slice_get m.insts i.0) ≡ Some (I.Row r)

abbrev pub ArePlacedIn : (m : Module) → InChecked m → ℕ → List LLVMInstRef → List Placed → Type 0
ArePlacedIn m h b is ps = Matched (IsPlacedIn m h b) is ps

-- the row of an instruction, none for a phi
abbrev pub row_in : (m : Module) → InChecked m → Placed → Option (M.Row Slot)
row_in m h p = option_map (renamed_row slot_of) (row (setting_in m) (data_in m h) p p.instruction)

abbrev pub rows_in : (m : Module) → InChecked m → List Placed → List (M.Row Slot)
rows_in m h ps = filter_map (row_in m h) ps

-- ---- phis and edges

abbrev pub first_of : {X : Type 0} → Option X → Option X → Option X
first_of None y = y
first_of (Some x) y = Some x

-- the phi's slot, and what it takes for each block that an edge comes from, by these tables
pub record IsPhiOf (m : Module) (c : Contents) (x : Phi) (p : Placed) : Type 0 where
  pub entries : List (L.Operand × ℕ)
  pub are : phi_entries p.instruction ≡ Some entries
  pub slot : x.slot ≡ Result p.number
  pub incoming : (from : ℕ) → HandsOver c (get nat_eq x.incoming from) (option_map (renamed slot_of) (entry_for (setting_in m) from entries))

-- they are phis, in order, by these tables and however much more comes
abbrev pub ArePhis : Module → Contents → List Phi → List Placed → Type 0
ArePhis m c xs ps = Lasts c (λ (d : Contents). Matched (IsPhiOf m d) xs ps)

-- the phis of instructions, in order, by these tables
abbrev pub ArePhisOf : Module → Contents → List Phi → List Placed → Type 0
ArePhisOf m c xs ps = Matched (IsPhiOf m c) xs (filter is_phi ps)

-- those of blocks
abbrev pub AreBlockPhis : Module → Contents → List (List Phi) → List L.Block → Type 0
AreBlockPhis m c all ys = Matched (λ (xs : List Phi) (y : L.Block). ArePhisOf m c xs y.instructions) all ys

abbrev pub slots_of : List Phi → List Slot
slots_of xs = map (λ (x : Phi). x.slot) xs

-- what phis take on an edge from that block
abbrev pub taken_from : ℕ → List Phi → List (Option Source)
taken_from from xs = map (λ (x : Phi). get nat_eq x.incoming from) xs

-- ---- blocks

-- the block b is y, which stands in the function
pub record IsBlockIn (m : Module) (h : InChecked m) (b : LLVMBasicBlock) (y : L.Block) : Type 0 where
  pub place : ℕ
  pub at : slice_get (data_in m h).blocks place ≡ Some y
  pub here : block_at (trees_of m) m.blocks m.insts b ≡ Some y

-- the phis of each block, by these tables, and the place of each by its number
pub record IsIndexOf (m : Module) (h : InChecked m) (c : Contents) (x : Index) : Type 0 where
  pub places : x.places ≡ map (λ (y : L.Block). y.number) (data_in m h).blocks
  pub phis : AreBlockPhis m c x.phis (data_in m h).blocks

-- however much more comes to the tables
abbrev pub IsIndex : (m : Module) → InChecked m → Contents → Index → Type 0
IsIndex m h c x = Lasts c (λ (d : Contents). IsIndexOf m h d x)

abbrev pub params_in : Index → List (List Slot)
params_in x = map slots_of x.phis

abbrev pub phis_at : Index → ℕ → List Phi
phis_at x place = option_map_or (λ (xs : List Phi). xs) (slice_get x.phis place) []

-- an edge to the block of that number
abbrev pub edge_to : Index → (from to : ℕ) → Edge
edge_to x from to = record { to = position_or_len (nat_eq to) x.places; sources = taken_from from (phis_at x (position_or_len (nat_eq to) x.places)) }

-- Functions that differ in numbers alone: what one has under a number, the other has under the number that is paired with it.
use Rattle.std.proofs.Common.{◌≡◌, ℕ, List, map}
use Rattle.std.specs.List.{AllZip}
use Rattle.llvm_core.specs.Data as L
use Rattle.llvm_core.specs.Data.{Operand, Constant, Parameter, Result, Placed, Block, placed_in}
use Rattle.ll_said.proofs.ZipLaws.{SamePlace, zip_weaker, zip_flat}

-- ---- pairs, for functions of the numbers m and n, by how the numbers of their blocks and of their results are paired

module _ (m n : ℕ) (blocks results : ℕ → ℕ → Type 0) where
  abbrev pub OperandPair : Operand → Operand → Type 0
  OperandPair (Constant c) p = p ≡ Constant c
  OperandPair (Parameter f i) p = (f ≡ m) × (p ≡ Parameter n i)
  OperandPair (Result a) p = (b : ℕ) × (p ≡ Result b) × results a b

  abbrev pub EntryPair : Operand × ℕ → Operand × ℕ → Type 0
  EntryPair x y = OperandPair x.0 y.0 × blocks x.1 y.1

  -- rows of one operation and one written type, whose operands and targets are paired in order
  pub record RowPair (r s : L.RowData) : Type 0 where
    pub op : r.op ≡ s.op
    pub written : r.written ≡ s.written
    pub operands : AllZip OperandPair r.operands s.operands
    pub targets : AllZip blocks r.targets s.targets

  abbrev pub CodePair : L.Instruction → L.Instruction → Type 0
  CodePair (L.Phi es) (L.Phi ds) = AllZip EntryPair es ds
  CodePair (L.Applied r) (L.Applied s) = RowPair r s
  CodePair (L.Phi es) (L.Applied s) = ⊥
  CodePair (L.Applied r) (L.Phi ds) = ⊥

  pub record PlacedPair (p q : Placed) : Type 0 where
    pub number : results p.number q.number
    pub name : p.name ≡ q.name
    pub type : p.type ≡ q.type
    pub code : CodePair p.instruction q.instruction

  pub record BlockPair (c d : Block) : Type 0 where
    pub number : blocks c.number d.number
    pub name : c.name ≡ d.name
    pub instructions : AllZip PlacedPair c.instructions d.instructions

-- ---- numbers are paired by their places

-- the numbers of the blocks and of the instructions of a function
abbrev pub block_numbers : L.Function → List ℕ
block_numbers g = map (λ (b : Block). b.number) g.blocks

abbrev pub result_numbers : L.Function → List ℕ
result_numbers g = map (λ (p : Placed). p.number) (placed_in g)

module _ (g h : L.Function) where
  abbrev pub SameBlock : ℕ → ℕ → Type 0
  SameBlock = SamePlace (block_numbers g) (block_numbers h)

  abbrev pub SameResult : ℕ → ℕ → Type 0
  SameResult = SamePlace (result_numbers g) (result_numbers h)

  abbrev pub OperandsAlike : Operand → Operand → Type 0
  OperandsAlike = OperandPair g.number h.number SameBlock SameResult

  abbrev pub EntriesAlike : Operand × ℕ → Operand × ℕ → Type 0
  EntriesAlike = EntryPair g.number h.number SameBlock SameResult

  abbrev pub RowAlike : L.RowData → L.RowData → Type 0
  RowAlike = RowPair g.number h.number SameBlock SameResult

  abbrev pub CodeAlike : L.Instruction → L.Instruction → Type 0
  CodeAlike = CodePair g.number h.number SameBlock SameResult

  abbrev pub PlacedAlike : Placed → Placed → Type 0
  PlacedAlike = PlacedPair g.number h.number SameBlock SameResult

  abbrev pub BlocksAlike : Block → Block → Type 0
  BlocksAlike = BlockPair g.number h.number SameBlock SameResult

-- functions that differ in numbers alone
pub record FunctionsAlike (g h : L.Function) : Type 0 where
  pub name : g.name ≡ h.name
  pub type : g.type ≡ h.type
  pub space : g.space ≡ h.space
  pub params : g.params ≡ h.params
  pub blocks : AllZip (BlocksAlike g h) g.blocks h.blocks

-- the instructions of such functions, one after another
pub placed_alike : (g h : L.Function) → FunctionsAlike g h → AllZip (PlacedAlike g h) (placed_in g) (placed_in h)
placed_alike g h alike =
    zip_flat (PlacedAlike g h) (λ (b : Block). b.instructions) (λ (b : Block). b.instructions) g.blocks h.blocks
    (zip_weaker (BlocksAlike g h) (λ c d. AllZip (PlacedAlike g h) c.instructions d.instructions) g.blocks h.blocks (λ c d x. x.instructions) alike.blocks)

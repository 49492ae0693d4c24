-- The graph of a function as it is made: which place each block has, and where an instruction stands.
use Rattle.std.specs.Prelude.{ℕ, ◌≡◌, Option, Some, slice_get}
use Rattle.support.specs.declared.number_map.NumberMap.{NumberMap}
use Rattle.support.specs.NumberMaps.{value_at}
use Rattle.llvm_core.specs.declared.numbers.LLVMBasicBlock.{LLVMBasicBlock}
use Rattle.llvm_core.specs.declared.numbers.LLVMFunction.{LLVMFunction}
use Rattle.llvm_core.specs.declared.numbers.LLVMInstRef.{LLVMInstRef}
use Rattle.llvm_core.specs.Module.{Module}
use Rattle.llvm_core.specs.Data as L
use Rattle.llvm_core.specs.Data.{Placed}
use Rattle.from_llvm_ir.specs.Source.{IsBlockOf, IsInstOf, IsSource}

-- the places of blocks
abbrev pub Places : Type 0
Places = NumberMap ℕ

-- the place of a block, where one was noted
abbrev pub noted_place : Places → LLVMBasicBlock → Option ℕ
noted_place places n = value_at places n.0

-- each block of the function has its place
abbrev pub ArePlacesOf : L.Function → Places → Type 0
ArePlacesOf g places = (place : ℕ) (b : L.Block) → slice_get g.blocks place ≡ Some b → noted_place places (record { 0 = b.number }) ≡ Some place

-- the block b is that of the number n in the function g, which is that of the number f
pub record IsBlockIn (m : Module) (f : LLVMFunction) (g : L.Function) (n : LLVMBasicBlock) (b : L.Block) : Type 0 where
  pub source : IsSource m f g
  pub place : ℕ
  pub of_block : IsBlockOf m g n place b

-- and p is the instruction of the number i in it
pub record IsInstIn (m : Module) (f : LLVMFunction) (g : L.Function) (n : LLVMBasicBlock) (b : L.Block) (i : LLVMInstRef) (p : Placed) : Type 0 where
  pub source : IsSource m f g
  pub place : ℕ
  pub of_block : IsBlockOf m g n place b
  pub at : ℕ
  pub inst : IsInstOf m b i at p

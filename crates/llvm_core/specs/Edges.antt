-- The edges between the blocks of a module, and lists of where they come from.
use Rattle.std.specs.Prelude.{◌≡◌, ◌+◌, ℕ, nat_eq, if◌then◌else◌, List, [], length, map, slice_get}
use Rattle.std.specs.List.{filter, flat_map}
use Rattle.std.specs.Option.{option_map_or}
use Rattle.llvm_core.specs.declared.numbers.LLVMBasicBlock.{LLVMBasicBlock}
use Rattle.llvm_core.specs.declared.numbers.LLVMInstRef.{LLVMInstRef}
use Rattle.llvm_core.specs.declared.code.LLVMInst.{LLVMInst}
use Rattle.llvm_core.specs.declared.code.LLVMInst.TheVariants as I
use Rattle.llvm_core.specs.declared.code.BlockData.{BlockData}
use Rattle.llvm_core.specs.declared.code.InstData.{InstData}
use Rattle.llvm_core.specs.Module.{Module}

-- how often a number stands in a list
abbrev pub count_of : ℕ → List ℕ → ℕ
count_of n xs = length (filter (nat_eq n) xs)

-- the numbers of the blocks that an instruction leads to, each as often as it is named
abbrev pub targets : LLVMInst → List ℕ
targets (I.Phi type entries) = []
targets (I.Row r) = map (λ (b : LLVMBasicBlock). b.0) r.targets

abbrev pub targets_at : Module → LLVMInstRef → List ℕ
targets_at m i = option_map_or (λ (x : InstData). targets x.inst) (slice_get m.insts i.0) []

-- the blocks that the block numbered p leads to
abbrev pub targets_from : Module → ℕ → List ℕ
targets_from m p = option_map_or (λ (x : BlockData). flat_map (targets_at m) x.insts) (slice_get m.blocks p) []

-- how many edges lead from the block p to the block b
abbrev pub edge_count : Module → (p b : ℕ) → ℕ
edge_count m p b = count_of b (targets_from m p)

-- ---- lists that hold for each block where its edges come from

-- how often p stands in the list of b
abbrev pub tally : List (List ℕ) → (p b : ℕ) → ℕ
tally lists p b = count_of p (option_map_or (λ (l : List ℕ). l) (slice_get lists b) [])

-- edges from p to these targets came in
pub record Gains (old new : List (List ℕ)) (p : ℕ) (ts : List ℕ) : Type 0 where
  pub len : length new ≡ length old
  pub more : (q b : ℕ) → tally new q b ≡ tally old q b + (if nat_eq q p then count_of b ts else 0)

-- the list of each block holds each block as often as that one leads to it
pub record HasIncoming (m : Module) (lists : List (List ℕ)) : Type 0 where
  pub len : length lists ≡ length m.blocks
  pub counts : (p b : ℕ) → tally lists p b ≡ edge_count m p b

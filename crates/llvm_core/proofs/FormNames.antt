-- The local names of a function are those of its data.
use Rattle.std.proofs.Common.{◌≡◌, inl, inr, ℕ, List, [], ◌++◌, Option, None, Some, slice_get, refl, ap, arith}
use Rattle.std.specs.List.{flat_map}
use Rattle.std.specs.Option.{option_map, option_map_or}
use Rattle.std.proofs.lemmas.Bool.{cases_order}
use Rattle.llvm_core.specs.declared.numbers.LLVMBasicBlock.{LLVMBasicBlock}
use Rattle.llvm_core.specs.declared.numbers.LLVMInstRef.{LLVMInstRef}
use Rattle.llvm_core.specs.declared.code.FunctionData.{FunctionData}
use Rattle.llvm_core.specs.declared.code.BlockData.{BlockData}
use Rattle.llvm_core.specs.declared.code.InstData.{InstData}
use Rattle.llvm_core.specs.Module.{Module}
use Rattle.support.specs.Interned.{IsDistinctList}
use Rattle.llvm_core.specs.Names.{HasTwice}
use Rattle.llvm_core.specs.Data.{Placed, trees_of, placed_of, placed_at, block_of, block_at, function_of}
use Rattle.llvm_core.specs.Checked.{named, inst_names, block_names, local_names}
use Rattle.llvm_core.specs.Form.{names_in}
use Rattle.llvm_core.specs.Form.{local_names as names_of}
use Rattle.llvm_core.proofs.GivenLemmas.{flat_map-filter_map}

-- ---- local names

same_inst_names : (m : Module) (i : LLVMInstRef) → inst_names m i ≡ option_map_or (λ (p : Placed). named p.name) (placed_at (trees_of m) m.insts i) []
same_inst_names m i = by (slice_get m.insts i.0)
  where
    by : (o : Option InstData) → named (option_map_or (λ (x : InstData). x.name) o []) ≡ option_map_or (λ (p : Placed). named p.name) (option_map (placed_of (trees_of m) i) o) []
    by None = refl
    by (Some z) = refl

same_block_names : (m : Module) (b : LLVMBasicBlock) → block_names m b ≡ option_map_or names_in (block_at (trees_of m) m.blocks m.insts b) []
same_block_names m b = by (slice_get m.blocks b.0)
  where
    by : (o : Option BlockData) → option_map_or (λ (x : BlockData). named x.name ++ flat_map (inst_names m) x.insts) o [] ≡ option_map_or names_in (option_map (block_of (trees_of m) m.insts b) o) []
    by None = refl
    by (Some y) = ap (λ ns. named y.name ++ ns) (flat_map-filter_map (inst_names m) (λ (p : Placed). named p.name) (placed_at (trees_of m) m.insts) (same_inst_names m) y.insts)

-- the local names of a function are those of its data
pub same_local_names : (m : Module) (f : ℕ) (x : FunctionData) → local_names m x ≡ names_of (function_of (trees_of m) m.blocks m.insts (f, x))
same_local_names m f x = ap (λ ns. flat_map named x.params ++ ns) (flat_map-filter_map (block_names m) names_in (block_at (trees_of m) m.blocks m.insts) (same_block_names m) x.blocks)

-- ---- names that stand once

-- in a list of distinct names none stands twice
pub once_of_distinct : (names : List (List ℕ)) → IsDistinctList names → ¬ HasTwice names
once_of_distinct names distinct (i, j, n, lt, at_i, at_j) = absurd (let e = distinct i j n at_i at_j in omega (arith, e, lt))

-- in a list where no name stands twice they are distinct
pub distinct_of_once : (names : List (List ℕ)) → ¬ HasTwice names → IsDistinctList names
distinct_of_once names once i j n at_i at_j = elim (cases_order i j) [
  | inl same ↦ same
  | inr apart ↦ elim apart [ inl lt ↦ absurd (once (i, j, n, lt, at_i, at_j)) | inr gt ↦ absurd (once (j, i, n, gt, at_j, at_i)) ]
]

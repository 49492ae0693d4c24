-- The names that stand in a function, read part by part.
use Rattle.std.proofs.Common.{◌≡◌, List, [], ℕ, ◌++◌, Option, None, Some, slice_get, ap, sym, ◌∙◌}
use Rattle.std.specs.List.{flat_map}
use Rattle.std.specs.Option.{option_map, option_map_or}
use Rattle.std.proofs.lemmas.Option.{same_Some}
use Rattle.llvm_core.specs.declared.numbers.LLVMBasicBlock.{LLVMBasicBlock}
use Rattle.llvm_core.specs.declared.numbers.LLVMInstRef.{LLVMInstRef}
use Rattle.llvm_core.specs.declared.code.FunctionData.{FunctionData}
use Rattle.llvm_core.specs.declared.code.BlockData.{BlockData}
use Rattle.llvm_core.specs.declared.code.InstData.{InstData}
use Rattle.llvm_core.specs.Module.{Module}
use Rattle.llvm_core.specs.Checked.{named, inst_names, block_names, local_names}

module _ (m : Module) where
  -- the name of a result
  pub result_named : (i : LLVMInstRef) (n : List ℕ) → option_map (λ (x : InstData). x.name) (slice_get m.insts i.0) ≡ Some n → named n ≡ inst_names m i
  result_named i n = by (slice_get m.insts i.0)
    where
      by : (o : Option InstData) → option_map (λ (x : InstData). x.name) o ≡ Some n → named n ≡ named (option_map_or (λ (x : InstData). x.name) o [])
      by None e = cc
      by (Some x) e = ap named (sym (same_Some x.name n e))

  -- the names of a block, by its own and its instructions
  pub block_named : (b : LLVMBasicBlock) (n : List ℕ) (is : List LLVMInstRef) → option_map (λ (x : BlockData). x.name) (slice_get m.blocks b.0) ≡ Some n → option_map (λ (x : BlockData). x.insts) (slice_get m.blocks b.0) ≡ Some is
      → named n ++ flat_map (inst_names m) is ≡ block_names m b
  block_named b n is = by (slice_get m.blocks b.0)
    where
      by : (o : Option BlockData) → option_map (λ (x : BlockData). x.name) o ≡ Some n → option_map (λ (x : BlockData). x.insts) o ≡ Some is
          → named n ++ flat_map (inst_names m) is ≡ option_map_or (λ (x : BlockData). named x.name ++ flat_map (inst_names m) x.insts) o []
      by None e d = cc
      by (Some x) e d = ap (λ k. named k ++ flat_map (inst_names m) is) (sym (same_Some x.name n e)) ∙ ap (λ ks. named x.name ++ flat_map (inst_names m) ks) (sym (same_Some x.insts is d))

  -- the names of a function, by its parameters and its blocks
  pub locals_named : (f : ℕ) (ps : List (List ℕ)) (bs : List LLVMBasicBlock) → option_map (λ (x : FunctionData). x.params) (slice_get m.functions f) ≡ Some ps → option_map (λ (x : FunctionData). x.blocks) (slice_get m.functions f) ≡ Some bs
      → option_map (local_names m) (slice_get m.functions f) ≡ Some (flat_map named ps ++ flat_map (block_names m) bs)
  locals_named f ps bs = by (slice_get m.functions f)
    where
      by : (o : Option FunctionData) → option_map (λ (x : FunctionData). x.params) o ≡ Some ps → option_map (λ (x : FunctionData). x.blocks) o ≡ Some bs → option_map (local_names m) o ≡ Some (flat_map named ps ++ flat_map (block_names m) bs)
      by None e d = cc
      by (Some x) e d = ap (λ ks. Some (flat_map named ks ++ flat_map (block_names m) x.blocks)) (same_Some x.params ps e) ∙ ap (λ ks. Some (flat_map named ps ++ flat_map (block_names m) ks)) (same_Some x.blocks bs d)

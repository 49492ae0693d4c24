-- How module data change where one instruction does.
use Rattle.std.proofs.Common.{◌≡◌, ◌≢◌, ℕ, Bool, true, false, nat_eq, List, Option, None, Some, slice_get, map, ap, sym, ◌∙◌, refl, arith, eq-eqb}
use Rattle.std.specs.Option.{option_map}
use Rattle.support.specs.Changes.{with_change}
use Rattle.llvm_core.specs.declared.numbers.LLVMBasicBlock.{LLVMBasicBlock}
use Rattle.llvm_core.specs.declared.numbers.LLVMInstRef.{LLVMInstRef}
use Rattle.llvm_core.specs.declared.code.LLVMInst.{LLVMInst}
use Rattle.llvm_core.specs.declared.code.FunctionData.{FunctionData}
use Rattle.llvm_core.specs.declared.code.BlockData.{BlockData}
use Rattle.llvm_core.specs.declared.code.InstData.{InstData}
use Rattle.llvm_core.specs.Module.{Module}
use Rattle.llvm_core.specs.Code.{code_of, with_code, with_changed_inst}
use Rattle.llvm_core.specs.Data as d
use Rattle.llvm_core.specs.Data.{Trees, trees_of, instruction_of, placed_of, placed_at, block_of, block_at, function_of, structs_of, data_of}
use Rattle.llvm_core.proofs.ChangeLemmas.{mapped_then, filter_map-mapped, slice_get-changed, slice_get-unchanged}
use Rattle.llvm_core.proofs.CallLemmas.{each, at_number, at_other}

module _ (m : Module) (i : LLVMInstRef) (change : LLVMInst → LLVMInst) (shown : d.Instruction → d.Instruction)
    (same : (x : InstData) → slice_get m.insts i.0 ≡ Some x → instruction_of (trees_of m) (change x.inst) ≡ shown (instruction_of (trees_of m) x.inst)) where
  abbrev changed : InstData → InstData
  changed x = record x { inst = change x.inst }

  abbrev all : List InstData
  all = with_change changed i.0 m.insts

  abbrev put : d.Placed → d.Placed
  put = d.with_change_of i.0 shown

  abbrev put_here : d.Placed → d.Placed
  put_here p = record p { instruction = shown p.instruction }

  placed_here : (j : LLVMInstRef) → j.0 ≡ i.0 → (o : Option InstData) → slice_get m.insts j.0 ≡ o → option_map (placed_of (trees_of m) j) (option_map changed o) ≡ option_map put (option_map (placed_of (trees_of m) j) o)
  placed_here j here None e = refl
  placed_here j here (Some x) e =
      let at : slice_get m.insts i.0 ≡ Some x = ap (slice_get m.insts) (sym here) ∙ e in
      ap (λ (k : d.Instruction). Some (record (placed_of (trees_of m) j x) { instruction = k })) (same x at)
      ∙ ap Some (sym (at_number put_here (placed_of (trees_of m) j x) j.0 i.0 here))

  placed_other : (j : LLVMInstRef) → j.0 ≢ i.0 → (o : Option InstData) → option_map (placed_of (trees_of m) j) o ≡ option_map put (option_map (placed_of (trees_of m) j) o)
  placed_other j other None = refl
  placed_other j other (Some x) = ap Some (sym (at_other put_here (placed_of (trees_of m) j x) j.0 i.0 other))

  placed_changed : (j : LLVMInstRef) → placed_at (trees_of m) all j ≡ option_map put (placed_at (trees_of m) m.insts j)
  placed_changed j = by (nat_eq j.0 i.0) refl
    where
      by : (b : Bool) → nat_eq j.0 i.0 ≡ b → placed_at (trees_of m) all j ≡ option_map put (placed_at (trees_of m) m.insts j)
      by true e =
          let here : j.0 ≡ i.0 = grind arith in
          let at : slice_get all j.0 ≡ option_map changed (slice_get m.insts j.0) =
          (ap (slice_get all) here ∙ slice_get-changed changed i.0 m.insts ∙ ap (λ (k : ℕ). option_map changed (slice_get m.insts k)) (sym here)) in
          ap (option_map (placed_of (trees_of m) j)) at ∙ placed_here j here (slice_get m.insts j.0) refl
      by false e =
          let other : j.0 ≢ i.0 = λ here. absurd (let h = eq-eqb j.0 i.0 here in cc) in
          ap (option_map (placed_of (trees_of m) j)) (slice_get-unchanged changed i.0 j.0 m.insts other) ∙ placed_other j other (slice_get m.insts j.0)

  abbrev block_put : d.Block → d.Block
  block_put b = record b { instructions = map put b.instructions }

  block_changed : (b : LLVMBasicBlock) (y : BlockData) → block_of (trees_of m) all b y ≡ block_put (block_of (trees_of m) m.insts b y)
  block_changed b y =
      let new : LLVMInstRef → Option d.Placed = placed_at (trees_of m) all in
      let old : LLVMInstRef → Option d.Placed = placed_at (trees_of m) m.insts in
      ap (λ is. record (block_of (trees_of m) m.insts b y) { instructions = is }) (filter_map-mapped new old put y.insts (each (λ j. new j ≡ option_map put (old j)) placed_changed y.insts))

  block_at_changed : (b : LLVMBasicBlock) → block_at (trees_of m) m.blocks all b ≡ option_map block_put (block_at (trees_of m) m.blocks m.insts b)
  block_at_changed b = by (slice_get m.blocks b.0)
    where
      by : (o : Option BlockData) → option_map (block_of (trees_of m) all b) o ≡ option_map block_put (option_map (block_of (trees_of m) m.insts b) o)
      by None = refl
      by (Some y) = ap Some (block_changed b y)

  abbrev function_put : d.Function → d.Function
  function_put f = record f { blocks = map block_put f.blocks }

  function_changed : (k : ℕ) (f : FunctionData) → function_of (trees_of m) m.blocks all (k, f) ≡ function_put (function_of (trees_of m) m.blocks m.insts (k, f))
  function_changed k f =
      let new : LLVMBasicBlock → Option d.Block = block_at (trees_of m) m.blocks all in
      let old : LLVMBasicBlock → Option d.Block = block_at (trees_of m) m.blocks m.insts in
      ap (λ bs. record (function_of (trees_of m) m.blocks m.insts (k, f)) { blocks = bs }) (filter_map-mapped new old block_put f.blocks (each (λ b. new b ≡ option_map block_put (old b)) block_at_changed f.blocks))

  pub changed_data : data_of (with_code m (with_changed_inst (code_of m) i change)) ≡ d.with_changed (data_of m) i.0 shown
  changed_data =
      ap (λ fs. let d : d.ModuleData = record { name = m.name; structs = structs_of m; functions = fs } in d)
      (mapped_then (function_of (trees_of m) m.blocks all) (function_of (trees_of m) m.blocks m.insts) function_put 0 m.functions (λ k j f at is. function_changed k f))

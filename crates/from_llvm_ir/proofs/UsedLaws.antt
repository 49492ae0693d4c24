-- What an instruction uses: its operands, and what its edges pass.
use Rattle.std.proofs.Common.{ℕ, suc, ◌≡◌, ◌<◌, ◌≤◌, ◌+◌, refl, sym, ap, subst, ◌∙◌, false, List, ◌++◌, Some, All, length, take, map, slice_get}
use Rattle.std.specs.List.{flat_map}
use Rattle.std.specs.Option.{option_map}
use Rattle.std.proofs.lemmas.List.{map-append, append-nil, append_assoc, take_all, take-map}
use Rattle.std.proofs.lemmas.List.Elements.{All-append}
use Rattle.std.proofs.lemmas.Option.{slice_get-map}
use Rattle.support.proofs.ListLaws.{all_from}
use Rattle.llvm_core.specs.declared.numbers.LLVMFunction.{LLVMFunction}
use Rattle.llvm_core.specs.declared.numbers.LLVMBasicBlock.{LLVMBasicBlock}
use Rattle.llvm_core.specs.declared.numbers.LLVMInstRef.{LLVMInstRef}
use Rattle.llvm_core.specs.declared.code.LLVMValue.{LLVMValue}
use Rattle.llvm_core.specs.declared.code.LLVMInst.{LLVMInst}
use Rattle.llvm_core.specs.declared.code.LLVMInst.TheVariants as I
use Rattle.llvm_core.specs.declared.code.InstData.{InstData}
use Rattle.llvm_core.specs.Module.{Module}
use Rattle.llvm_core.specs.Parts.{IsValue, HasValues, operands, is_phi}
use Rattle.llvm_core.specs.Form as LF
use Rattle.llvm_core.specs.Data as L
use Rattle.llvm_core.specs.Data.{Placed, Trees, trees_of, operand_of, instruction_of}
use Rattle.llvm_core.proofs.DataLemmas.{within_at}
use Rattle.from_llvm_ir.specs.declared.entries.Entries.{Entries}
use Rattle.from_llvm_ir.specs.Imported.{passed}
use Rattle.from_llvm_ir.specs.Parts.{target_blocks}
use Rattle.from_llvm_ir.specs.Source.{IsSite, LeadsTo, IsUsed, used_by}
use Rattle.from_llvm_ir.proofs.PlaceLaws.{flat_at, flat_next}
use Rattle.from_llvm_ir.proofs.SourceLaws.{block_named, block_number, instruction_is, phi_read}
use Rattle.from_llvm_ir.proofs.PassLaws.{inst_form, operands_usable, edge_there, target_there}

-- ---- the parts of an instruction

pub operands_same : (t : Trees) (inst : LLVMInst) → is_phi inst ≡ false → map (operand_of t) (operands inst) ≡ LF.operands_of (instruction_of t inst)
operands_same t (I.Phi type es) e = absurd (let no : ⊥ = cc in no)
operands_same t (I.Row r) e = refl

operands_there : (m : Module) (inst : LLVMInst) → is_phi inst ≡ false → HasValues m inst → (j : ℕ) (v : LLVMValue) → slice_get (operands inst) j ≡ Some v → IsValue m v
operands_there m (I.Phi type es) e h j v at = absurd (let no : ⊥ = cc in no)
operands_there m (I.Row r) e h j v at = within_at r.operands (IsValue m) h.0 j v at

pub targets_same : (t : Trees) (inst : LLVMInst) → map (λ (b : LLVMBasicBlock). b.0) (target_blocks inst) ≡ L.targets (instruction_of t inst)
targets_same t (I.Phi type es) = refl
targets_same t (I.Row r) = refl

-- ---- an instruction of a function

module _ (m : Module) (f : LLVMFunction) (g : L.Function) (entries : Entries) (from : LLVMBasicBlock) (i : LLVMInstRef) (b : L.Block) (p : Placed) (h : IsSite m f g entries from i b p) where
  number : b.number ≡ from.0
  number = block_number m g from h.place b h.of_block

  module _ (inst : LLVMInst) (has : option_map (λ (x : InstData). x.inst) (slice_get m.insts i.0) ≡ Some inst) where
    is : p.instruction ≡ instruction_of (trees_of m) inst
    is = instruction_is m b i h.at p inst h.inst has

    pub targets_are : map (λ (x : LLVMBasicBlock). x.0) (target_blocks inst) ≡ L.targets p.instruction
    targets_are = targets_same (trees_of m) inst ∙ sym (ap L.targets is)

    -- each target is a block of the function, where an edge leads
    pub leads : (j : ℕ) (to : LLVMBasicBlock) → slice_get (target_blocks inst) j ≡ Some to → LeadsTo m f g entries from to
    leads j to at =
        let t : slice_get (L.targets p.instruction) j ≡ Some to.0 = ap (λ (ts : List ℕ). slice_get ts j) (sym targets_are) ∙ slice_get-map (λ (x : LLVMBasicBlock). x.0) (target_blocks inst) j ∙ ap (option_map (λ (x : LLVMBasicBlock). x.0)) at in
        let behind = target_there g h.source.form h.place h.at j b p to.0 h.of_block.at h.inst.at t in
        record {
          source = h.source;
          noted = h.noted;
          place = suc behind.0;
          block = behind.1;
          is = block_named m f g (suc behind.0) behind.1 to h.source behind.2 behind.3;
          edge = subst (λ (y : ℕ). 0 < LF.edges_between g y to.0) number (edge_there g h.source.form h.place h.at j b p to.0 h.of_block.at h.inst.at t);
        }

    module _ (other : LF.is_phi p ≡ false) where
      no_phi : is_phi inst ≡ false
      no_phi = sym (phi_read m b i h.at p inst h.inst has) ∙ other

      pub operands_are : map (operand_of (trees_of m)) (operands inst) ≡ LF.operands_of p.instruction
      operands_are = operands_same (trees_of m) inst no_phi ∙ sym (ap LF.operands_of is)

      pub operands_used : HasValues m inst → All (IsUsed m g) (operands inst)
      operands_used values = all_from (IsUsed m g) (operands inst) (λ j v at.
          let there = ap (λ (os : List L.Operand). slice_get os j) (sym operands_are) ∙ slice_get-map (operand_of (trees_of m)) (operands inst) j ∙ ap (option_map (operand_of (trees_of m))) at in
          let k = flat_at (λ (c : L.Block). c.instructions) g.blocks h.place b h.at p h.of_block.at h.inst.at in
          record {
            valid = operands_there m inst no_phi values j v at;
            usable = operands_usable g h.source.form b.number p (inst_form g h.source.form h.place h.at b p h.of_block.at h.inst.at) other j (operand_of (trees_of m) v) there;
            listed = record { index = k.0; user = p; there = k.1; place = j; here = there };
          })

-- ---- target by target

pub record UsedTo (m : Module) (g : L.Function) (b : L.Block) (p : Placed) (targets : List LLVMBasicBlock) (vs : List LLVMValue) (done : ℕ) : Type 0 where
  pub are : map (operand_of (trees_of m)) vs ≡ LF.operands_of p.instruction ++ flat_map (passed g b.number) (map (λ (x : LLVMBasicBlock). x.0) (take done targets))
  pub used : All (IsUsed m g) vs

pub used_none : (m : Module) (g : L.Function) (b : L.Block) (p : Placed) (targets : List LLVMBasicBlock) (vs : List LLVMValue) → map (operand_of (trees_of m)) vs ≡ LF.operands_of p.instruction → All (IsUsed m g) vs → UsedTo m g b p targets vs 0
used_none m g b p targets vs are used = record { are = are ∙ sym (append-nil (LF.operands_of p.instruction)); used = used }

pub used_more : (m : Module) (g : L.Function) (b : L.Block) (p : Placed) (targets : List LLVMBasicBlock) (vs ws : List LLVMValue) (done : ℕ) (to : LLVMBasicBlock) (from : LLVMBasicBlock) → UsedTo m g b p targets vs done → slice_get targets done ≡ Some to → b.number ≡ from.0
    → map (operand_of (trees_of m)) ws ≡ passed g from.0 to.0 → All (IsUsed m g) ws → UsedTo m g b p targets (vs ++ ws) (done + 1)
used_more m g b p targets vs ws done to from h at number are used = record {
  are = map-append (operand_of (trees_of m)) vs ws ∙ both h.are (are ∙ ap (λ (x : ℕ). passed g x to.0) (sym number))
      ∙ append_assoc (LF.operands_of p.instruction) (flat_map (passed g b.number) (map (λ (x : LLVMBasicBlock). x.0) (take done targets))) (passed g b.number to.0)
      ∙ sym (ap (λ (os : List L.Operand). LF.operands_of p.instruction ++ os) longer);
  used = All-append (IsUsed m g) vs ws h.used used;
}
  where
    both : {a c x y : List L.Operand} → a ≡ c → x ≡ y → a ++ x ≡ c ++ y
    both e e' = cc (e, e')

    longer : flat_map (passed g b.number) (map (λ (x : LLVMBasicBlock). x.0) (take (done + 1) targets)) ≡ flat_map (passed g b.number) (map (λ (x : LLVMBasicBlock). x.0) (take done targets)) ++ passed g b.number to.0
    longer = ap (flat_map (passed g b.number)) (sym (take-map (λ (x : LLVMBasicBlock). x.0) (done + 1) targets)) ∙ flat_next (passed g b.number) (map (λ (x : LLVMBasicBlock). x.0) targets) done to.0 (slice_get-map (λ (x : LLVMBasicBlock). x.0) targets done ∙ ap (option_map (λ (x : LLVMBasicBlock). x.0)) at)
        ∙ ap (λ (ts : List ℕ). flat_map (passed g b.number) ts ++ passed g b.number to.0) (take-map (λ (x : LLVMBasicBlock). x.0) done targets)

pub used_all : (m : Module) (g : L.Function) (b : L.Block) (p : Placed) (targets : List LLVMBasicBlock) (vs : List LLVMValue) (done : ℕ) → length targets ≤ done → map (λ (x : LLVMBasicBlock). x.0) targets ≡ L.targets p.instruction → UsedTo m g b p targets vs done → map (operand_of (trees_of m)) vs ≡ used_by g b p
used_all m g b p targets vs done le are h =
    h.are ∙ ap (λ (ts : List LLVMBasicBlock). LF.operands_of p.instruction ++ flat_map (passed g b.number) (map (λ (x : LLVMBasicBlock). x.0) ts)) (take_all done targets le) ∙ ap (λ (ts : List ℕ). LF.operands_of p.instruction ++ flat_map (passed g b.number) ts) are

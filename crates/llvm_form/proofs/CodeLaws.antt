-- Tests of instructions and blocks decide what the form asks of their data.
use Rattle.std.proofs.Common.{◌≡◌, ◌<◌, ℕ, false, ◌&&◌, List, [], ◌∷◌, Some, length, map, slice_get, refl, sym, ap, subst, ◌∙◌, All}
use Rattle.std.specs.Bool.{Decides}
use Rattle.std.specs.List.{list_all, list_any}
use Rattle.std.specs.Option.{option_map_or}
use Rattle.std.proofs.lemmas.Bool.{or_from, or_parts, false_from_ne_true}
use Rattle.std.proofs.lemmas.Bool.Decides.{Decides-at, Decides-and, Decides-like}
use Rattle.std.proofs.lemmas.List.Elements.{All-nil, All-cons, All-head, All-tail}
use Rattle.support.proofs.ListLaws.{all_from, item_there}
use Rattle.kinds.specs.Held.{IsFirstClass}
use Rattle.llvm_core.specs.declared.numbers.LLVMInstRef.{LLVMInstRef}
use Rattle.llvm_core.specs.declared.code.LLVMValue.{LLVMValue}
use Rattle.llvm_core.specs.declared.code.LLVMInst.{LLVMInst}
use Rattle.llvm_core.specs.declared.code.LLVMInst.TheVariants as I
use Rattle.llvm_core.specs.declared.code.PhiEntry.{PhiEntry}
use Rattle.llvm_core.specs.declared.code.FunctionData.{FunctionData}
use Rattle.llvm_core.specs.declared.code.BlockData.{BlockData}
use Rattle.llvm_core.specs.declared.code.InstData.{InstData}
use Rattle.llvm_core.specs.declared.check_err.Place.TheVariants as P
use Rattle.llvm_core.specs.declared.check_err.CheckErr.TheVariants.{BlockOutside, TooDeep}
use Rattle.llvm_core.specs.Module.{Module}
use Rattle.llvm_core.specs.Parts.{IsValue, IsEntry, HasValues, is_kind, operands}
use Rattle.llvm_core.specs.Sound.{IsModule}
use Rattle.llvm_core.specs.Data.{Operand, Block, trees_of, operand_of, entry_of, instruction_of}
use Rattle.llvm_core.specs.Checked.{IsChecked, home, is_void, is_outside, is_block_outside, is_entry_outside, reaches_outside, is_deep, is_deep_value, is_deep_inst}
use Rattle.llvm_core.specs.Form.{IsNarrowOperand, IsNarrowPlaced, IsNarrowBlock, operands_of}
use Rattle.llvm_core.proofs.DataLemmas.{within_at, inst_of_number}
use Rattle.llvm_core.proofs.GivenLemmas.{none_any_at}
use Rattle.llvm_core.proofs.FormTypes.{numbered, void_kept}
use Rattle.llvm_core.proofs.FormValues.{value_typed}
use Rattle.llvm_core.proofs.FormPlaces.{shown, shown_block, shown_inst, IsFromBlock, inst_from}
use Rattle.llvm_form.specs.Narrow.{is_good_or_none, is_returned_kind, is_first_class_type, is_narrow_value, is_named_right, is_narrow_inst, is_narrow_inst_data, is_narrow_block_data}
use Rattle.llvm_form.proofs.AllLaws.{each_passes, all_pass, mapped_decided}
use Rattle.llvm_form.proofs.TypeLaws.{good_or_none, named_right, deep_shallow, first_class_decided, returned_decided}

-- the operands of an instruction, as data
operands_shown : (m : Module) (i : LLVMInst) → operands_of (instruction_of (trees_of m) i) ≡ map (operand_of (trees_of m)) (operands i)
operands_shown m (I.Phi type entries) = by entries
  where
    by : (es : List PhiEntry) → map (λ (e : Operand × ℕ). e.0) (map (entry_of (trees_of m)) es) ≡ map (operand_of (trees_of m)) (map (λ (e : PhiEntry). e.value) es)
    by [] = refl
    by (e ∷ es) = ap (λ os. operand_of (trees_of m) e.value ∷ os) (by es)
operands_shown m (I.Row r) = refl

module _ (m : Module) (sound : IsModule m) (f : ℕ) (x : FunctionData) (at : slice_get m.functions f ≡ Some x) where
  abbrev IsNarrowHere : Operand → Type 0
  IsNarrowHere o = IsNarrowOperand (shown m f x) o

  -- ---- values

  value_decided : (v : LLVMValue) → IsValue m v → is_outside m (numbered f) v ≡ false → is_deep_value m v ≡ false → Decides (is_narrow_value m v) (IsNarrowHere (operand_of (trees_of m) v))
  value_decided v here inside shallow =
      let t = value_typed m f x sound at v here inside in
      let not_deep = ap (λ o. option_map_or (is_deep m) o false) (sym t.type_is) ∙ shallow in
      Decides-at (is_narrow_value m v) (is_first_class_type m t.type) (ap (λ o. option_map_or (is_first_class_type m) o false) t.type_is)
      (subst (λ τ. Decides (is_first_class_type m t.type) (IsFirstClass τ)) t.tree_is (first_class_decided m sound t.type t.within (deep_shallow m t.type not_deep)))

  -- the operands of an instruction are there, and none is outside
  operands_there : (i : LLVMInst) → HasValues m i → All (IsValue m) (operands i)
  operands_there (I.Phi type entries) here = by entries here.1
    where
      by : (es : List PhiEntry) → All (IsEntry m) es → All (IsValue m) (map (λ (e : PhiEntry). e.value) es)
      by [] all = All-nil (IsValue m)
      by (e ∷ es) all = All-cons (IsValue m) e.value (map (λ (e : PhiEntry). e.value) es) (All-head (IsEntry m) e es all).0 (by es (All-tail (IsEntry m) e es all))
  operands_there (I.Row r) here = here.0

  -- the operands of an instruction that reaches nothing outside are not outside
  operands_inside : (i : LLVMInst) → reaches_outside m (numbered f) i ≡ false → list_any (is_outside m (numbered f)) (operands i) ≡ false
  operands_inside (I.Phi type entries) none = by entries none
    where
      by : (es : List PhiEntry) → list_any (is_entry_outside m (numbered f)) es ≡ false → list_any (is_outside m (numbered f)) (map (λ (e : PhiEntry). e.value) es) ≡ false
      by [] none = refl
      by (e ∷ es) none =
          let parts = or_parts (is_entry_outside m (numbered f) e) (list_any (is_entry_outside m (numbered f)) es) none in
          let first = or_parts (is_outside m (numbered f) e.value) (is_block_outside m (numbered f) e.block) parts.0 in
          or_from (is_outside m (numbered f) e.value) (list_any (is_outside m (numbered f)) (map (λ (e : PhiEntry). e.value) es)) first.0 (by es parts.1)
  operands_inside (I.Row r) none = (or_parts (list_any (is_outside m (numbered f)) r.operands) (list_any (is_block_outside m (numbered f)) r.targets) none).0

  -- ---- instructions

  module _ (checked : IsChecked m) where
    inst_decided : (i : ℕ) (z : InstData) → slice_get m.insts i ≡ Some z → home m z ≡ numbered f → Decides (is_narrow_inst_data m z) (IsNarrowPlaced (shown m f x) (shown_inst m i z))
    inst_decided i z is own =
        let there = sound.insts i z is in
        let τ = (shown_inst m i z).type in
        let none = false_from_ne_true (reaches_outside m (home m z) z.inst) (λ reaches. checked (BlockOutside (P.Inst i)) (z, is, reaches)) in
        let inside = operands_inside z.inst (subst (λ g. reaches_outside m g z.inst ≡ false) own none) in
        let named = named_right z.name τ (is_kind is_void m.types z.ty) (void_kept m z.ty sound there.typed) in
        let shallow = or_parts (is_deep m z.ty) (list_any (is_deep_value m) (operands z.inst)) (false_from_ne_true (is_deep_inst m z) (λ deep. checked (TooDeep (P.Inst i)) (z, is, deep))) in
        let result = returned_decided m sound z.ty there.typed (deep_shallow m z.ty shallow.0) in
        let vs = operands z.inst in
        let value = within_at vs (IsValue m) (operands_there z.inst there.values) in
        let valued = mapped_decided (is_narrow_value m) IsNarrowHere (operand_of (trees_of m)) vs (λ k v listed. value_decided v (value k v listed) (none_any_at (is_outside m (numbered f)) vs k v inside listed) (none_any_at (is_deep_value m) vs k v shallow.1 listed)) in
        let all_valued = subst (λ os. Decides (list_all (is_narrow_value m) vs) (All IsNarrowHere os)) (sym (operands_shown m z.inst)) valued in
        let first = is_named_right m z && is_kind is_returned_kind m.types z.ty in
        let all = Decides-and first (list_all (is_narrow_value m) vs) (Decides-and (is_named_right m z) (is_kind is_returned_kind m.types z.ty) named result) all_valued in
        Decides-like (is_narrow_inst_data m z) (λ h. record { name = h.0.0.0; unnamed = h.0.0.1; result = h.0.1; operands = h.1 })
        (λ (p : IsNarrowPlaced (shown m f x) (shown_inst m i z)). (((p.name, p.unnamed), p.result), p.operands)) all

    -- ---- blocks

    module _ (place : ℕ) (c : Block) (l : IsFromBlock m f x place c) where
      -- the instruction of a number that the block lists
      listed_decided : (j : ℕ) (i : LLVMInstRef) (z : InstData) → slice_get l.block.insts j ≡ Some i → slice_get m.insts i.0 ≡ Some z → Decides (is_narrow_inst m i) (IsNarrowPlaced (shown m f x) (shown_inst m i.0 z))
      listed_decided j i z listed is =
          let block : slice_get m.blocks z.block.0 ≡ Some l.block = ap (slice_get m.blocks) (sound.owned_insts l.number l.block l.here j i z listed is) ∙ l.here in
          let own : home m z ≡ numbered f = ap (λ o. option_map_or (λ (b : BlockData). b.function) o (record { 0 = 0 })) block ∙ ap numbered l.owned in
          Decides-at (is_narrow_inst m i) (is_narrow_inst_data m z) (ap (λ o. option_map_or (is_narrow_inst_data m) o false) is) (inst_decided i.0 z is own)

      insts_decided : Decides (list_all (is_narrow_inst m) l.block.insts) (All (IsNarrowPlaced (shown m f x)) (shown_block m l.number l.block).instructions)
      insts_decided = (
        λ e. all_from (IsNarrowPlaced (shown m f x)) (shown_block m l.number l.block).instructions (λ j p is.
            let i = inst_from m l.number l.block j p sound l.here is in
            let passes = each_passes (is_narrow_inst m) l.block.insts j (record { 0 = i.number }) e i.listed in
            subst (IsNarrowPlaced (shown m f x)) (sym i.shown_as) ((listed_decided j (record { 0 = i.number }) i.inst i.listed i.here).0 passes)),
        λ all. all_pass (is_narrow_inst m) l.block.insts (λ j i listed.
            let z = item_there m.insts i.0 (within_at l.block.insts (λ (i : LLVMInstRef). i.0 < length m.insts) (sound.blocks l.number l.block l.here).insts j i listed) in
            let shown_at = inst_of_number m (record { 0 = l.number }) l.block j i z.0 sound l.here listed z.1 in
            (listed_decided j i z.0 listed z.1).1 (within_at (shown_block m l.number l.block).instructions (IsNarrowPlaced (shown m f x)) all j (shown_inst m i.0 z.0) shown_at)),
      )

      pub block_decided : Decides (is_narrow_block_data m l.block) (IsNarrowBlock (shown m f x) c)
      block_decided =
          let label = good_or_none l.block.name in
          let both = Decides-and (is_good_or_none l.block.name) (list_all (is_narrow_inst m) l.block.insts) label insts_decided in
          let whole = Decides-like (is_narrow_block_data m l.block) (λ h. record { label = h.0; instructions = h.1 }) (λ (b : IsNarrowBlock (shown m f x) (shown_block m l.number l.block)). (b.label, b.instructions)) both in
          subst (λ (d : Block). Decides (is_narrow_block_data m l.block) (IsNarrowBlock (shown m f x) d)) (sym l.shown_as) whole

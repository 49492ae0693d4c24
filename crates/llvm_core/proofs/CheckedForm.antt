-- A checked module with good names and narrow types is of the form.
use Rattle.std.proofs.Common.{◌≡◌, ◌≢◌, ◌<◌, inl, inr, ℕ, true, false, nat_eq, [], Option, None, Some, length, slice_get, refl, sym, ap, subst, ◌∙◌}
use Rattle.std.specs.List.{filter_map, flat_map, list_any}
use Rattle.std.specs.Option.{option_map, option_map_or}
use Rattle.std.proofs.lemmas.Bool.{cases_eq, cases_Bool, eqb-true, not-false, or_parts, false_from_ne_true, true_from_ne_false}
use Rattle.std.proofs.lemmas.Option.{slice_get-map, same_Some}
use Rattle.support.proofs.ListLaws.{all_from, item_there, in_joined, from_joined}
use Rattle.kinds.specs.Types.{count_types}
use Rattle.kinds.specs.Held.{deepest}
use Rattle.kinds.specs.Structs.{nests}
use Rattle.kinds.proofs.NestLaws.{nested_shallow}
use Rattle.llvm_core.specs.declared.numbers.LLVMFunction.{LLVMFunction}
use Rattle.llvm_core.specs.declared.numbers.LLVMBasicBlock.{LLVMBasicBlock}
use Rattle.llvm_core.specs.declared.numbers.LLVMInstRef.{LLVMInstRef}
use Rattle.llvm_core.specs.declared.structs.StructData.{StructData}
use Rattle.llvm_core.specs.declared.code.FunctionData.{FunctionData}
use Rattle.llvm_core.specs.declared.code.BlockData.{BlockData}
use Rattle.llvm_core.specs.declared.code.InstData.{InstData}
use Rattle.llvm_core.specs.declared.code.LLVMInst.{LLVMInst}
use Rattle.llvm_core.specs.declared.code.LLVMInst.TheVariants as I
use Rattle.llvm_core.specs.declared.check_err.Place.TheVariants as P
use Rattle.llvm_core.specs.declared.check_err.CheckErr.TheVariants.{NoTerminator, PhiPlace, PhiEntries, EntryHasPreds, OperandType, OperandCount, BlockOutside, IntrinsicBody, FunctionSpace, TooDeep}
use Rattle.llvm_core.specs.Module.{Module}
use Rattle.llvm_core.specs.Edges.{targets_at, targets_from}
use Rattle.llvm_core.specs.Edges.{targets as leads_to}
use Rattle.llvm_core.specs.Parts.{HasValues, IsBlock}
use Rattle.llvm_core.specs.Sound.{IsModule}
use Rattle.llvm_core.specs.Data.{Placed, Block, trees_of, block_at, structs_of, data_of}
use Rattle.llvm_core.specs.Checked.{IsChecked, MisfitsType, is_intrinsic_name, misfits_count, home, ends_in_only, is_block_outside, is_outside, reaches_outside, is_deep, is_deep_struct, is_deep_inst}
use Rattle.llvm_core.specs.Form.{IsForm, IsFormFunction, IsFormBlock, IsFormPlaced, IsNarrow, IsNarrowFunction, IsNarrowBlock, IsNarrowPlaced, IsNarrowOperand, operands_of, HasPhisFirst, is_last, is_phi}
use Rattle.llvm_core.proofs.DataLemmas.{within_at, function_at}
use Rattle.llvm_core.proofs.GivenLemmas.{none_any_at}
use Rattle.llvm_core.proofs.FormTypes.{numbered, signature_of, param_types_are, count_is}
use Rattle.llvm_core.proofs.FormPlaces.{shown, shown_inst, same_block_ends, same_phi_at, inst_place, IsFromBlock, block_from, IsFromInst, inst_from}
use Rattle.llvm_core.proofs.FormValues.{IsNarrowHere}
use Rattle.llvm_core.proofs.FormEdges.{StaysInside, count_present, same_edges}
use Rattle.llvm_core.proofs.DistinctLaws.{each_function}
use Rattle.llvm_core.proofs.FormNested.{all_allowed}
use Rattle.llvm_core.proofs.FormElements.{all_made}
use Rattle.llvm_core.proofs.CheckedInsts.{MeetsRules, form_of}

-- ---- edges

-- a target of an instruction that reaches nothing outside is a block of the function
target_inside : (m : Module) (f : LLVMFunction) (i : LLVMInst) (k t : ℕ) → HasValues m i → reaches_outside m f i ≡ false → slice_get (leads_to i) k ≡ Some t → IsBlock m (record { 0 = t }) × (is_block_outside m f (record { 0 = t }) ≡ false)
target_inside m f (I.Phi type entries) k t here inside at = cc
target_inside m f (I.Row r) k t here inside at = by (slice_get r.targets k) refl (sym (slice_get-map (λ (b : LLVMBasicBlock). b.0) r.targets k) ∙ at)
  where
    none : list_any (is_block_outside m f) r.targets ≡ false
    none = (or_parts (list_any (is_outside m f) r.operands) (list_any (is_block_outside m f) r.targets) inside).1

    by : (o : Option LLVMBasicBlock) → slice_get r.targets k ≡ o → option_map (λ (b : LLVMBasicBlock). b.0) o ≡ Some t → IsBlock m (record { 0 = t }) × (is_block_outside m f (record { 0 = t }) ≡ false)
    by None e h = absurd cc
    by (Some b) e h = rw (← same_Some b.0 t h) (within_at r.targets (IsBlock m) here.1 k b e, none_any_at (is_block_outside m f) r.targets k b none e)

module _ (m : Module) (sound : IsModule m) (checked : IsChecked m) where
  inside_at : (i : ℕ) (z : InstData) → slice_get m.insts i ≡ Some z → reaches_outside m (home m z) z.inst ≡ false
  inside_at i z at = false_from_ne_true (reaches_outside m (home m z) z.inst) (λ reaches. checked (BlockOutside (P.Inst i)) (z, at, reaches))

  -- ---- depth

  struct_passes : (s : ℕ) (x : StructData) → slice_get m.structs s ≡ Some x → is_deep_struct m x.name ≡ false
  struct_passes s x at = false_from_ne_true (is_deep_struct m x.name) (λ deep. checked (TooDeep (P.Struct s)) (x, at, deep))

  function_passes : (f : ℕ) (x : FunctionData) → slice_get m.functions f ≡ Some x → is_deep m x.ty ≡ false
  function_passes f x at = false_from_ne_true (is_deep m x.ty) (λ deep. checked (TooDeep (P.Function f)) (x, at, deep))

  inst_passes : (i : ℕ) (z : InstData) → slice_get m.insts i ≡ Some z → is_deep_inst m z ≡ false
  inst_passes i z at = false_from_ne_true (is_deep_inst m z) (λ deep. checked (TooDeep (P.Inst i)) (z, at, deep))

  -- ---- edges

  -- the instruction of a block that an edge comes from
  record HasEdge (y : BlockData) (t : ℕ) : Type 0 where
    number : ℕ
    inst : InstData
    here : slice_get m.insts number ≡ Some inst
    place : ℕ
    leads : slice_get (leads_to inst.inst) place ≡ Some t
    home_is : home m inst ≡ y.function

  edge_from : (p : ℕ) (y : BlockData) (k t : ℕ) → slice_get m.blocks p ≡ Some y → slice_get (targets_from m p) k ≡ Some t → HasEdge y t
  edge_from p y k t is led =
      let whole : slice_get (flat_map (targets_at m) y.insts) k ≡ Some t = sym (ap (λ o. slice_get (option_map_or (λ (b : BlockData). flat_map (targets_at m) b.insts) o []) k) is) ∙ led in
      let part = from_joined (targets_at m) y.insts k t whole in
      let z = item_there m.insts part.2.0 (within_at y.insts (λ (i : LLVMInstRef). i.0 < length m.insts) (sound.blocks p y is).insts part.0 part.2 part.3) in
      let block : slice_get m.blocks z.0.block.0 ≡ Some y = ap (slice_get m.blocks) (sound.owned_insts p y is part.0 part.2 z.0 part.3 z.1) ∙ is in
      record {
        number = part.2.0;
        inst = z.0;
        here = z.1;
        place = part.1;
        leads = sym (ap (λ o. slice_get (option_map_or (λ (i : InstData). leads_to i.inst) o []) part.1) z.1) ∙ part.4;
        home_is = ap (λ o. option_map_or (λ (b : BlockData). b.function) o (record { 0 = 0 })) block;
      }

  -- each edge of a checked module stays in its function
  pub stays_inside : StaysInside m
  stays_inside p y k t is led =
      let e = edge_from p y k t is led in
      let r = target_inside m (home m e.inst) e.inst.inst e.place t (sound.insts e.number e.inst e.here).values (inside_at e.number e.inst e.here) e.leads in
      let z = item_there m.blocks t r.0 in
      let same : z.0.function.0 ≡ (home m e.inst).0 = eqb-true z.0.function.0 (home m e.inst).0 (not-false (nat_eq z.0.function.0 (home m e.inst).0) (rw z.1 at r.1)) in
      (z.0, z.1, same ∙ ap (λ (g : LLVMFunction). g.0) e.home_is)

  -- no instruction leads to the first block of a function
  leads_behind : (f : ℕ) (x : FunctionData) (i : ℕ) (z : InstData) (k : ℕ) (t : LLVMBasicBlock) → slice_get m.functions f ≡ Some x → slice_get m.insts i ≡ Some z → slice_get (leads_to z.inst) k ≡ Some t.0 → slice_get x.blocks 0 ≢ Some t
  leads_behind f x i z k t at is leads first =
      let p = inst_place m i z sound is in
      let own : slice_get (targets_at m (record { 0 = i })) k ≡ Some t.0 = ap (λ o. slice_get (option_map_or (λ (i : InstData). leads_to i.inst) o []) k) is ∙ leads in
      let whole = in_joined (targets_at m) p.block.insts p.place k (record { 0 = i }) t.0 p.listed own in
      let led : slice_get (targets_from m z.block.0) whole.0 ≡ Some t.0 = ap (λ o. slice_get (option_map_or (λ (b : BlockData). flat_map (targets_at m) b.insts) o []) whole.0) p.block_is ∙ whole.1 in
      checked (EntryHasPreds (P.Function f)) (x, at, (t, first, λ none. count_present t.0 (targets_from m z.block.0) whole.0 led (none z.block.0)))

  -- ---- instructions

  pub meets : (f i : ℕ) (z : InstData) → slice_get m.insts i ≡ Some z → home m z ≡ numbered f → MeetsRules m f z.block.0 z.ty z.inst
  meets f i z is home_is = record {
    types = λ bad. checked (OperandType (P.Inst i)) (z, is, subst (λ g. MisfitsType m g z.inst) (sym home_is) bad);
    counts = false_from_ne_true (misfits_count m (numbered f) z.inst) (λ bad. checked (OperandCount (P.Inst i)) (z, is, subst (λ g. misfits_count m g z.inst ≡ true) (sym home_is) bad));
    outside = subst (λ g. reaches_outside m g z.inst ≡ false) home_is (inside_at i z is);
    edges = λ bad. checked (PhiEntries (P.Inst i)) (z, is, bad);
    values = (sound.insts i z is).values;
    result = (sound.insts i z is).result;
  }

  module _ (f : ℕ) (x : FunctionData) (at : slice_get m.functions f ≡ Some x) (narrow : IsNarrowFunction (shown m f x)) where
    inst_form : (i : ℕ) (z : InstData) → slice_get m.insts i ≡ Some z → (y : BlockData) → slice_get m.blocks z.block.0 ≡ Some y → y.function.0 ≡ f → IsNarrowPlaced (shown m f x) (shown_inst m i z)
        → IsFormPlaced (shown m f x) z.block.0 (shown_inst m i z)
    inst_form i z is y block_is own narrow_inst =
        let home_is : home m z ≡ numbered f = ap (λ o. option_map_or (λ (b : BlockData). b.function) o (record { 0 = 0 })) block_is ∙ ap numbered own in
        let os = operands_of (shown_inst m i z).instruction in
        let operands = within_at os (IsNarrowOperand (shown m f x)) narrow_inst.operands in
        record {
          instruction = form_of m f x sound at z.block.0 (shown_inst m i z).type z.ty refl z.inst (meets f i z is home_is) (all_from (IsNarrowHere m f x sound at) os operands)
              (λ p. same_edges m f x sound at narrow.block_numbers stays_inside p z.block.0 y block_is own) (λ k t leads. leads_behind f x i z k t at is leads);
          returned = narrow_inst.result;
          name = narrow_inst.name;
          unnamed = narrow_inst.unnamed;
        }

    -- ---- blocks

    module _ (place : ℕ) (c : Block) (l : IsFromBlock m f x place c) (narrow_block : IsNarrowBlock (shown m f x) c) where
      listed_inst : (j : ℕ) (p : Placed) → slice_get c.instructions j ≡ Some p → IsFromInst m l.number l.block j p
      listed_inst j p is = inst_from m l.number l.block j p sound l.here (ap (λ (d : Block). slice_get d.instructions j) (sym l.shown_as) ∙ is)

      each_inst : (j : ℕ) (p : Placed) → slice_get c.instructions j ≡ Some p → IsFormPlaced (shown m f x) c.number p
      each_inst j p is =
          let i = listed_inst j p is in
          let block : slice_get m.blocks i.inst.block.0 ≡ Some l.block = ap (slice_get m.blocks) i.owned ∙ l.here in
          let number : i.inst.block.0 ≡ c.number = i.owned ∙ ap (λ (d : Block). d.number) (sym l.shown_as) in
          let narrow_inst = subst (IsNarrowPlaced (shown m f x)) i.shown_as (within_at c.instructions (IsNarrowPlaced (shown m f x)) narrow_block.instructions j p is) in
          let form = inst_form i.number i.inst i.here l.block block l.owned narrow_inst in
          subst (IsFormPlaced (shown m f x) c.number) (sym i.shown_as) (subst (λ (n : ℕ). IsFormPlaced (shown m f x) n (shown_inst m i.number i.inst)) number form)

      phis_first : HasPhisFirst c.instructions
      phis_first j k p q lt at_p at_q plain = elim (cases_Bool (is_phi q)) [
        | inl phi ↦ (let i = listed_inst j p at_p in
            let n = listed_inst k q at_q in
            let early = same_phi_at m (record { 0 = i.number }) i.inst i.here ∙ ap is_phi (sym i.shown_as) ∙ plain in
            let late = same_phi_at m (record { 0 = n.number }) n.inst n.here ∙ ap is_phi (sym n.shown_as) ∙ phi in
            absurd (checked (PhiPlace (P.Block l.number)) (l.block, l.here, (j, k, record { 0 = i.number }, record { 0 = n.number }, lt, i.listed, n.listed, early, late))))
        | inr other ↦ other
      ]

      block_form : IsFormBlock (shown m f x) c
      block_form = record {
        label = narrow_block.label;
        instructions = all_from (IsFormPlaced (shown m f x) c.number) c.instructions each_inst;
        phis = phis_first;
        ends = true_from_ne_false (ends_in_only is_last c.instructions) (λ open_end.
            let same = same_block_ends m (record { 0 = l.number }) l.block sound l.here ∙ ap (λ (d : Block). ends_in_only is_last d.instructions) (sym l.shown_as) in
            checked (NoTerminator (P.Block l.number)) (l.block, l.here, same ∙ open_end));
      }

    -- ---- functions

    function_form : IsFormFunction (shown m f x)
    function_form =
        let s = signature_of m f x narrow.result narrow.types false sound at narrow.type in
        record {
          name = narrow.name;
          own = false_from_ne_true (is_intrinsic_name x.name) (λ own. checked (IntrinsicBody (P.Function f)) (x, at, (own, λ none. narrow.body (ap (filter_map (block_at (trees_of m) m.blocks m.insts)) none))));
          result = narrow.result;
          types = narrow.types;
          type = narrow.type;
          returns = narrow.returns;
          takes = narrow.takes;
          shallow = nested_shallow (structs_of m) (shown m f x).type (not-false (nests (structs_of m) deepest (shown m f x).type) (function_passes f x at));
          space = elim (cases_eq x.space 0) [ inl none ↦ none | inr other ↦ absurd (checked (FunctionSpace (P.Function f)) (x, at, other)) ];
          params = (sound.functions f x at).params ∙ ap length (param_types_are m f x narrow.result narrow.types sound at s) ∙ sym (count_is (trees_of m).types s.params) ∙ ap count_types s.params_are;
          param_names = narrow.param_names;
          body = narrow.body;
          blocks = all_from (IsFormBlock (shown m f x)) (shown m f x).blocks (λ k c is.
              block_form k c (block_from m f x k c sound at is) (within_at (shown m f x).blocks (IsNarrowBlock (shown m f x)) narrow.blocks k c is));
          block_numbers = narrow.block_numbers;
          numbers = narrow.numbers;
        }

  -- a checked module with good names and narrow types is of the form
  pub form_of_checked : IsNarrow (data_of m) → IsForm (data_of m)
  form_of_checked narrow = record {
    functions = each_function m IsFormFunction (λ f x at. function_form f x at (within_at (data_of m).functions IsNarrowFunction narrow.functions f (shown m f x) (function_at m f x at)));
    structs = narrow.structs;
    nested = all_allowed m sound struct_passes function_passes inst_passes;
    elements = all_made m sound;
  }

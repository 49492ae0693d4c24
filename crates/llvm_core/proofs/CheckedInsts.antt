-- The instructions of a checked module with plain names and narrow types are of the form.
use Rattle.std.proofs.Common.{◌≡◌, ◌≢◌, inl, inr, ℕ, zero, suc, false, not, ◌&&◌, ◌||◌, nat_eq, List, [], ◌∷◌, Option, None, Some, length, map, slice_get, unwrap_or, refl, sym, ap, subst, ◌∙◌, All}
use Rattle.std.specs.List.{list_any}
use Rattle.std.specs.Option.{option_map}
use Rattle.std.proofs.lemmas.Bool.{and_parts, cases_eq, eqb-true, false_from_ne_true, not-false, or_parts}
use Rattle.std.proofs.lemmas.List.{length-map}
use Rattle.std.proofs.lemmas.List.Elements.{All-nil, All-cons, All-head, All-tail, All-map, All-weaker}
use Rattle.std.proofs.lemmas.Option.{slice_get-map, same_Some}
use Rattle.support.proofs.ListLaws.{all_from, item_there}
use Rattle.kinds.specs.Rules.{operand_count, target_count}
use Rattle.kinds.specs.Table.{rule_of}
use Rattle.kinds.specs.Typing.{fits_trees, typed}
use Rattle.kinds.specs.Held.{IsFirstClass}
use Rattle.llvm_core.specs.declared.numbers.LLVMType.{LLVMType}
use Rattle.llvm_core.specs.declared.numbers.LLVMBasicBlock.{LLVMBasicBlock}
use Rattle.llvm_core.specs.declared.types.ResultType.{ResultType}
use Rattle.llvm_core.specs.declared.types.ResultType.TheVariants as R
use Rattle.llvm_core.specs.declared.code.LLVMValue.{LLVMValue}
use Rattle.llvm_core.specs.declared.code.LLVMInst.{LLVMInst}
use Rattle.llvm_core.specs.declared.code.LLVMInst.TheVariants as I
use Rattle.llvm_core.specs.declared.code.PhiEntry.{PhiEntry}
use Rattle.llvm_core.specs.declared.code.Row.{Row}
use Rattle.llvm_core.specs.declared.code.FunctionData.{FunctionData}
use Rattle.llvm_core.specs.Module.{Module}
use Rattle.llvm_core.specs.Parts.{IsValue, IsBlock, IsEntry, HasValues, row_fits, row_result, value_type, result_type}
use Rattle.llvm_core.specs.Edges.{count_of, edge_count}
use Rattle.llvm_core.specs.Edges.{targets as leads_to}
use Rattle.llvm_core.specs.Sound.{IsModule, StandsFor}
use Rattle.llvm_core.specs.Data.{TypeTree, VoidType, Operand, Block, type_at, trees_of, tree_of_result, entry_of, operand_of, row_of, instruction_of, operand_type}
use Rattle.llvm_core.specs.Checked.{returns_void, MisfitsType, misfits_row, misfits_return, is_counted, misfits_count, is_outside, is_block_outside, is_entry_outside, reaches_outside, MisfitsEdges, sources}
use Rattle.llvm_core.specs.Form.{IsOperand, IsTarget, FitsEdges, edges_between, IsFormRow, IsFormInstruction, operands_of}
use Rattle.llvm_core.proofs.DataLemmas.{within_at, void_tree_of, bits_tree_of}
use Rattle.llvm_core.proofs.PhiLemmas.{same_block}
use Rattle.llvm_core.proofs.DecideLemmas.{type_decided, value_decided}
use Rattle.llvm_core.proofs.GivenLemmas.{none_any_at}
use Rattle.llvm_core.proofs.RuleLaws.{tree, fits_by_tree, result_by_tree}
use Rattle.llvm_core.proofs.FormTypes.{numbered}
use Rattle.llvm_core.proofs.FormPlaces.{shown, shown_block, block_place}
use Rattle.llvm_core.proofs.FormEdges.{same_sources}
use Rattle.llvm_core.proofs.FormValues.{IsNarrowHere, value_typed, value_stands, values_stand, types_same, same_void, return_form}

-- the entry of a phi whose data stand at a place
entry_from : (m : Module) (entries : List PhiEntry) (k : ℕ) (o : Operand × ℕ) → slice_get (map (entry_of (trees_of m)) entries) k ≡ Some o → (e : PhiEntry) × (slice_get entries k ≡ Some e) × (entry_of (trees_of m) e ≡ o)
entry_from m entries k o at = by (slice_get entries k) refl (sym (slice_get-map (entry_of (trees_of m)) entries k) ∙ at)
  where
    by : (p : Option PhiEntry) → slice_get entries k ≡ p → option_map (entry_of (trees_of m)) p ≡ Some o → (e : PhiEntry) × (slice_get entries k ≡ Some e) × (entry_of (trees_of m) e ≡ o)
    by None e h = absurd cc
    by (Some d) e h = (d, e, same_Some (entry_of (trees_of m) d) o h)

-- what the rules say of an instruction in a block of the number b of the function f, with a result of the type ty
pub record MeetsRules (m : Module) (f b : ℕ) (ty : LLVMType) (i : LLVMInst) : Type 0 where
  pub types : ¬ MisfitsType m (numbered f) i
  pub counts : misfits_count m (numbered f) i ≡ false
  pub outside : reaches_outside m (numbered f) i ≡ false
  pub edges : ¬ MisfitsEdges m b i
  pub values : HasValues m i
  pub result : StandsFor m.types (result_type m i) ty

-- a row that meets them has the right count, so the types of its operands fit
pub row_kept : (m : Module) (f b : ℕ) (ty : LLVMType) (r : Row) → MeetsRules m f b ty (I.Row r) → (not (row_fits m r) ≡ false) × (misfits_return (rule_of r.op).takes m (numbered f) r.operands ≡ false)
row_kept m f b ty r h =
    let other = misfits_return (rule_of r.op).takes m (numbered f) r.operands in
    let counted = not-false (is_counted m (numbered f) r) h.counts in
    or_parts (not (row_fits m r)) other (sym (ap (λ c. c && (not (row_fits m r) || other)) counted) ∙ false_from_ne_true (misfits_row m (numbered f) r) h.types)

module _ (m : Module) (f : ℕ) (x : FunctionData) (sound : IsModule m) (at : slice_get m.functions f ≡ Some x) where
  -- ---- operands and targets

  abbrev IsHere : Operand → Type 0
  IsHere = IsNarrowHere m f x sound at

  is_operand : (v : LLVMValue) (t : LLVMType) → IsValue m v → is_outside m (numbered f) v ≡ false → IsHere (operand_of (trees_of m) v) → value_type m v ≡ Some t
      → IsOperand (shown m f x) (type_at (trees_of m).types t) (operand_of (trees_of m) v)
  is_operand v t here inside narrow is =
      let h = value_typed m f x sound at v here inside in
      let same : h.type ≡ t = same_Some h.type t (sym h.type_is ∙ is) in
      let typed : operand_type (shown m f x) (operand_of (trees_of m) v) ≡ type_at (trees_of m).types t = sym h.tree_is ∙ ap (type_at (trees_of m).types) same in
      record { stands = value_stands m f x sound at v here inside; typed = typed; first_class = subst IsFirstClass typed narrow }

  -- a block of the function that is not the first
  is_target : (b : LLVMBasicBlock) → IsBlock m b → is_block_outside m (numbered f) b ≡ false → slice_get x.blocks 0 ≢ Some b → IsTarget (shown m f x) b.0
  is_target b here inside behind =
      let y = item_there m.blocks b.0 here in
      let home : y.0.function.0 ≡ f = eqb-true y.0.function.0 f (not-false (nat_eq y.0.function.0 f) (rw y.1 at inside)) in
      let p = block_place m f x b.0 y.0 sound at y.1 home in
      by p.place p.listed (shown_block m b.0 y.0) p.here refl
    where
      by : (k : ℕ) → slice_get x.blocks k ≡ Some b → (c : Block) → slice_get (shown m f x).blocks k ≡ Some c → c.number ≡ b.0 → IsTarget (shown m f x) b.0
      by zero listed c is number = absurd (behind listed)
      by (suc k) listed c is number = (k, c, is, number)

  targets_stand : (bs : List LLVMBasicBlock) → All (IsBlock m) bs → list_any (is_block_outside m (numbered f)) bs ≡ false
      → ((k : ℕ) (t : LLVMBasicBlock) → slice_get (map (λ (b : LLVMBasicBlock). b.0) bs) k ≡ Some t.0 → slice_get x.blocks 0 ≢ Some t) → All (IsTarget (shown m f x)) (map (λ (b : LLVMBasicBlock). b.0) bs)
  targets_stand [] here none behind = All-nil (IsTarget (shown m f x))
  targets_stand (b ∷ bs) here none behind =
      let inside = or_parts (is_block_outside m (numbered f) b) (list_any (is_block_outside m (numbered f)) bs) none in
      All-cons (IsTarget (shown m f x)) b.0 (map (λ (b : LLVMBasicBlock). b.0) bs) (is_target b (All-head (IsBlock m) b bs here) inside.0 (behind 0 b refl))
      (targets_stand bs (All-tail (IsBlock m) b bs here) inside.1 (λ k t is. behind (suc k) t is))

  -- the tree of what stands for a result's type, void where there is none
  result_stood : (o : Option ResultType) (ty : LLVMType) → StandsFor m.types o ty → type_at (trees_of m).types ty ≡ unwrap_or (option_map (tree_of_result (trees_of m).types) o) VoidType
  result_stood None ty h = void_tree_of m ty sound h
  result_stood (Some (R.There t)) ty h = ap (type_at (trees_of m).types) h
  result_stood (Some (R.Bits lanes)) ty h = bits_tree_of m ty lanes sound h

  module _ (b : ℕ) (own : TypeTree) (ty : LLVMType) (own_is : own ≡ type_at (trees_of m).types ty) where
    -- ---- phis

    entry_operand : (type : LLVMType) (entries : List PhiEntry) → MeetsRules m f b ty (I.Phi type entries) → All IsHere (operands_of (instruction_of (trees_of m) (I.Phi type entries))) → (k : ℕ) (e : PhiEntry) → slice_get entries k ≡ Some e
        → IsOperand (shown m f x) own (operand_of (trees_of m) e.value)
    entry_operand type entries h narrow k e is =
        let parts = or_parts (is_outside m (numbered f) e.value) (is_block_outside m (numbered f) e.block) (none_any_at (is_entry_outside m (numbered f)) entries k e h.outside is) in
        let value = type_decided (value_type m e.value) type (λ other. h.types (inr (k, e, is, other))) in
        let entry = within_at entries (IsEntry m) h.values.1 k e is in
        let listed : slice_get (map (λ (o : Operand × ℕ). o.0) (map (entry_of (trees_of m)) entries)) k ≡ Some (operand_of (trees_of m) e.value) =
        (slice_get-map (λ (o : Operand × ℕ). o.0) (map (entry_of (trees_of m)) entries) k ∙ ap (option_map (λ (o : Operand × ℕ). o.0)) (slice_get-map (entry_of (trees_of m)) entries k ∙ ap (option_map (entry_of (trees_of m))) is)) in
        let here = within_at (map (λ (o : Operand × ℕ). o.0) (map (entry_of (trees_of m)) entries)) IsHere narrow k (operand_of (trees_of m) e.value) listed in
        let same : type_at (trees_of m).types type ≡ own = sym (own_is ∙ ap (type_at (trees_of m).types) h.result) in
        subst (λ t. IsOperand (shown m f x) t (operand_of (trees_of m) e.value)) same (is_operand e.value type entry.0 parts.0 here value)

    counted : (type : LLVMType) (entries : List PhiEntry) → MeetsRules m f b ty (I.Phi type entries) → (p : ℕ) → count_of p (sources entries) ≡ edge_count m p b
    counted type entries h p = elim (cases_eq (count_of p (sources entries)) (edge_count m p b)) [ inl same ↦ same | inr other ↦ absurd (h.edges (inl (λ fits. other (fits p)))) ]

    alike : (type : LLVMType) (entries : List PhiEntry) → MeetsRules m f b ty (I.Phi type entries) → (i j : ℕ) (d e : PhiEntry) → slice_get entries i ≡ Some d → slice_get entries j ≡ Some e → d.block.0 ≡ e.block.0 → d.value ≡ e.value
    alike type entries h i j d e at_i at_j same = value_decided d.value e.value (λ other. h.edges (inr (inl (i, j, d, e, at_i, at_j, same_block d.block e.block same, other))))

    some_entry : (type : LLVMType) (entries : List PhiEntry) → MeetsRules m f b ty (I.Phi type entries) → (e : PhiEntry) × (slice_get entries 0 ≡ Some e)
    some_entry type [] h = absurd (h.edges (inr (inr (λ p. sym (counted type [] h p)))))
    some_entry type (e ∷ es) h = (e, refl)

    phi_fits : (type : LLVMType) (entries : List PhiEntry) → MeetsRules m f b ty (I.Phi type entries) → ((p : ℕ) → edges_between (shown m f x) p b ≡ edge_count m p b) → FitsEdges (shown m f x) b (map (entry_of (trees_of m)) entries)
    phi_fits type entries h edges = record {
      counts = λ p. ap (count_of p) (same_sources m entries) ∙ counted type entries h p ∙ sym (edges p);
      alike = λ i j o q at_i at_j same.
          let d = entry_from m entries i o at_i in
          let e = entry_from m entries j q at_j in
          let value = alike type entries h i j d.0 e.0 d.1 e.1 (ap (λ (r : Operand × ℕ). r.1) d.2 ∙ same ∙ sym (ap (λ (r : Operand × ℕ). r.1) e.2)) in
          sym (ap (λ (r : Operand × ℕ). r.0) d.2) ∙ ap (operand_of (trees_of m)) value ∙ ap (λ (r : Operand × ℕ). r.0) e.2;
      some = λ none.
          let e = some_entry type entries h in
          absurd (let there = slice_get-map (entry_of (trees_of m)) entries 0 ∙ ap (option_map (entry_of (trees_of m))) e.1 in let empty = ap (λ os. slice_get os 0) none in cc (there, empty));
    }

    -- ---- rows

    row_form : (r : Row) → MeetsRules m f b ty (I.Row r) → All IsHere (map (operand_of (trees_of m)) r.operands) → ((k : ℕ) (t : LLVMBasicBlock) → slice_get (leads_to (I.Row r)) k ≡ Some t.0 → slice_get x.blocks 0 ≢ Some t)
        → IsFormRow (shown m f x) own (row_of (trees_of m) r)
    row_form r h narrow behind =
        let takes = (rule_of r.op).takes in
        let os = map (operand_of (trees_of m)) r.operands in
        let inside = or_parts (list_any (is_outside m (numbered f)) r.operands) (list_any (is_block_outside m (numbered f)) r.targets) h.outside in
        let fits = row_kept m f b ty r h in
        let counts = and_parts (nat_eq (length r.operands) (operand_count takes (returns_void m (numbered f)))) (nat_eq (length r.targets) (target_count (rule_of r.op).leads)) (not-false (is_counted m (numbered f) r) h.counts) in
        let types = types_same m f x sound at r.operands h.values.0 inside.0 in
        record {
          operands = values_stand m f x sound at r.operands h.values.0 inside.0;
          first_class = All-map IsFirstClass (operand_type (shown m f x)) os narrow;
          count = length-map r.operands (operand_of (trees_of m)) ∙ eqb-true (length r.operands) (operand_count takes (returns_void m (numbered f))) counts.0 ∙ ap (operand_count takes) (same_void m f x sound at);
          fits = ap (fits_trees r.op (option_map (tree m sound) r.written)) types ∙ fits_by_tree m sound r h.values ∙ not-false (row_fits m r) fits.0;
          returns = return_form m f x sound at takes r.operands h.values.0 inside.0 fits.1;
          result = own_is ∙ result_stood (row_result m r) ty h.result ∙ ap (λ o. unwrap_or o VoidType) (result_by_tree m sound r h.values ∙ ap (typed r.op (option_map (tree m sound) r.written)) (sym types));
          targets = targets_stand r.targets h.values.1 inside.1 behind;
          leads = length-map r.targets (λ (b : LLVMBasicBlock). b.0) ∙ eqb-true (length r.targets) (target_count (rule_of r.op).leads) counts.1;
        }

    -- ---- instructions

    -- an instruction that meets the rules is of the form, where the edges in the data are those of the module and none leads to the first block
    pub form_of : (i : LLVMInst) → MeetsRules m f b ty i → All IsHere (operands_of (instruction_of (trees_of m) i)) → ((p : ℕ) → edges_between (shown m f x) p b ≡ edge_count m p b)
        → ((k : ℕ) (t : LLVMBasicBlock) → slice_get (leads_to i) k ≡ Some t.0 → slice_get x.blocks 0 ≢ Some t) → IsFormInstruction (shown m f x) b own (instruction_of (trees_of m) i)
    form_of (I.Phi type entries) h narrow edges behind =
        let first = some_entry type entries h in
        let each : All (λ (o : Operand × ℕ). IsOperand (shown m f x) own o.0) (map (entry_of (trees_of m)) entries) = all_from (λ (o : Operand × ℕ). IsOperand (shown m f x) own o.0) (map (entry_of (trees_of m)) entries) (λ k o is.
        let e = entry_from m entries k o is in
        subst (λ (o : Operand × ℕ). IsOperand (shown m f x) own o.0) e.2 (entry_operand type entries h narrow k e.0 e.1)) in
        (each, phi_fits type entries h edges, (entry_operand type entries h narrow 0 first.0 first.1).first_class)
    form_of (I.Row r) h narrow edges behind = row_form r h narrow behind

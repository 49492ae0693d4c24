-- The instructions of a module of the form meet the rules.
use Rattle.std.proofs.Common.{◌≡◌, ◌≢◌, ◌<◌, inl, inr, ℕ, suc, true, false, not, ◌&&◌, List, [], ◌∷◌, Some, length, map, slice_get, refl, sym, ap, subst, ◌∙◌, eq-eqb, All}
use Rattle.std.specs.List.{list_any}
use Rattle.std.specs.Option.{option_map, option_map_or}
use Rattle.std.proofs.lemmas.Bool.{or_from}
use Rattle.std.proofs.Math.Bool.{and-false}
use Rattle.std.proofs.lemmas.List.{length-map}
use Rattle.std.proofs.lemmas.List.Elements.{All-head, All-tail}
use Rattle.std.proofs.lemmas.Option.{slice_get-map}
use Rattle.kinds.specs.Rules.{operand_count, target_count}
use Rattle.kinds.specs.Table.{rule_of}
use Rattle.kinds.specs.Typing.{fits_trees}
use Rattle.kinds.specs.Held.{deepest, IsFirstClass}
use Rattle.kinds.specs.Structs.{nests, IsNested}
use Rattle.llvm_core.specs.declared.numbers.LLVMType.{LLVMType}
use Rattle.llvm_core.specs.declared.numbers.LLVMBasicBlock.{LLVMBasicBlock}
use Rattle.llvm_core.specs.declared.code.LLVMValue.{LLVMValue}
use Rattle.llvm_core.specs.declared.code.LLVMValue.TheVariants as V
use Rattle.llvm_core.specs.declared.code.LLVMInst.{LLVMInst}
use Rattle.llvm_core.specs.declared.code.LLVMInst.TheVariants as I
use Rattle.llvm_core.specs.declared.code.PhiEntry.{PhiEntry}
use Rattle.llvm_core.specs.declared.code.Row.{Row}
use Rattle.llvm_core.specs.declared.code.FunctionData.{FunctionData}
use Rattle.llvm_core.specs.Module.{Module}
use Rattle.llvm_core.specs.Parts.{IsValue, IsEntry, HasParts, HasValues, row_fits, operands, result_type}
use Rattle.llvm_core.specs.Edges.{count_of, edge_count}
use Rattle.llvm_core.specs.Sound.{IsModule, StandsFor}
use Rattle.llvm_core.specs.Data.{TypeTree, Operand, Instruction, type_at, const_at, trees_of, entry_of, operand_of, row_of, instruction_of, operand_type, structs_of, targets, AreApart}
use Rattle.llvm_core.specs.Data as D
use Rattle.llvm_core.specs.Checked.{returns_void, MisfitsType, misfits_row, misfits_return, is_counted, HasOtherType, HasTwoValues, misfits_count, HasNoPreds, is_outside, is_block_outside, is_entry_outside, reaches_outside, MisfitsEdges, sources, is_deep, is_deep_value}
use Rattle.llvm_core.specs.Form.{IsOperand, IsTarget, FitsEdges, edges_between, IsFormRow, IsFormInstruction, operands_of}
use Rattle.llvm_core.proofs.DataLemmas.{within_at}
use Rattle.llvm_core.proofs.GivenLemmas.{none_any, none_any_at}
use Rattle.llvm_core.proofs.DepthLemmas.{any_mapped}
use Rattle.llvm_core.proofs.RuleLaws.{tree, fits_by_tree}
use Rattle.llvm_core.proofs.FormTypes.{numbered, first_class_has_value}
use Rattle.llvm_core.proofs.FormPlaces.{shown, block_from}
use Rattle.llvm_core.proofs.FormEdges.{count_present, same_sources, edge_source}
use Rattle.llvm_core.proofs.FormValues.{HasType, value_typed, value_inside, types_same, values_inside, same_void, return_fits}

-- ---- operands

-- values are known by their operands
value_known : (m : Module) (v w : LLVMValue) → AreApart m → IsValue m v → IsValue m w → operand_of (trees_of m) v ≡ operand_of (trees_of m) w → v ≡ w
value_known m (V.Const c) (V.Const d) apart here there e = ap V.Const (apart.consts c d here there (let same : const_at (trees_of m).consts c ≡ const_at (trees_of m).consts d = (cc) in same))
value_known m (V.Const c) (V.Param g j) apart here there e = absurd cc
value_known m (V.Const c) (V.Inst j) apart here there e = absurd cc
value_known m (V.Param f i) (V.Const d) apart here there e = absurd cc
value_known m (V.Param f i) (V.Param g j) apart here there e =
    let functions : f.0 ≡ g.0 = (cc) in
    let places : i ≡ j = (cc) in
    ap (λ (n : ℕ). V.Param (record { 0 = n }) i) functions ∙ ap (V.Param g) places
value_known m (V.Param f i) (V.Inst j) apart here there e = absurd cc
value_known m (V.Inst i) (V.Const d) apart here there e = absurd cc
value_known m (V.Inst i) (V.Param g j) apart here there e = absurd cc
value_known m (V.Inst i) (V.Inst j) apart here there e = let same : i.0 ≡ j.0 = (cc) in ap (λ (n : ℕ). V.Inst (record { 0 = n })) same

-- the entry at a place of a phi's data
entry_at : (m : Module) (entries : List PhiEntry) (k : ℕ) (e : PhiEntry) → slice_get entries k ≡ Some e → slice_get (map (entry_of (trees_of m)) entries) k ≡ Some (entry_of (trees_of m) e)
entry_at m entries k e at = slice_get-map (entry_of (trees_of m)) entries k ∙ ap (option_map (entry_of (trees_of m))) at

source_at : (entries : List PhiEntry) (k : ℕ) (e : PhiEntry) → slice_get entries k ≡ Some e → slice_get (sources entries) k ≡ Some e.block.0
source_at entries k e at = slice_get-map (λ (e : PhiEntry). e.block.0) entries k ∙ ap (option_map (λ (e : PhiEntry). e.block.0)) at

pub same_operand_count : (m : Module) (i : LLVMInst) → length (operands i) ≡ length (operands_of (instruction_of (trees_of m) i))
same_operand_count m (I.Phi type entries) =
    length-map entries (λ (e : PhiEntry). e.value) ∙ sym (length-map (map (entry_of (trees_of m)) entries) (λ (e : Operand × ℕ). e.0) ∙ length-map entries (entry_of (trees_of m)))
same_operand_count m (I.Row r) = sym (length-map r.operands (operand_of (trees_of m)))

-- ---- targets

-- an instruction of the form leads to blocks of its function behind the first
pub leads_behind : (g : D.Function) (b : ℕ) (type : TypeTree) (i : Instruction) (k t : ℕ) → IsFormInstruction g b type i → slice_get (targets i) k ≡ Some t → IsTarget g t
leads_behind g b type (D.Phi entries) k t form at = cc
leads_behind g b type (D.Applied r) k t form at = within_at r.targets (IsTarget g) form.targets k t at

module _ (m : Module) (f : ℕ) (x : FunctionData) (sound : IsModule m) (apart : AreApart m) (at : slice_get m.functions f ≡ Some x) where
  -- a block of the data of a function is not outside
  block_inside : (i : ℕ) (b : LLVMBasicBlock) (c : D.Block) → slice_get (shown m f x).blocks i ≡ Some c → c.number ≡ b.0 → is_block_outside m (numbered f) b ≡ false
  block_inside i b c is same =
      let l = block_from m f x i c sound at is in
      let number : l.number ≡ b.0 = ap (λ (d : D.Block). d.number) (sym l.shown_as) ∙ same in
      let here : slice_get m.blocks b.0 ≡ Some l.block = ap (slice_get m.blocks) (sym number) ∙ l.here in
      rw here (rw (eq-eqb l.block.function.0 f l.owned) refl)

  target_inside : (b : LLVMBasicBlock) → IsTarget (shown m f x) b.0 → is_block_outside m (numbered f) b ≡ false
  target_inside b h = block_inside (suc h.0) b h.1 h.2 h.3

  targets_inside : (bs : List LLVMBasicBlock) → All (IsTarget (shown m f x)) (map (λ (b : LLVMBasicBlock). b.0) bs) → list_any (is_block_outside m (numbered f)) bs ≡ false
  targets_inside [] all = refl
  targets_inside (b ∷ bs) all =
      let ns = map (λ (b : LLVMBasicBlock). b.0) bs in
      or_from (is_block_outside m (numbered f) b) (list_any (is_block_outside m (numbered f)) bs) (target_inside b (All-head (IsTarget (shown m f x)) b.0 ns all)) (targets_inside bs (All-tail (IsTarget (shown m f x)) b.0 ns all))

  -- ---- types

  -- an operand has the type that the data ask
  operand_typed : (v : LLVMValue) (type : TypeTree) → IsValue m v → IsOperand (shown m f x) type (operand_of (trees_of m) v) → HasType m v type
  operand_typed v type here o = subst (HasType m v) o.typed (value_typed m f x sound at v here (value_inside m f x sound at v o.stands))

  entry_operand : (entries : List PhiEntry) (k : ℕ) (e : PhiEntry) (type : TypeTree) → All (λ (e : Operand × ℕ). IsOperand (shown m f x) type e.0) (map (entry_of (trees_of m)) entries) → slice_get entries k ≡ Some e
      → IsOperand (shown m f x) type (operand_of (trees_of m) e.value)
  entry_operand entries k e type all is = within_at (map (entry_of (trees_of m)) entries) (λ (e : Operand × ℕ). IsOperand (shown m f x) type e.0) all k (entry_of (trees_of m) e) (entry_at m entries k e is)

  entries_fit : (type : LLVMType) (entries : List PhiEntry) → type.0 < length m.types → All (IsEntry m) entries
      → All (λ (e : Operand × ℕ). IsOperand (shown m f x) (type_at (trees_of m).types type) e.0) (map (entry_of (trees_of m)) entries) → ¬ HasOtherType m type entries
  entries_fit type entries within here all (k, e, is, other) =
      let entry = within_at entries (IsEntry m) here k e is in
      let t = operand_typed e.value (type_at (trees_of m).types type) entry.0 (entry_operand entries k e (type_at (trees_of m).types type) all is) in
      other (t.type_is ∙ ap Some (apart.types t.type type t.within within t.tree_is))

  row_fits_form : (r : Row) (type : TypeTree) → HasParts m r → IsFormRow (shown m f x) type (row_of (trees_of m) r) → misfits_row m (numbered f) r ≡ false
  row_fits_form r type here form =
      let none = values_inside m f x sound at r.operands form.operands in
      let types = types_same m f x sound at r.operands here.0 none in
      let fits : row_fits m r ≡ true = sym (fits_by_tree m sound r here) ∙ ap (fits_trees r.op (option_map (tree m sound) r.written)) (sym types) ∙ form.fits in
      let types_fit = or_from (not (row_fits m r)) (misfits_return (rule_of r.op).takes m (numbered f) r.operands) (ap not fits) (return_fits m f x sound at (rule_of r.op).takes r.operands here.0 none form.returns) in
      ap (λ c. is_counted m (numbered f) r && c) types_fit ∙ and-false (is_counted m (numbered f) r)

  module _ (b : ℕ) (type : TypeTree) where
    pub type_fits : (i : LLVMInst) (ty : LLVMType) → HasValues m i → StandsFor m.types (result_type m i) ty → type ≡ type_at (trees_of m).types ty → IsFormInstruction (shown m f x) b type (instruction_of (trees_of m) i) → ¬ MisfitsType m (numbered f) i
    type_fits (I.Phi own entries) ty here stands typed form h =
        let same : type ≡ type_at (trees_of m).types own = typed ∙ ap (type_at (trees_of m).types) stands in
        elim h [
          | inl valueless ↦ (let value = first_class_has_value m own sound here.0 (subst IsFirstClass same form.2) in absurd cc)
          | inr other ↦ entries_fit own entries here.0 here.1 (subst (λ (t : TypeTree). All (λ (e : Operand × ℕ). IsOperand (shown m f x) t e.0) (map (entry_of (trees_of m)) entries)) same form.0) other
        ]
    type_fits (I.Row r) ty here stands typed form h = let fits = row_fits_form r type here form in cc

    pub count_fits : (i : LLVMInst) → IsFormInstruction (shown m f x) b type (instruction_of (trees_of m) i) → misfits_count m (numbered f) i ≡ false
    count_fits (I.Phi own entries) form = refl
    count_fits (I.Row r) form =
        let operands = eq-eqb (length r.operands) (operand_count (rule_of r.op).takes (returns_void m (numbered f))) (sym (length-map r.operands (operand_of (trees_of m))) ∙ form.count ∙ ap (operand_count (rule_of r.op).takes) (sym (same_void m f x sound at))) in
        let targets = eq-eqb (length r.targets) (target_count (rule_of r.op).leads) (sym (length-map r.targets (λ (b : LLVMBasicBlock). b.0)) ∙ form.leads) in
        cc

    operand_inside : (v : LLVMValue) (t : TypeTree) → IsOperand (shown m f x) t (operand_of (trees_of m) v) → is_outside m (numbered f) v ≡ false
    operand_inside v t o = value_inside m f x sound at v o.stands

    -- an entry of a phi is for a block that leads to the phi
    entry_inside : (entries : List PhiEntry) (k : ℕ) (e : PhiEntry) (t : TypeTree) → All (λ (e : Operand × ℕ). IsOperand (shown m f x) t e.0) (map (entry_of (trees_of m)) entries)
        → FitsEdges (shown m f x) b (map (entry_of (trees_of m)) entries) → slice_get entries k ≡ Some e → is_entry_outside m (numbered f) e ≡ false
    entry_inside entries k e t all fits is =
        let counted : count_of e.block.0 (sources entries) ≡ edges_between (shown m f x) e.block.0 b = ap (count_of e.block.0) (sym (same_sources m entries)) ∙ fits.counts e.block.0 in
        let led : edges_between (shown m f x) e.block.0 b ≢ 0 = λ none. count_present e.block.0 (sources entries) k (source_at entries k e is) (counted ∙ none) in
        let source = edge_source (shown m f x) e.block.0 b led in
        or_from (is_outside m (numbered f) e.value) (is_block_outside m (numbered f) e.block) (operand_inside e.value t (entry_operand entries k e t all is)) (block_inside source.0 e.block source.1 source.2 source.3)

    pub inside : (i : LLVMInst) → IsFormInstruction (shown m f x) b type (instruction_of (trees_of m) i) → reaches_outside m (numbered f) i ≡ false
    inside (I.Phi own entries) form = none_any (is_entry_outside m (numbered f)) entries (λ k e is. entry_inside entries k e type form.0 form.1 is)
    inside (I.Row r) form = or_from (list_any (is_outside m (numbered f)) r.operands) (list_any (is_block_outside m (numbered f)) r.targets) (values_inside m f x sound at r.operands form.operands) (targets_inside r.targets form.targets)

    -- ---- depth

    operand_shallow : (v : LLVMValue) → IsValue m v → is_outside m (numbered f) v ≡ false → IsNested (structs_of m) (operand_type (shown m f x) (operand_of (trees_of m) v)) → is_deep_value m v ≡ false
    operand_shallow v here inside nested =
        let t = value_typed m f x sound at v here inside in
        ap (λ o. option_map_or (is_deep m) o false) t.type_is ∙ ap (λ (τ : TypeTree). not (nests (structs_of m) deepest τ)) t.tree_is ∙ ap not nested

    -- no operand is of a type that nests too deep
    pub operands_shallow : (i : LLVMInst) → ((k : ℕ) (o : Operand) → slice_get (operands_of (instruction_of (trees_of m) i)) k ≡ Some o → IsNested (structs_of m) (operand_type (shown m f x) o))
        → HasValues m i → IsFormInstruction (shown m f x) b type (instruction_of (trees_of m) i) → list_any (is_deep_value m) (operands i) ≡ false
    operands_shallow (I.Phi own entries) nested here form = any_mapped (is_deep_value m) (λ (e : PhiEntry). e.value) entries ∙ none_any (λ (e : PhiEntry). is_deep_value m e.value) entries (λ k e is.
        let o = entry_operand entries k e type form.0 is in
        let shown_at = slice_get-map (λ (o : Operand × ℕ). o.0) (map (entry_of (trees_of m)) entries) k ∙ ap (option_map (λ (o : Operand × ℕ). o.0)) (entry_at m entries k e is) in
        operand_shallow e.value (within_at entries (IsEntry m) here.1 k e is).0 (operand_inside e.value type o) (nested k (operand_of (trees_of m) e.value) shown_at))
    operands_shallow (I.Row r) nested here form = none_any (is_deep_value m) r.operands (λ k v is.
        let shown_at = slice_get-map (operand_of (trees_of m)) r.operands k ∙ ap (option_map (operand_of (trees_of m))) is in
        operand_shallow v (within_at r.operands (IsValue m) here.0 k v is) (none_any_at (is_outside m (numbered f)) r.operands k v (values_inside m f x sound at r.operands form.operands) is)
        (nested k (operand_of (trees_of m) v) shown_at))

    -- ---- the entries of a phi

    values_alike : (entries : List PhiEntry) → All (IsEntry m) entries → FitsEdges (shown m f x) b (map (entry_of (trees_of m)) entries) → ¬ HasTwoValues entries
    values_alike entries here fits (i, j, d, e, at_i, at_j, same, other) =
        let p = within_at entries (IsEntry m) here i d at_i in
        let q = within_at entries (IsEntry m) here j e at_j in
        let alike = fits.alike i j (entry_of (trees_of m) d) (entry_of (trees_of m) e) (entry_at m entries i d at_i) (entry_at m entries j e at_j) (ap (λ (c : LLVMBasicBlock). c.0) same) in
        other (value_known m d.value e.value apart p.0 q.0 alike)

    some_lead : (entries : List PhiEntry) → ((p : ℕ) → count_of p (sources entries) ≡ edge_count m p b) → ¬ (map (entry_of (trees_of m)) entries ≡ []) → ¬ HasNoPreds m b
    some_lead [] counts some none = some refl
    some_lead (e ∷ es) counts some none = count_present e.block.0 (sources (e ∷ es)) 0 refl (counts e.block.0 ∙ none e.block.0)

    -- where the edges in the data are those of the module
    pub fits_edges : (i : LLVMInst) → HasValues m i → ((p : ℕ) → edges_between (shown m f x) p b ≡ edge_count m p b) → IsFormInstruction (shown m f x) b type (instruction_of (trees_of m) i) → ¬ MisfitsEdges m b i
    fits_edges (I.Phi own entries) here edges form h =
        let counts : (p : ℕ) → count_of p (sources entries) ≡ edge_count m p b = λ p. ap (count_of p) (sym (same_sources m entries)) ∙ form.1.counts p ∙ edges p in
        elim h [
          | inl wrong ↦ wrong counts
          | inr more ↦ elim more [ inl two ↦ values_alike entries here.1 form.1 two | inr none ↦ some_lead entries counts form.1.some none ]
        ]
    fits_edges (I.Row r) here edges form h = h

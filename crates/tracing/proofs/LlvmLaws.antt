-- The operands and types of instructions of LLVM, in the names of the program.
use Rattle.std.proofs.Common.{◌≡◌, ℕ, List, Option, Some, None, map, slice_get, refl, sym, ap, subst, ◌∙◌, All}
use Rattle.llvm_core.specs.declared.numbers.LLVMType.{LLVMType}
use Rattle.llvm_core.specs.declared.numbers.LLVMInstRef.{LLVMInstRef}
use Rattle.llvm_core.specs.declared.code.LLVMValue.{LLVMValue}
use Rattle.llvm_core.specs.declared.code.LLVMValue.TheVariants as V
use Rattle.llvm_core.specs.declared.code.LLVMInst.{LLVMInst}
use Rattle.llvm_core.specs.declared.code.LLVMInst.TheVariants as I
use Rattle.llvm_core.specs.declared.code.Row.{Row}
use Rattle.llvm_core.specs.declared.code.PhiEntry.{PhiEntry}
use Rattle.llvm_core.specs.Module.{Module}
use Rattle.llvm_core.specs.declared.code.InstData.{InstData}
use Rattle.llvm_core.specs.Parts.{value_type, is_phi}
use Rattle.llvm_core.specs.Data as D
use Rattle.llvm_core.specs.Data.{Placed, Instruction, placed_of, row_of, instruction_of, TypeTree, type_at, trees_of, operand_of, operand_type, phi_entries}
use Rattle.std.specs.Option.{is_some, option_map}
use Rattle.std.proofs.lemmas.Option.{none-some, same_Some}
use Rattle.llvm_core.specs.Form as F
use Rattle.llvm_core.specs.Edges.{targets as leads_to}
use Rattle.llvm_core.proofs.FormEdges.{same_targets}
use Rattle.llvm_core.proofs.FormPlaces.{same_kind_phi}
use Rattle.llvm_core.proofs.FormValues.{value_typed}
use Rattle.llvm_core.proofs.CheckedInsts.{MeetsRules}
use Rattle.llvm_core.proofs.CheckedForm.{meets}
use Rattle.tracing.proofs.CheckedLaws.{row_used}
use Rattle.meaning.specs.Machine as Machine
use Rattle.meaning.specs.Machine.{Operand, Applies}
use Rattle.meaning.specs.Llvm.{operand, action, row}
use Rattle.tracing.specs.Renamed.{renamed, renamed_action, renamed_row}
use Rattle.tracing.specs.Types.{Stands, AllStand}
use Rattle.tracing.specs.Contents.{Contents}
use Rattle.tracing.specs.Bodies.{AreSources, IsAction}
use Rattle.tracing.proofs.GrowLaws.{applies}
use Rattle.tracing.specs.declared.body.Slot.TheVariants.{Result}
use Rattle.tracing.specs.declared.trace.Types.{Types}
use Rattle.tracing.specs.declared.body.Source.{Source}
use Rattle.tracing.specs.declared.body.Action.TheVariants as A
use Rattle.tracing.proofs.ListLaws.{mapped_twice}
use Rattle.tracing.specs.declared.body.Slot.{Slot}
use Rattle.tracing.specs.LlvmBodies.{setting_in, slot_of, InChecked, data_in, operand_in, IsUsed, IsPlacedIn, IsRowIn, row_in}

-- the number of the type of a value of the function stands for what the data say
pub used_tree : (m : Module) (h : InChecked m) (v : LLVMValue) (t : LLVMType) → IsUsed m h v → value_type m v ≡ Some t → type_at (trees_of m).types t ≡ operand_type (data_in m h) (operand_of (trees_of m) v)
used_tree m h v t used is =
    let typed = value_typed m h.number h.function h.sound h.at v used.here used.inside in
    let same = same_Some t typed.type (sym is ∙ typed.type_is) in
    ap (type_at (trees_of m).types) same ∙ typed.tree_is

abbrev pub some_value : LLVMValue
some_value = V.Const (record { 0 = 0 })

-- ---- an instruction that is no phi

-- the instruction as it is kept
pub record IsKept (m : Module) (i : LLVMInstRef) (p : Placed) : Type 0 where
  pub kept : InstData
  pub here : slice_get m.insts i.0 ≡ Some kept
  pub is : p ≡ placed_of (trees_of m) i kept

pub kept_at : (m : Module) (h : InChecked m) (b : ℕ) (i : LLVMInstRef) (p : Placed) → IsPlacedIn m h b i p → IsKept m i p
kept_at m h b i p at = by (slice_get m.insts i.0) refl at.here
  where
    by : (o : Option InstData) → slice_get m.insts i.0 ≡ o → option_map (placed_of (trees_of m) i) o ≡ Some p → IsKept m i p
    by None e k = absurd (none-some p k)
    by (Some x) e k = record { kept = x; here = e; is = sym (same_Some (placed_of (trees_of m) i x) p k) }

pub kept_inst : (m : Module) (i : LLVMInstRef) (p : Placed) (inst : LLVMInst) → IsKept m i p → option_map (λ (x : InstData). x.inst) (slice_get m.insts i.0) ≡ Some inst → p.instruction ≡ instruction_of (trees_of m) inst
kept_inst m i p inst k is =
    let same : k.kept.inst ≡ inst = same_Some k.kept.inst inst (sym (ap (option_map (λ (x : InstData). x.inst)) k.here) ∙ is) in
    ap (λ (q : Placed). q.instruction) k.is ∙ ap (instruction_of (trees_of m)) same

pub kept_type : (m : Module) (i : LLVMInstRef) (p : Placed) (t : LLVMType) → IsKept m i p → value_type m (V.Inst i) ≡ Some t → type_at (trees_of m).types t ≡ p.type
kept_type m i p t k is =
    let same : k.kept.ty ≡ t = same_Some k.kept.ty t (sym (ap (option_map (λ (x : InstData). x.ty)) k.here) ∙ is) in
    sym (ap (λ (q : Placed). q.type) k.is ∙ ap (type_at (trees_of m).types) same)

row_same : (a b : Machine.Action Slot) (n k : ℕ) → a ≡ b → n ≡ k → ◌≡◌ {A = Option (Machine.Row Slot)} (Some (record { action = a; result = Result n })) (Some (record { action = b; result = Result k }))
row_same a b n k e f = cc

pub kept_phi : (m : Module) (p : Placed) (inst : LLVMInst) → p.instruction ≡ instruction_of (trees_of m) inst → F.is_phi p ≡ is_phi inst
kept_phi m p inst e = ap (λ (j : Instruction). is_some (phi_entries j)) e ∙ sym (same_kind_phi m inst)

pub kept_targets : (m : Module) (p : Placed) (inst : LLVMInst) → p.instruction ≡ instruction_of (trees_of m) inst → leads_to inst ≡ D.targets p.instruction
kept_targets m p inst e = same_targets m inst ∙ sym (ap D.targets e)

module _ (m : Module) (h : InChecked m) where
  -- what the rules say of the row of an instruction
  rules_of : (b : ℕ) (i : LLVMInstRef) (p : Placed) (r : Row) → IsRowIn m h b i p r → (k : IsKept m i p) → MeetsRules m h.number k.kept.block.0 k.kept.ty (I.Row r)
  rules_of b i p r at k =
      let same : k.kept.inst ≡ I.Row r = same_Some k.kept.inst (I.Row r) (sym (ap (option_map (λ (x : InstData). x.inst)) k.here) ∙ at.is) in
      subst (MeetsRules m h.number k.kept.block.0 k.kept.ty) same (meets m h.sound h.checked h.number i.0 k.kept k.here (at.placed.owned k.kept k.here).1)

  -- its operands are values of the function
  pub used_all : (b : ℕ) (i : LLVMInstRef) (p : Placed) (r : Row) → IsRowIn m h b i p r → All (IsUsed m h) r.operands
  used_all b i p r at = let k = kept_at m h b i p at.placed in row_used m h k.kept.block.0 k.kept.ty r (rules_of b i p r at k)

  -- what an instruction of that row does
  pub action_is : (now : Contents) (type : TypeTree) (r : Row) (types : Types) (os : List Source) → Stands now.types types.result type
      → AllStand now.types types.operands (map (λ (v : LLVMValue). operand_type (data_in m h) (operand_of (trees_of m) v)) r.operands) → AreSources now os (map (operand_in m) r.operands)
      → IsAction now (A.Applies r.op types os) (renamed_action slot_of (action (setting_in m) (data_in m h) type (row_of (trees_of m) r)))
  action_is now type r types os result operands sources =
      let t = trees_of m in
      let same_types = subst (AllStand now.types types.operands) (sym (mapped_twice (operand_type (data_in m h)) (operand_of t) r.operands)) operands in
      let renamed_twice = ap (map (renamed slot_of)) (mapped_twice (operand (setting_in m)) (operand_of t) r.operands) ∙ mapped_twice (renamed slot_of) (λ (v : LLVMValue). operand (setting_in m) (operand_of t v)) r.operands in
      let same_sources = subst (AreSources now os) (sym renamed_twice) sources in
      applies now r.op types os type _ _ result same_types same_sources

  -- the row of the data of an instruction
  row_shown : (p : Placed) (inst : LLVMInst) → p.instruction ≡ instruction_of (trees_of m) inst → row_in m h p ≡ option_map (renamed_row slot_of) (row (setting_in m) (data_in m h) p (instruction_of (trees_of m) inst))
  row_shown p inst e = ap (λ (j : Instruction). option_map (renamed_row slot_of) (row (setting_in m) (data_in m h) p j)) e

  pub row_is : (b : ℕ) (i : LLVMInstRef) (p : Placed) (r : Row) → IsRowIn m h b i p r → row_in m h p ≡ Some (record { action = renamed_action slot_of (action (setting_in m) (data_in m h) p.type (row_of (trees_of m) r)); result = Result i.0 })
  row_is b i p r at =
      let k = kept_at m h b i p at.placed in
      let number : i.0 ≡ p.number = sym (ap (λ (q : Placed). q.number) k.is) in
      let x = renamed_action slot_of (action (setting_in m) (data_in m h) p.type (row_of (trees_of m) r)) in
      row_shown p (I.Row r) (kept_inst m i p (I.Row r) k at.is) ∙ sym (row_same x x i.0 p.number refl number)

  -- a phi has none
  pub no_row : (b : ℕ) (i : LLVMInstRef) (p : Placed) (t : LLVMType) (es : List PhiEntry) → IsPlacedIn m h b i p → option_map (λ (x : InstData). x.inst) (slice_get m.insts i.0) ≡ Some (I.Phi t es) → row_in m h p ≡ None
  no_row b i p t es at is = row_shown p (I.Phi t es) (kept_inst m i p (I.Phi t es) (kept_at m h b i p at) is)

abbrev pub some_inst : LLVMInstRef
some_inst = record { 0 = 0 }

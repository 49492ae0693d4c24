-- The elements of the constants of a module are those that their types ask for.
use Rattle.std.proofs.Common.{◌≡◌, ℕ, List, [], ◌∷◌, Some, map, slice_get, sym, subst, All}
use Rattle.std.proofs.lemmas.List.Elements.{All-nil, All-cons, All-head, All-tail}
use Rattle.support.proofs.ListLaws.{all_from}
use Rattle.llvm_core.specs.declared.code.LLVMValue.{LLVMValue}
use Rattle.llvm_core.specs.declared.code.LLVMValue.TheVariants as V
use Rattle.llvm_core.specs.declared.code.LLVMInst.{LLVMInst}
use Rattle.llvm_core.specs.declared.code.LLVMInst.TheVariants as I
use Rattle.llvm_core.specs.declared.code.PhiEntry.{PhiEntry}
use Rattle.llvm_core.specs.declared.code.FunctionData.{FunctionData}
use Rattle.llvm_core.specs.Module.{Module}
use Rattle.llvm_core.specs.Parts.{IsValue, IsEntry, HasValues}
use Rattle.llvm_core.specs.Sound.{IsModule}
use Rattle.llvm_core.specs.Data.{Operand, Placed, trees_of, structs_of, operand_of, entry_of, instruction_of, placed_in, data_of}
use Rattle.llvm_core.specs.Form.{operands_of, IsMadeOperand, HasMadeOperands}
use Rattle.llvm_core.proofs.FormPlaces.{shown, own_inst}
use Rattle.llvm_core.proofs.ElementLemmas.{made_there}
use Rattle.llvm_core.proofs.DistinctLaws.{each_function}

module _ (m : Module) (s : IsModule m) where
  abbrev IsMade : Operand → Type 0
  IsMade o = IsMadeOperand (structs_of m) o

  value_made : (v : LLVMValue) → IsValue m v → IsMade (operand_of (trees_of m) v)
  value_made (V.Const c) here = made_there m s c here
  value_made (V.Param g place) here = tt
  value_made (V.Inst i) here = tt

  values_made : (vs : List LLVMValue) → All (IsValue m) vs → All IsMade (map (operand_of (trees_of m)) vs)
  values_made [] here = All-nil IsMade
  values_made (v ∷ vs) here = All-cons IsMade (operand_of (trees_of m) v) (map (operand_of (trees_of m)) vs) (value_made v (All-head (IsValue m) v vs here)) (values_made vs (All-tail (IsValue m) v vs here))

  abbrev entry_operands : List PhiEntry → List Operand
  entry_operands es = map (λ (e : Operand × ℕ). e.0) (map (entry_of (trees_of m)) es)

  entries_made : (es : List PhiEntry) → All (IsEntry m) es → All IsMade (entry_operands es)
  entries_made [] here = All-nil IsMade
  entries_made (e ∷ es) here = All-cons IsMade (operand_of (trees_of m) e.value) (entry_operands es) (value_made e.value (All-head (IsEntry m) e es here).0) (entries_made es (All-tail (IsEntry m) e es here))

  inst_made : (i : LLVMInst) → HasValues m i → All IsMade (operands_of (instruction_of (trees_of m) i))
  inst_made (I.Phi type entries) here = entries_made entries here.1
  inst_made (I.Row r) here = values_made r.operands here.0

  function_made : (f : ℕ) (x : FunctionData) → slice_get m.functions f ≡ Some x → HasMadeOperands (structs_of m) (shown m f x)
  function_made f x at = all_from (λ (p : Placed). All IsMade (operands_of p.instruction)) (placed_in (shown m f x)) (λ k p is.
      let own = own_inst m f x k p s at is in
      subst (λ (q : Placed). All IsMade (operands_of q.instruction)) (sym own.shown_as) (inst_made own.inst.inst (s.insts own.number own.inst own.here).values))

  -- so they are in each function
  pub all_made : All (HasMadeOperands (structs_of m)) (data_of m).functions
  all_made = each_function m (HasMadeOperands (structs_of m)) function_made

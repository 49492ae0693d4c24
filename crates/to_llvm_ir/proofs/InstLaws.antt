-- The row that an operation becomes: what was found for its operands and its edges makes it.
use Rattle.std.proofs.Common.{◌≡◌, ℕ, zero, suc, List, [], ◌∷◌, Option, Some, None, All, length, map, slice_get, refl, sym, ap, ◌∙◌}
use Rattle.std.specs.List.{flat_map}
use Rattle.std.specs.Option.{option_map, option_map_or}
use Rattle.std.proofs.lemmas.List.{length-map}
use Rattle.std.proofs.lemmas.List.Elements.{All-nil, All-cons, All-append}
use Rattle.kinds.specs.declared.op.Op.{Op}
use Rattle.kinds.specs.Table.{rule_of}
use Rattle.llvm_core.specs.declared.numbers.LLVMBasicBlock.{LLVMBasicBlock}
use Rattle.llvm_core.specs.declared.types.ResultType.{ResultType}
use Rattle.llvm_core.specs.declared.code.LLVMValue.{LLVMValue}
use Rattle.llvm_core.specs.declared.code.LLVMInst.TheVariants as I
use Rattle.llvm_core.specs.declared.code.Row.{Row}
use Rattle.llvm_core.specs.Module.{Module}
use Rattle.llvm_core.specs.Sound.{IsModule}
use Rattle.llvm_core.specs.Parts.{IsValue, IsBlock, HasParts, row_result}
use Rattle.llvm_core.specs.Data as L
use Rattle.llvm_core.specs.Data.{RowData, trees_of, operand_of, row_of, tree_of_result}
use Rattle.llvm_core.proofs.WithinLemmas.{result_within}
use Rattle.llvm_core.proofs.RuleLaws.{tree, tree_of, result_by_tree}
use Rattle.dialect_types.specs.Trees.{TypeTree}
use Rattle.dialect_core.specs.declared.ops.Value.{Value}
use Rattle.dialect_core.specs.declared.ops.Successor.{Successor}
use Rattle.dialect_core.specs.Data.{Kind, RowOp, value_type}
use Rattle.dialect_core.specs.Rules.{IsRow, type_nth}
use Rattle.dialect_core.specs.Form.{is_constant_kind}
use Rattle.meaning.specs.Pairs.{Matched}
use Rattle.meaning.specs.Dialect.{option_type}
use Rattle.meaning.proofs.MatchedLaws.{matched_length}
use Rattle.to_llvm_ir.specs.Order.{StandsBeforeIn}
use Rattle.to_llvm_ir.specs.Made.{operand_for, block_for, instruction_for}
use Rattle.to_llvm_ir.specs.States.{Spot, AreUses, IsUseOf, IsLead, IsMade, IsWritten}
use Rattle.to_llvm_ir.proofs.OpLaws.{typed_there}
use Rattle.to_llvm_ir.proofs.RowLaws.{typed_row}

result_typed : (f : ResultType → TypeTree) (o : Option ResultType) → option_map_or f o L.VoidType ≡ option_type (option_map f o)
result_typed f None = refl
result_typed f (Some r) = refl

abbrev data_with : Op → Option TypeTree → List L.Operand → List ℕ → RowData
data_with op written operands targets = record { op = op; written = written; operands = operands; targets = targets }

same_data : (op : Op) (a b : Option TypeTree) (xs ys : List L.Operand) (bs cs : List ℕ) → a ≡ b → xs ≡ ys → bs ≡ cs → data_with op a xs bs ≡ data_with op b ys cs
same_data op a b xs ys bs cs e f h = cc

module _ (s : Spot) (m : Module) (sound : IsModule m) where
  abbrev Before : Value → Type 0
  Before = StandsBeforeIn s.task.numbers.order s.task.source s.place s.at

  -- ---- operands

  values_there : (vs : List Value) (xs : List LLVMValue) → AreUses s m vs xs → All (IsValue m) xs
  values_there [] [] h = All-nil (IsValue m)
  values_there [] (x ∷ xs) h = absurd h
  values_there (v ∷ vs) [] h = absurd h
  values_there (v ∷ vs) (x ∷ xs) h = All-cons (IsValue m) x xs (typed_there m x h.0.type sound h.0.used.typed) (values_there vs xs h.1)

  values_stand : (vs : List Value) (xs : List LLVMValue) → AreUses s m vs xs → map (operand_of (trees_of m)) xs ≡ map (operand_for s.task.source s.task.numbers) vs
  values_stand [] [] h = refl
  values_stand [] (x ∷ xs) h = absurd h
  values_stand (v ∷ vs) [] h = absurd h
  values_stand (v ∷ vs) (x ∷ xs) h = let e = h.0.used.stands in let f = values_stand vs xs h.1 in cc

  values_before : (vs : List Value) (xs : List LLVMValue) → AreUses s m vs xs → All Before vs
  values_before [] [] h = All-nil Before
  values_before [] (x ∷ xs) h = absurd h
  values_before (v ∷ vs) [] h = absurd h
  values_before (v ∷ vs) (x ∷ xs) h = All-cons Before v vs h.0.used.before (values_before vs xs h.1)

  -- both sides give the operand at a place one type
  values_typed : (vs : List Value) (xs : List LLVMValue) → AreUses s m vs xs → (i : ℕ) → slice_get (map (tree_of m sound) xs) i ≡ type_nth (value_type s.task.source) vs i
  values_typed [] [] h i = refl
  values_typed [] (x ∷ xs) h i = absurd h
  values_typed (v ∷ vs) [] h i = absurd h
  values_typed (v ∷ vs) (x ∷ xs) h zero =
      let t = h.0.used.typed in
      let is : tree_of m sound x ≡ h.0.type = ap (λ (o : Option _). option_map_or (tree m sound) o L.VoidType) t.1 ∙ t.2 in
      ap Some is ∙ sym h.0.is
  values_typed (v ∷ vs) (x ∷ xs) h (suc i) = values_typed vs xs h.1 i

  -- ---- edges

  leads_there : (ss : List Successor) (bs : List LLVMBasicBlock) → Matched (IsLead s m) ss bs → All (IsBlock m) bs
  leads_there [] [] h = All-nil (IsBlock m)
  leads_there [] (b ∷ bs) h = absurd h
  leads_there (e ∷ ss) [] h = absurd h
  leads_there (e ∷ ss) (b ∷ bs) h = All-cons (IsBlock m) b bs h.0.there (leads_there ss bs h.1)

  leads_are : (ss : List Successor) (bs : List LLVMBasicBlock) → Matched (IsLead s m) ss bs → map (λ (b : LLVMBasicBlock). b.0) bs ≡ map (λ (e : Successor). block_for s.task.source s.task.numbers e.block.0) ss
  leads_are [] [] h = refl
  leads_are [] (b ∷ bs) h = absurd h
  leads_are (e ∷ ss) [] h = absurd h
  leads_are (e ∷ ss) (b ∷ bs) h = let one = h.0.is in let rest = leads_are ss bs h.1 in cc

  passed_before : (ss : List Successor) (bs : List LLVMBasicBlock) → Matched (IsLead s m) ss bs → All Before (flat_map (λ (e : Successor). e.args) ss)
  passed_before [] [] h = All-nil Before
  passed_before [] (b ∷ bs) h = absurd h
  passed_before (e ∷ ss) [] h = absurd h
  passed_before (e ∷ ss) (b ∷ bs) h = All-append Before e.args (flat_map (λ (e : Successor). e.args) ss) h.0.before (passed_before ss bs h.1)

  -- ---- the row

  pub row_made : (r : Row) → s.op.kind ≡ RowOp r.op → IsRow (value_type s.task.source) s.task.source r.op s.op.operands s.op.result s.op.successors
      → AreUses s m s.op.operands r.operands → Matched (IsLead s m) s.op.successors r.targets → IsWritten m (rule_of r.op).gives s.op.result r.written → IsMade s m (I.Row r)
  row_made r kind form uses leads written =
      let parts : HasParts m r = (values_there s.op.operands r.operands uses, leads_there s.op.successors r.targets leads, written.there) in
      let count : length (map (tree_of m sound) r.operands) ≡ length s.op.operands = length-map r.operands (tree_of m sound) ∙ matched_length (IsUseOf s m) s.op.operands r.operands uses in
      let typed = typed_row (value_type s.task.source) s.task.source r.op s.op.operands s.op.result s.op.successors form (map (tree_of m sound) r.operands) count (values_typed s.op.operands r.operands uses) in
      let result : option_map (tree_of_result (trees_of m).types) (row_result m r) ≡ s.op.result = result_by_tree m sound r parts ∙ (let w = written.is in rw w typed) in
      record {
        values = parts;
        is = ap L.Applied (same_data r.op _ _ _ _ _ _ written.is (values_stand s.op.operands r.operands uses) (leads_are s.op.successors r.targets leads))
            ∙ sym (ap (λ (k : Kind). instruction_for s.task.source s.task.numbers k s.op.result s.op.operands s.op.successors) kind);
        type = result_typed (tree_of_result (trees_of m).types) (row_result m r) ∙ ap option_type result;
        void = λ none. sym result ∙ ap (option_map (tree_of_result (trees_of m).types)) none;
        within = λ t e. result_within m (I.Row r) t sound parts e;
        uses = All-append Before s.op.operands (flat_map (λ (e : Successor). e.args) s.op.successors) (values_before s.op.operands r.operands uses) (passed_before s.op.successors r.targets leads);
        other = ap is_constant_kind kind;
      }

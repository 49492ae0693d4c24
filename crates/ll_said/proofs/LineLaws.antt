-- A line means the instruction that it says.
use Rattle.std.proofs.Common.{◌≡◌, ℕ, List, [], ◌∷◌, map, slice_get, Option, Some, None, All, refl, ap, sym, ◌∙◌}
use Rattle.std.specs.Option.{option_map_or}
use Rattle.std.proofs.lemmas.Bool.{cond_both}
use Rattle.kinds.specs.Types.{TypeTree, VoidType}
use Rattle.kinds.specs.Held.{is_void, IsFirstClass}
use Rattle.kinds.proofs.HeldLaws.{void_is, first_class_own}
use Rattle.kinds.specs.Structs.{Struct}
use Rattle.llvm_core.specs.Data.{Operand, RowData, Instruction, Phi, Applied, Placed, Function, operand_type, placed_in}
use Rattle.llvm_core.specs.Form.{IsOperand, IsOperandOf, IsMadeOperand, operands_of, IsTarget, types_of, IsFormRow, IsFormInstruction, IsFormPlaced}
use Rattle.kinds.specs.Names.{IsGoodOrNone}
use Rattle.llvm_core.proofs.DataLemmas.{within_at}
use Rattle.std.proofs.lemmas.Option.{slice_get-map}
use Rattle.std.specs.Option.{option_map}
use Rattle.ll_literals.specs.Text.{Text}
use Rattle.ll_literals.specs.Chain.{◌>>=◌}
use Rattle.ll_lines.specs.Lines.{Typed}
use Rattle.ll_bodies.specs.Scopes.{Key, key_name, local_key, written_name, block_of}
use Rattle.ll_bodies.specs.Meaning.{all_of, operand, entry, instruction, placed, result_type}
use Rattle.ll_said.specs.Naming.{Unnamed, ResultOf, block_ref, local_text}
use Rattle.ll_said.specs.Said.{typed_of, entry_of, inst_of, gives_of, line_of}
use Rattle.ll_said.specs.Sayable.{IsSayable}
use Rattle.ll_said.proofs.AllLaws.{all_of-map}
use Rattle.ll_said.proofs.EdgeLaws.{entry_block, target_block}
use Rattle.ll_said.proofs.KnownLaws.{scope_of}
use Rattle.ll_said.proofs.NameLaws.{key_in, local_says}
use Rattle.ll_said.proofs.OperandLaws.{operand_said, block_said, entry_said}
use Rattle.ll_said.proofs.TypeLaws.{own_or_void, types_said, type_said}

-- ---- instructions

phi_said : (structs : List Struct) (f : Function) → IsSayable f → (b : ℕ) (type : TypeTree) (es : List (Operand × ℕ)) → IsFormInstruction f b type (Phi es) → All (IsMadeOperand structs) (operands_of (Phi es)) → instruction structs (scope_of f) (inst_of structs f type (Phi es)) ≡ Some (Phi es)
phi_said structs f h b type es form made =
    let entries = all_of-map (entry structs (scope_of f) type) (entry_of structs f) es (λ i e at. entry_said structs f h type e (within_at es (λ (e : Operand × ℕ). IsOperand f type e.0) form.0 i e at) (within_at (operands_of (Phi es)) (IsMadeOperand structs) made i e.0 (slice_get-map (λ (e : Operand × ℕ). e.0) es i ∙ ap (option_map (λ (e : Operand × ℕ). e.0)) at)) (entry_block f b es i e form.1 at)) in
    ap (λ (o : Option (List (Operand × ℕ))). o >>= λ (es : List (Operand × ℕ)). Some (Phi es)) entries

row_said : (structs : List Struct) (f : Function) → IsSayable f → (type : TypeTree) (r : RowData) → IsFormRow f type r → All (IsMadeOperand structs) r.operands → instruction structs (scope_of f) (inst_of structs f type (Applied r)) ≡ Some (Applied r)
row_said structs f h type r form made = rw (operands, targets, types_said structs f r.operands, form.fits) refl
  where
    first_class_at : (i : ℕ) (o : Operand) → slice_get r.operands i ≡ Some o → IsFirstClass (operand_type f o)
    first_class_at i o at = within_at (types_of f r.operands) IsFirstClass form.first_class i (operand_type f o) (slice_get-map (operand_type f) r.operands i ∙ ap (option_map (operand_type f)) at)

    operands : all_of (λ (x : Typed). operand structs (scope_of f) x.type x.said) (map (typed_of structs f) r.operands) ≡ Some r.operands
    operands = all_of-map (λ (x : Typed). operand structs (scope_of f) x.type x.said) (typed_of structs f) r.operands (λ i o at. operand_said structs f h o (within_at r.operands (IsOperandOf f) form.operands i o at) (within_at r.operands (IsMadeOperand structs) made i o at) (first_class_own (operand_type f o) (first_class_at i o at)))

    targets : all_of (block_of (scope_of f)) (map (block_ref f) r.targets) ≡ Some r.targets
    targets = all_of-map (block_of (scope_of f)) (block_ref f) r.targets (λ i n at. block_said f h n (target_block f n (within_at r.targets (IsTarget f) form.targets i n at)))

-- an instruction of the form
pub instruction_said : (structs : List Struct) (f : Function) → IsSayable f → (b : ℕ) (type : TypeTree) (i : Instruction) → IsFormInstruction f b type i → All (IsMadeOperand structs) (operands_of i) → instruction structs (scope_of f) (inst_of structs f type i) ≡ Some i
instruction_said structs f h b type (Phi es) form made = phi_said structs f h b type es form made
instruction_said structs f h b type (Applied r) form made = row_said structs f h type r form made

-- ---- results

-- the name that is said of a thing is its name
pub name_said : (f : Function) → IsSayable f → (n : Text) (x : Unnamed) (key : Text → Option Key) (t : Text) → key t ≡ Some (key_in f n x) → written_name key (Some t) ≡ n
name_said f h [] x key t says = ap key_name says
name_said f h (c ∷ cs) x key t says = ap key_name says

gives_said : (f : Function) → IsSayable f → (type : TypeTree) (p : Placed) → IsGoodOrNone p.name → (type ≡ VoidType → p.name ≡ []) → written_name local_key (gives_of f type p) ≡ p.name
gives_said f h type p good none =
    let text = local_text f p.name (ResultOf p.number) in
    cond_both (is_void type) None (Some text) (λ (w : Option Text). written_name local_key w ≡ p.name) (λ e. sym (none (void_is type e)))
    (λ e. name_said f h p.name (ResultOf p.number) local_key text (local_says f p.name (ResultOf p.number) h.few good))

-- ---- lines

-- an instruction of the function, in some block
pub record IsLine (structs : List Struct) (f : Function) (p : Placed) : Type 0 where
  pub block : ℕ
  pub form : IsFormPlaced f block p
  pub made : All (IsMadeOperand structs) (operands_of p.instruction)
  pub place : ℕ
  pub at : slice_get (placed_in f) place ≡ Some p

same_placed : (p : Placed) (n : ℕ) (name : List ℕ) (type : TypeTree) → p.number ≡ n → name ≡ p.name → type ≡ p.type
    → Some (let x : Placed = record { number = n; name = name; type = type; instruction = p.instruction } in x) ≡ Some p
same_placed p n name type e g k = rw (← e, g, k) refl

-- a line under its number
pub line_said : (structs : List Struct) (f : Function) → IsSayable f → (n : ℕ) (p : Placed) → IsLine structs f p → p.number ≡ n → placed structs (scope_of f) n (line_of structs f p) ≡ Some p
line_said structs f h n p line numbered =
    let typed : option_map_or (λ (τ : TypeTree). τ) (result_type (inst_of structs f p.type p.instruction)) VoidType ≡ p.type =
    ap (λ (o : Option TypeTree). option_map_or (λ (τ : TypeTree). τ) o VoidType) (type_said structs f line.block p.type p.instruction line.form.instruction) ∙ own_or_void p.type in
    let named = gives_said f h p.type p line.form.name line.form.unnamed in
    ap (λ (o : Option Instruction). o >>= λ (i : Instruction). Some (let x : Placed = record {
      number = n;
      name = written_name local_key (gives_of f p.type p);
      type = option_map_or (λ (τ : TypeTree). τ) (result_type (inst_of structs f p.type p.instruction)) VoidType;
      instruction = i;
    } in x)) (instruction_said structs f h line.block p.type p.instruction line.form.instruction line.made)
    ∙ same_placed p n _ _ numbered named typed

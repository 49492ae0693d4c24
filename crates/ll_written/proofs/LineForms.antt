-- The lines of a function of the form are writable.
use Rattle.std.proofs.Common.{◌≡◌, ℕ, suc, Bool, true, false, cond, List, [], ◌∷◌, length, map, slice_get, Option, Some, None, refl, sym, ap, subst, ◌∙◌}
use Rattle.std.specs.Prelude.{IfSome, unwrap_or, slice_index_or}
use Rattle.std.specs.List.{flat_map, AllByRecursion}
use Rattle.std.proofs.lemmas.Bool.{and_parts}
use Rattle.std.proofs.lemmas.List.Elements.{recursion_from_All}
use Rattle.kinds.specs.Structs.{Struct, IsNested, IsFormStruct}
use Rattle.kinds.specs.declared.rules.Gives.{Gives}
use Rattle.kinds.specs.declared.rules.Gives.TheVariants as G
use Rattle.kinds.specs.Fitting.{is_written, takes_fit}
use Rattle.kinds.specs.Table.{rule_of}
use Rattle.kinds.specs.Types.{TypeTree, VoidType, laned, same_tree}
use Rattle.kinds.specs.Held.{is_void, IsFirstClass}
use Rattle.kinds.specs.Typing.{fits_trees, given, typed}
use Rattle.kinds.proofs.HeldLaws.{lane_own}
use Rattle.llvm_core.specs.Data.{Operand, Constant, Parameter, Result, RowData, Instruction, Phi, Applied, Placed, Function, operand_type}
use Rattle.llvm_core.specs.Form.{constant_type, IsMadeOperand, operands_of, IsOperandOf, IsOperand, IsFormRow, IsFormInstruction, IsFormPlaced, types_of, returns_void}
use Rattle.kinds.specs.Names.{IsGoodOrNone}
use Rattle.ll_said.specs.Naming.{ParamAt, ResultOf, local_text, result_name, block_ref}
use Rattle.ll_said.specs.Said.{said_of, typed_of, entry_of, row_of, inst_of, line_of}
use Rattle.ll_said.specs.Sayable.{IsSayable}
use Rattle.ll_said.proofs.TypeLaws.{types_said}
use Rattle.ll_written.specs.Writable.{IsSayableType, IsSayableResult, IsLocal, IsSaidOf, IsTyped, IsRow, IsIncoming, IsInst, IsLine}
use Rattle.ll_written.proofs.NameForms.{local_form, result_name_form, block_form}
use Rattle.ll_written.proofs.NamedForms.{IsGoodIn, AreGoodIn, all_front, all_back, operand_good}
use Rattle.ll_written.proofs.ConstForms.{const_form}
use Rattle.ll_written.proofs.TypeTokens.{own_sayable}

length_map : {A B : Type 0} (f : A → B) (xs : List A) → length (map f xs) ≡ length xs
length_map f [] = refl
length_map f (x ∷ xs) = ap suc (length_map f xs)

some_mapped : {A B : Type 0} (f : A → B) (xs : List A) → ¬ (xs ≡ []) → ¬ (map f xs ≡ [])
some_mapped f [] some = λ e. some refl
some_mapped f (x ∷ xs) some = λ e. absurd cc

-- ---- values

module _ (structs : List Struct) (all : AllByRecursion IsFormStruct structs) (f : Function) (sayable : IsSayable f) where
  -- a constant has a type of a value that nests in the structs, and is made of what its type asks for
  said_form : (o : Operand) → IsOperandOf f o → IsFirstClass (operand_type f o) → AllByRecursion (IsNested structs) (constant_type o) → IsMadeOperand structs o → IsSaidOf (operand_type f o) (said_of structs f o)
  said_form (Constant c) stands type nested made = const_form structs all c stands made (record { type = type; nested = nested.0 })
  said_form (Parameter g i) stands type nested made = local_form f sayable (slice_index_or f.params i []) (ParamAt i) (sayable.form.param_names i [] stands.1)
  said_form (Result n) stands type nested made = local_form f sayable (result_name f n) (ResultOf n) (result_name_form f sayable n)

  operands_form : AreGoodIn structs f → (os : List Operand) → AllByRecursion (IsOperandOf f) os → AllByRecursion (IsNested structs) (flat_map constant_type os) → AllByRecursion (IsMadeOperand structs) os → AllByRecursion IsFirstClass (types_of f os)
      → AllByRecursion IsTyped (map (typed_of structs f) os)
  operands_form good [] stands nested made valued = tt
  operands_form good (o ∷ os) stands nested made valued =
      let later = flat_map constant_type os in
      let own = all_front (IsNested structs) (constant_type o) later nested in
      let names = operand_good structs all f good o own in
      let said = said_form o stands.0 valued.0 own made.0 in
      (record { type = record { type = valued.0; names = names }; said = said }, operands_form good os stands.1 (all_back (IsNested structs) (constant_type o) later nested) made.1 valued.1)

  targets_form : (ts : List ℕ) → AllByRecursion IsLocal (map (block_ref f) ts)
  targets_form [] = tt
  targets_form (t ∷ ts) = (block_form f sayable t, targets_form ts)

  abbrev operands_in : List (Operand × ℕ) → List Operand
  operands_in es = map (λ (e : Operand × ℕ). e.0) es

  entry_form : (τ : TypeTree) (e : Operand × ℕ) → IsOperand f τ e.0 → AllByRecursion (IsNested structs) (constant_type e.0) → IsMadeOperand structs e.0 → IsIncoming τ (entry_of structs f e)
  entry_form τ e h nested made =
      let said = said_form e.0 h.stands (subst IsFirstClass (sym h.typed) h.first_class) nested made in
      record { said = subst (λ (υ : TypeTree). IsSaidOf υ (said_of structs f e.0)) h.typed said; block = block_form f sayable e.1 }

  entries_form : (τ : TypeTree) (es : List (Operand × ℕ)) → AllByRecursion (λ (e : Operand × ℕ). IsOperand f τ e.0) es → AllByRecursion (IsNested structs) (flat_map constant_type (operands_in es)) → AllByRecursion (IsMadeOperand structs) (operands_in es)
      → AllByRecursion (IsIncoming τ) (map (entry_of structs f) es)
  entries_form τ [] stands nested made = tt
  entries_form τ (e ∷ es) stands nested made =
      let later = flat_map constant_type (operands_in es) in
      let first = entry_form τ e stands.0 (all_front (IsNested structs) (constant_type e.0) later nested) made.0 in
      (first, entries_form τ es stands.1 (all_back (IsNested structs) (constant_type e.0) later nested) made.1)

-- ---- rows

-- a type that is written beside operands is that of the result
written_form : (g : Gives) (w : Option TypeTree) (a b : Option TypeTree) → is_written laned same_tree g w ≡ true → IsSayableResult (unwrap_or (given g w a b) VoidType) → IfSome w IsSayableType
written_form g None a b is returned = tt
written_form G.Written (Some τ) a b is returned = own_sayable τ returned (lane_own τ is)
written_form G.Nothing (Some τ) a b is returned = absurd cc
written_form G.First (Some τ) a b is returned = absurd cc
written_form G.Second (Some τ) a b is returned = absurd cc
written_form G.Bits (Some τ) a b is returned = absurd cc

module _ (structs : List Struct) (all : AllByRecursion IsFormStruct structs) (f : Function) (sayable : IsSayable f) (good : AreGoodIn structs f) where
  row_form : (type : TypeTree) (r : RowData) → IsFormRow f type r → IsSayableResult type → AllByRecursion (IsNested structs) (flat_map constant_type r.operands) → AllByRecursion (IsMadeOperand structs) r.operands → IsRow (row_of structs f r)
  row_form type r h returned nested made =
      let ts = types_of f r.operands in
      let rule = rule_of r.op in
      let is = (and_parts (is_written laned same_tree rule.gives r.written) (takes_fit laned same_tree rule.takes (length ts) r.written (slice_get ts 0) (slice_get ts 1) (slice_get ts 2)) h.fits).0 in
      let plain : typed r.op r.written ts ≡ given rule.gives r.written (slice_get ts 0) (slice_get ts 1) = ap (λ (b : Bool). cond b (given rule.gives r.written (slice_get ts 0) (slice_get ts 1)) None) h.fits in
      let result : IsSayableResult (unwrap_or (given rule.gives r.written (slice_get ts 0) (slice_get ts 1)) VoidType) = subst IsSayableResult (h.result ∙ ap (λ (o : Option TypeTree). unwrap_or o VoidType) plain) returned in
      record {
        operands = operands_form structs all f sayable good r.operands (recursion_from_All (IsOperandOf f) r.operands h.operands) nested made (recursion_from_All IsFirstClass ts h.first_class);
        written = written_form rule.gives r.written (slice_get ts 0) (slice_get ts 1) is result;
        targets = targets_form structs all f sayable r.targets;
        fits = ap (fits_trees r.op r.written) (types_said structs f r.operands) ∙ h.fits;
        void = returns_void f;
        count = length_map (typed_of structs f) r.operands ∙ h.count;
        leads = length_map (block_ref f) r.targets ∙ h.leads;
      }

  inst_form : (n : ℕ) (type : TypeTree) (i : Instruction) → IsFormInstruction f n type i → IsSayableResult type → AllByRecursion (IsNested structs) (flat_map constant_type (operands_of i)) → AllByRecursion (IsMadeOperand structs) (operands_of i) → IsInst (inst_of structs f type i)
  inst_form n type (Phi es) h returned nested made =
      let entries = entries_form structs all f sayable type es (recursion_from_All (λ (e : Operand × ℕ). IsOperand f type e.0) es h.0) nested made in
      (record { type = h.2; names = returned.names }, entries, some_mapped (entry_of structs f) es h.1.some)
  inst_form n type (Applied r) h returned nested made = row_form type r h returned nested made

  gives_by : (v : Bool) (p : Placed) → IsGoodOrNone p.name → IfSome (cond v None (Some (local_text f p.name (ResultOf p.number)))) IsLocal
  gives_by true p good = tt
  gives_by false p good = local_form f sayable p.name (ResultOf p.number) good

  pub line_form : (n : ℕ) (p : Placed) → IsFormPlaced f n p → IsGoodIn structs p → IsLine (line_of structs f p)
  line_form n p h good_in = record {
    result = gives_by (is_void p.type) p h.name;
    inst = inst_form n p.type p.instruction h.instruction (record { type = h.returned; names = good_in.result }) good_in.constants good_in.made;
  }

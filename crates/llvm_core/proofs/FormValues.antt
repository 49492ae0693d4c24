-- The types of the operands of a function, and which of them lie in it.
use Rattle.std.proofs.Common.{◌≡◌, ◌<◌, ℕ, zero, suc, Bool, true, false, nat_eq, List, [], ◌∷◌, Option, None, Some, not, length, map, slice_get, refl, sym, ap, subst, ◌∙◌, arith, All}
use Rattle.std.specs.List.{find, list_any}
use Rattle.std.specs.Option.{option_map, option_map_or}
use Rattle.std.proofs.lemmas.Bool.{eqb-true, eqb-false, eq-eqb, not-false, or_from, or_parts}
use Rattle.std.proofs.lemmas.List.Elements.{All-nil, All-cons, All-head, All-tail}
use Rattle.support.proofs.ListLaws.{item_there}
use Rattle.kinds.specs.declared.rules.Takes.{Takes}
use Rattle.kinds.specs.declared.rules.Takes.TheVariants as O
use Rattle.kinds.specs.Types.{result_of}
use Rattle.kinds.specs.Held.{IsFirstClass}
use Rattle.kinds.specs.Held.{is_void as void_tree}
use Rattle.llvm_core.specs.declared.numbers.LLVMType.{LLVMType}
use Rattle.llvm_core.specs.declared.numbers.LLVMConst.{LLVMConst}
use Rattle.llvm_core.specs.declared.numbers.LLVMFunction.{LLVMFunction}
use Rattle.llvm_core.specs.declared.numbers.LLVMInstRef.{LLVMInstRef}
use Rattle.llvm_core.specs.declared.consts.LLVMConstKind.{LLVMConstKind}
use Rattle.llvm_core.specs.declared.consts.LLVMConstKind.TheVariants as C
use Rattle.llvm_core.specs.declared.code.LLVMValue.{LLVMValue}
use Rattle.llvm_core.specs.declared.code.LLVMValue.TheVariants as V
use Rattle.llvm_core.specs.declared.code.FunctionData.{FunctionData}
use Rattle.llvm_core.specs.Module.{Module}
use Rattle.llvm_core.specs.Code.{param_names}
use Rattle.llvm_core.specs.Parts.{IsValue, value_type, param_types}
use Rattle.llvm_core.specs.Parts.{const_type as type_of_const}
use Rattle.llvm_core.specs.Sound.{IsModule}
use Rattle.llvm_core.specs.Data.{TypeTree, VoidType, Operand, Placed, const_at, type_at, trees_of, const_type, operand_of, param_type, nth_type, placed_in, operand_type}
use Rattle.llvm_core.specs.Checked.{home, is_outside, return_type, returns_void, returns_other, misfits_return}
use Rattle.llvm_core.specs.Consts.{is_placeholder}
use Rattle.llvm_core.specs.Form.{IsFormConst, IsNarrowOperand, HasNumber, IsOperandOf, IsReturning, types_of}
use Rattle.llvm_core.specs.Form.{returns_void as void_returned}
use Rattle.llvm_core.proofs.ApartLemmas.{apart, same_type}
use Rattle.llvm_core.proofs.RuleLaws.{tree_of}
use Rattle.llvm_core.proofs.DataLemmas.{within_at, const_type_of, placeholder_const_of}
use Rattle.llvm_core.proofs.ElementLemmas.{form_there}
use Rattle.llvm_core.proofs.WithinLemmas.{const_type_within}
use Rattle.llvm_core.proofs.FormTypes.{numbered, signature_of, function_typed, param_types_are, nth_is, return_type_is, void_kept}
use Rattle.llvm_core.proofs.FormPlaces.{shown, own_inst, in_home}

-- ---- instructions by number

-- the first instruction of a number
record HasFirst (n : ℕ) (ps : List Placed) : Type 0 where
  first : Placed
  place : ℕ
  found : find (λ (x : Placed). nat_eq x.number n) ps ≡ Some first
  here : slice_get ps place ≡ Some first
  numbered : first.number ≡ n

find_number : (n : ℕ) (ps : List Placed) → HasNumber n ps → HasFirst n ps
find_number n [] h = absurd cc
find_number n (p ∷ ps) h = by (nat_eq p.number n) refl h (find_number n ps)
  where
    by : (b : Bool) → nat_eq p.number n ≡ b → HasNumber n (p ∷ ps) → (HasNumber n ps → HasFirst n ps) → HasFirst n (p ∷ ps)
    by true e h rest = record { first = p; place = 0; found = rw e refl; here = refl; numbered = eqb-true p.number n e }
    by false e (zero, q, at, same) rest = let here : p ≡ q = (cc) in absurd (eqb-false p.number n e (ap (λ (x : Placed). x.number) here ∙ same))
    by false e (suc i, q, at, same) rest = let r = rest (i, q, at, same) in record { first = r.first; place = suc r.place; found = rw e r.found; here = r.here; numbered = r.numbered }

-- ---- types of values

-- the value has a type, whose tree is this
pub record HasType (m : Module) (v : LLVMValue) (tree : TypeTree) : Type 0 where
  pub type : LLVMType
  pub type_is : value_type m v ≡ Some type
  pub within : type.0 < length m.types
  pub tree_is : type_at (trees_of m).types type ≡ tree

module _ (m : Module) (f : ℕ) (x : FunctionData) (sound : IsModule m) (at : slice_get m.functions f ≡ Some x) where
  const_typed : (c : LLVMConst) → IsValue m (V.Const c) → HasType m (V.Const c) (operand_type (shown m f x) (operand_of (trees_of m) (V.Const c)))
  const_typed c here =
      let k = item_there m.consts c.0 here in
      record {
        type = type_of_const k.0;
        type_is = ap (option_map type_of_const) k.1;
        within = const_type_within m k.0 (sound.consts c.0 k.0 k.1);
        tree_is = sym (const_type_of m c k.0 sound k.1);
      }

  names_of_params : (g : LLVMFunction) → g.0 ≡ f → length (param_names m.functions g) ≡ length x.params
  names_of_params g same = ap (λ o. length (option_map_or (λ (y : FunctionData). y.params) o [])) (ap (slice_get m.functions) same ∙ at)

  param_typed : (g : LLVMFunction) (place : ℕ) → g.0 ≡ f → IsValue m (V.Param g place) → HasType m (V.Param g place) (operand_type (shown m f x) (operand_of (trees_of m) (V.Param g place)))
  param_typed g place same here =
      let typed = function_typed m f x sound at in
      let s = signature_of m f x typed.0 typed.1 typed.2 sound at typed.3 in
      let at_g : slice_get m.functions g.0 ≡ Some x = ap (slice_get m.functions) same ∙ at in
      let named = names_of_params g same in
      let count : length x.params ≡ length s.params = (sound.functions f x at).params ∙ ap length (param_types_are m f x typed.0 typed.1 sound at s) in
      let t = item_there s.params place (omega (arith, here, named, count)) in
      let tree = nth_is (trees_of m).types s.params place t.0 t.1 in
      record {
        type = t.0;
        type_is = ap (λ o. slice_get (option_map_or (param_types m) o []) place) at_g ∙ ap (λ ts. slice_get ts place) (param_types_are m f x typed.0 typed.1 sound at s) ∙ t.1;
        within = within_at s.params (λ (t : LLVMType). t.0 < length m.types) s.params_within place t.0 t.1;
        tree_is = sym tree ∙ ap (λ ts. nth_type ts place) s.params_are ∙ sym (rw (eq-eqb g.0 f same) (ap (λ t. param_type t place) typed.3));
      }

  result_typed : (i : LLVMInstRef) → HasNumber i.0 (placed_in (shown m f x)) → HasType m (V.Inst i) (operand_type (shown m f x) (operand_of (trees_of m) (V.Inst i)))
  result_typed i h =
      let found = find_number i.0 (placed_in (shown m f x)) h in
      let own = own_inst m f x found.place found.first sound at found.here in
      let number : own.number ≡ i.0 = ap (λ (q : Placed). q.number) (sym own.shown_as) ∙ found.numbered in
      let here : slice_get m.insts i.0 ≡ Some own.inst = ap (slice_get m.insts) (sym number) ∙ own.here in
      record {
        type = own.inst.ty;
        type_is = rw here refl;
        within = (sound.insts i.0 own.inst here).typed;
        tree_is = sym (ap (λ o. option_map_or (λ (q : Placed). q.type) o VoidType) found.found ∙ ap (λ (q : Placed). q.type) own.shown_as);
      }

  -- an instruction of the function has its number in the data
  inst_stands : (i : LLVMInstRef) → IsValue m (V.Inst i) → is_outside m (numbered f) (V.Inst i) ≡ false → HasNumber i.0 (placed_in (shown m f x))
  inst_stands i here inside =
      let z = item_there m.insts i.0 here in
      let home_is : (home m z.0).0 ≡ f = eqb-true (home m z.0).0 f (not-false (nat_eq (home m z.0).0 f) (rw z.1 at inside)) in
      let k = in_home m f x i.0 z.0 sound at z.1 home_is in
      (k.0, _, k.1, refl)

  -- a value that is not outside has the type that the data give it
  pub value_typed : (v : LLVMValue) → IsValue m v → is_outside m (numbered f) v ≡ false → HasType m v (operand_type (shown m f x) (operand_of (trees_of m) v))
  value_typed (V.Const c) here inside = const_typed c here
  value_typed (V.Param g i) here inside = param_typed g i (eqb-true g.0 f (not-false (nat_eq g.0 f) inside)) here
  value_typed (V.Inst i) here inside = result_typed i (inst_stands i here inside)

  -- ---- values of the function

  -- of a first class type
  abbrev pub IsNarrowHere : Operand → Type 0
  IsNarrowHere o = IsNarrowOperand (shown m f x) o

  const_stands : (c : LLVMConst) → IsValue m (V.Const c) → is_outside m (numbered f) (V.Const c) ≡ false → IsFormConst (const_at (trees_of m).consts c)
  const_stands c here inside = let k = item_there m.consts c.0 here in form_there m sound c k.0 k.1 (ap (λ o. option_map_or is_placeholder o false) (sym k.1) ∙ inside)

  -- a value that is there and is not outside is an operand of the function
  pub value_stands : (v : LLVMValue) → IsValue m v → is_outside m (numbered f) v ≡ false → IsOperandOf (shown m f x) (operand_of (trees_of m) v)
  value_stands (V.Const c) here inside = const_stands c here inside
  value_stands (V.Param g place) here inside =
      let same = eqb-true g.0 f (not-false (nat_eq g.0 f) inside) in
      let named = names_of_params g same in
      (same, omega (arith, here, named))
  value_stands (V.Inst i) here inside = inst_stands i here inside

  const_inside : (c : LLVMConst) → IsFormConst (const_at (trees_of m).consts c) → (o : Option LLVMConstKind) → slice_get m.consts c.0 ≡ o → option_map_or is_placeholder o false ≡ false
  const_inside c h None e = refl
  const_inside c h (Some (C.Int t value)) e = refl
  const_inside c h (Some (C.Filled fill t)) e = refl
  const_inside c h (Some (C.Bytes t bytes)) e = refl
  const_inside c h (Some (C.List t elements)) e = refl
  const_inside c h (Some (C.Splat t element)) e = refl
  const_inside c h (Some (C.Placeholder number t)) e = absurd (rw (placeholder_const_of m c number t e) at h)

  -- an operand of the function is not outside
  pub value_inside : (v : LLVMValue) → IsOperandOf (shown m f x) (operand_of (trees_of m) v) → is_outside m (numbered f) v ≡ false
  value_inside (V.Const c) h = const_inside c h (slice_get m.consts c.0) refl
  value_inside (V.Param g i) h = rw (eq-eqb g.0 f h.0) refl
  value_inside (V.Inst i) h =
      let own = own_inst m f x h.0 h.1 sound at h.2 in
      let number : own.number ≡ i.0 = ap (λ (q : Placed). q.number) (sym own.shown_as) ∙ h.3 in
      let here : slice_get m.insts i.0 ≡ Some own.inst = ap (slice_get m.insts) (sym number) ∙ own.here in
      rw here (rw (eq-eqb (home m own.inst).0 f own.home_is) refl)

  -- ---- lists of values

  -- the tree of a value's type is that of its operand
  tree_same : (v : LLVMValue) → IsValue m v → is_outside m (numbered f) v ≡ false → operand_type (shown m f x) (operand_of (trees_of m) v) ≡ tree_of m sound v
  tree_same v here inside = let t = value_typed v here inside in rw t.type_is (sym t.tree_is)

  pub types_same : (vs : List LLVMValue) → All (IsValue m) vs → list_any (is_outside m (numbered f)) vs ≡ false → types_of (shown m f x) (map (operand_of (trees_of m)) vs) ≡ map (tree_of m sound) vs
  types_same [] here none = refl
  types_same (v ∷ vs) here none =
      let inside = or_parts (is_outside m (numbered f) v) (list_any (is_outside m (numbered f)) vs) none in
      let first = tree_same v (All-head (IsValue m) v vs here) inside.0 in
      let rest = types_same vs (All-tail (IsValue m) v vs here) inside.1 in
      cc

  pub values_stand : (vs : List LLVMValue) → All (IsValue m) vs → list_any (is_outside m (numbered f)) vs ≡ false → All (IsOperandOf (shown m f x)) (map (operand_of (trees_of m)) vs)
  values_stand [] here none = All-nil (IsOperandOf (shown m f x))
  values_stand (v ∷ vs) here none =
      let inside = or_parts (is_outside m (numbered f) v) (list_any (is_outside m (numbered f)) vs) none in
      All-cons (IsOperandOf (shown m f x)) (operand_of (trees_of m) v) (map (operand_of (trees_of m)) vs) (value_stands v (All-head (IsValue m) v vs here) inside.0) (values_stand vs (All-tail (IsValue m) v vs here) inside.1)

  pub values_inside : (vs : List LLVMValue) → All (IsOperandOf (shown m f x)) (map (operand_of (trees_of m)) vs) → list_any (is_outside m (numbered f)) vs ≡ false
  values_inside [] stand = refl
  values_inside (v ∷ vs) stand =
      let os = map (operand_of (trees_of m)) vs in
      or_from (is_outside m (numbered f) v) (list_any (is_outside m (numbered f)) vs) (value_inside v (All-head (IsOperandOf (shown m f x)) (operand_of (trees_of m) v) os stand))
      (values_inside vs (All-tail (IsOperandOf (shown m f x)) (operand_of (trees_of m) v) os stand))

  -- ---- what the function returns

  -- the type of what the function returns
  record HasReturn : Type 0 where
    returned : LLVMType
    type_is : return_type m (numbered f) ≡ Some returned
    within : returned.0 < length m.types
    tree_is : type_at (trees_of m).types returned ≡ result_of (shown m f x).type

  returned_here : HasReturn
  returned_here =
      let typed = function_typed m f x sound at in
      let s = signature_of m f x typed.0 typed.1 typed.2 sound at typed.3 in
      record { returned = s.returned; type_is = return_type_is m f x typed.0 typed.1 sound at s; within = s.within; tree_is = s.returned_is ∙ sym (ap result_of typed.3) }

  pub same_void : returns_void m (numbered f) ≡ void_returned (shown m f x)
  same_void = let r = returned_here in rw r.type_is (void_kept m r.returned sound r.within ∙ ap void_tree r.tree_is)

  -- a value is of the type that the function returns where its operand is
  value_returned : (v : LLVMValue) → IsValue m v → is_outside m (numbered f) v ≡ false → operand_type (shown m f x) (operand_of (trees_of m) v) ≡ result_of (shown m f x).type → returns_other m (numbered f) v ≡ false
  value_returned v here inside e =
      let t = value_typed v here inside in
      let r = returned_here in
      let same = (apart m sound).types t.type r.returned t.within r.within (t.tree_is ∙ e ∙ sym r.tree_is) in
      rw (t.type_is, r.type_is) (ap not (eq-eqb t.type.0 r.returned.0 (ap (λ (t : LLVMType). t.0) same)))

  operand_returned : (v : LLVMValue) → IsValue m v → is_outside m (numbered f) v ≡ false → returns_other m (numbered f) v ≡ false → operand_type (shown m f x) (operand_of (trees_of m) v) ≡ result_of (shown m f x).type
  operand_returned v here inside fits =
      let t = value_typed v here inside in
      let r = returned_here in
      let same = eqb-true t.type.0 r.returned.0 (not-false (nat_eq t.type.0 r.returned.0) (rw (t.type_is, r.type_is) at fits)) in
      sym t.tree_is ∙ ap (type_at (trees_of m).types) (same_type t.type r.returned same) ∙ r.tree_is

  abbrev IsReturnedHere : Operand → Type 0
  IsReturnedHere o = operand_type (shown m f x) o ≡ result_of (shown m f x).type

  values_returned : (vs : List LLVMValue) → All (IsValue m) vs → list_any (is_outside m (numbered f)) vs ≡ false → All IsReturnedHere (map (operand_of (trees_of m)) vs) → list_any (returns_other m (numbered f)) vs ≡ false
  values_returned [] here none all = refl
  values_returned (v ∷ vs) here none all =
      let o = operand_of (trees_of m) v in
      let os = map (operand_of (trees_of m)) vs in
      let inside = or_parts (is_outside m (numbered f) v) (list_any (is_outside m (numbered f)) vs) none in
      or_from (returns_other m (numbered f) v) (list_any (returns_other m (numbered f)) vs)
      (value_returned v (All-head (IsValue m) v vs here) inside.0 (All-head IsReturnedHere o os all))
      (values_returned vs (All-tail (IsValue m) v vs here) inside.1 (All-tail IsReturnedHere o os all))

  operands_returned : (vs : List LLVMValue) → All (IsValue m) vs → list_any (is_outside m (numbered f)) vs ≡ false → list_any (returns_other m (numbered f)) vs ≡ false → All IsReturnedHere (map (operand_of (trees_of m)) vs)
  operands_returned [] here none fits = All-nil IsReturnedHere
  operands_returned (v ∷ vs) here none fits =
      let inside = or_parts (is_outside m (numbered f) v) (list_any (is_outside m (numbered f)) vs) none in
      let parts = or_parts (returns_other m (numbered f) v) (list_any (returns_other m (numbered f)) vs) fits in
      All-cons IsReturnedHere (operand_of (trees_of m) v) (map (operand_of (trees_of m)) vs) (operand_returned v (All-head (IsValue m) v vs here) inside.0 parts.0)
      (operands_returned vs (All-tail (IsValue m) v vs here) inside.1 parts.1)

  -- a line for each word
  pub return_fits : (k : Takes) (vs : List LLVMValue) → All (IsValue m) vs → list_any (is_outside m (numbered f)) vs ≡ false → IsReturning k (shown m f x) (map (operand_of (trees_of m)) vs) → misfits_return k m (numbered f) vs ≡ false
  return_fits O.Nothing vs here none all = refl
  return_fits (O.One a) vs here none all = refl
  return_fits (O.Two a b) vs here none all = refl
  return_fits (O.Three a b c) vs here none all = refl
  return_fits O.Return vs here none all = values_returned vs here none all

  pub return_form : (k : Takes) (vs : List LLVMValue) → All (IsValue m) vs → list_any (is_outside m (numbered f)) vs ≡ false → misfits_return k m (numbered f) vs ≡ false → IsReturning k (shown m f x) (map (operand_of (trees_of m)) vs)
  return_form O.Nothing vs here none fits = tt
  return_form (O.One a) vs here none fits = tt
  return_form (O.Two a b) vs here none fits = tt
  return_form (O.Three a b c) vs here none fits = tt
  return_form O.Return vs here none fits = operands_returned vs here none fits

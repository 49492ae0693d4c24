-- The test of a module decides whether it is of the form.
use Rattle.std.proofs.Common.{◌≡◌, ◌<◌, ℕ, Bool, true, false, not, ◌&&◌, List, [], ◌∷◌, Option, None, Some, length, map, slice_get, refl, sym, ap, subst, ◌∙◌, arith, All}
use Rattle.std.specs.Bool.{Decides}
use Rattle.std.specs.List.{list_all}
use Rattle.std.specs.Prelude.{IfSome}
use Rattle.std.specs.Option.{option_map, option_map_or}
use Rattle.std.proofs.lemmas.Bool.{ltb-true, lt-ltb, false_from_ne_true}
use Rattle.std.proofs.lemmas.Option.{same_Some}
use Rattle.std.proofs.lemmas.Bool.Decides.{Decides-at, Decides-and, Decides-like, Decides-by_and}
use Rattle.std.proofs.lemmas.List.Elements.{All-nil, All-cons, All-head, All-tail, All-weaker}
use Rattle.support.proofs.ListLaws.{all_from, item_there}
use Rattle.kinds.specs.Types.{types_list, depth}
use Rattle.kinds.specs.Fitting.{is_first_class}
use Rattle.kinds.specs.Held.{too_deep, each_throughout, IsShallow, IsFirstClass, IsReturned}
use Rattle.kinds.specs.Structs.{IsFormStruct}
use Rattle.kinds.proofs.DepthLaws.{result_shallow, params_shallow}
use Rattle.llvm_core.specs.declared.numbers.LLVMBasicBlock.{LLVMBasicBlock}
use Rattle.llvm_core.specs.declared.structs.StructFields.{StructFields}
use Rattle.llvm_core.specs.declared.structs.StructData.{StructData}
use Rattle.llvm_core.specs.declared.code.FunctionData.{FunctionData}
use Rattle.llvm_core.specs.Module.{Module}
use Rattle.llvm_core.specs.Names.{is_good_name, IsGoodOrNone}
use Rattle.llvm_core.specs.Parts.{is_kind}
use Rattle.llvm_core.specs.Sound.{AreFieldsIn, IsStructIn, IsModule}
use Rattle.llvm_core.specs.Data.{TypeTree, TypeTrees, FunctionType, Operand, Placed, Block, Function, StructBody, ModuleData, Instruction, Phi, Applied, type_at, types_at, trees_of, fields_of, struct_of, data_of, operand_type}
use Rattle.llvm_core.specs.declared.check_err.Place.TheVariants as P
use Rattle.llvm_core.specs.declared.check_err.CheckErr.TheVariants.{TooDeep}
use Rattle.llvm_core.specs.Checked.{IsChecked, is_deep, struct_names}
use Rattle.llvm_core.specs.Form.{IsNarrowOperand, IsOperand, IsForm, IsFormFunction, IsFormBlock, IsFormPlaced, IsFormInstruction, IsNarrow, IsNarrowFunction, IsNarrowBlock, IsNarrowPlaced, operands_of}
use Rattle.llvm_core.proofs.DataLemmas.{within_at, function_at, function_tree_of, block_count_of, block_of_number}
use Rattle.llvm_core.proofs.FormTypes.{signature_of, function_typed}
use Rattle.llvm_core.proofs.FormPlaces.{shown, block_from}
use Rattle.llvm_core.proofs.DistinctLaws.{each_function, blocks_once}
use Rattle.llvm_core.proofs.CheckedForm.{form_of_checked}
use Rattle.llvm_form.specs.Narrow.{is_good_or_none, is_first_class_type, is_returned_kind, is_narrow_block, is_narrow_block_data, is_narrow_signature, has_body, is_narrow_function_data, is_narrow}
use Rattle.llvm_form.specs.Once.{HasInstsOnce, AreInstsOnce}
use Rattle.llvm_form.proofs.AllLaws.{each_passes, all_pass, all_mapped, mapped_decided}
use Rattle.llvm_form.proofs.TypeLaws.{good_or_none, deep_shallow, first_class_types, returned_decided}
use Rattle.llvm_form.proofs.CodeLaws.{block_decided}
use Rattle.llvm_form.proofs.WholeLaws.{fields_whole}

-- ---- functions

-- the type of a function of the form: it is not variadic
record IsNarrowSignature (t : TypeTree) : Type 0 where
  result : TypeTree
  params : TypeTrees
  is : t ≡ FunctionType result params false
  returns : IsReturned result
  takes : All IsFirstClass (types_list params)
  shallow : IsShallow t

type_by : (result : TypeTree) (types : TypeTrees) (variadic returned params : Bool) → IsShallow (FunctionType result types variadic) → Decides returned (IsReturned result) → Decides params (All IsFirstClass (types_list types))
    → Decides (not variadic && returned && params) (IsNarrowSignature (FunctionType result types variadic))
type_by result types true returned params shallow d e = (λ h. absurd (cc), λ h. let same = h.is in absurd (cc))
type_by result types false returned params shallow d e = Decides-like (returned && params) (λ h. record { result = result; params = types; is = refl; returns = h.0; takes = h.1; shallow = shallow })
    (λ (h : IsNarrowSignature (FunctionType result types false)).
    let same = h.is in
    let first : h.result ≡ result = (cc) in
    let others : h.params ≡ types = (cc) in
    (subst IsReturned first h.returns, subst (λ ts. All IsFirstClass (types_list ts)) others h.takes))
    (Decides-and returned params d e)

module _ (m : Module) (sound : IsModule m) (checked : IsChecked m) (f : ℕ) (x : FunctionData) (at : slice_get m.functions f ≡ Some x) where
  type_shallow : IsShallow (shown m f x).type
  type_shallow = deep_shallow m x.ty (false_from_ne_true (is_deep m x.ty) (λ deep. checked (TooDeep (P.Function f)) (x, at, deep)))

  type_decided : Decides (is_kind (is_narrow_signature m) m.types x.ty) (IsNarrowSignature (shown m f x).type)
  type_decided =
      let typed = function_typed m f x sound at in
      let s = signature_of m f x typed.0 typed.1 typed.2 sound at typed.3 in
      let here = ap (λ o. option_map_or (is_narrow_signature m) o false) s.kind_is in
      let tree = function_tree_of m x.ty s.returned s.params s.variadic sound s.kind_is in
      let result = type_at (trees_of m).types s.returned in
      let types = types_at (trees_of m).types s.params in
      let shallow = ap (λ τ. too_deep (depth τ)) (sym tree) ∙ type_shallow in
      Decides-at (is_kind (is_narrow_signature m) m.types x.ty) (not s.variadic && is_kind is_returned_kind m.types s.returned && list_all (is_first_class_type m) s.params) here
      (subst (λ τ. Decides (not s.variadic && is_kind is_returned_kind m.types s.returned && list_all (is_first_class_type m) s.params) (IsNarrowSignature τ)) (sym tree)
      (type_by result types s.variadic (is_kind is_returned_kind m.types s.returned) (list_all (is_first_class_type m) s.params) shallow
      (returned_decided m sound s.returned s.within (result_shallow result types s.variadic shallow)) (first_class_types m sound s.params s.params_within (params_shallow result types s.variadic shallow))))

  body_decided : Decides (has_body m x) (¬ ((shown m f x).blocks ≡ []))
  body_decided =
      let count = block_count_of m f x sound at in (
        λ e h. let some = ltb-true 0 (length x.blocks) e in let none = ap length h in absurd (omega (arith, some, none, count)),
        λ h. lt-ltb 0 (length x.blocks) (by x.blocks (shown m f x).blocks count h),
      )
    where
      by : (xs : List LLVMBasicBlock) (bs : List Block) → length bs ≡ length xs → ¬ (bs ≡ []) → 0 < length xs
      by [] [] e h = absurd (h refl)
      by [] (b ∷ bs) e h = absurd (omega (arith, e))
      by (y ∷ xs) bs e h = omega arith

  blocks_decided : Decides (list_all (is_narrow_block m) x.blocks) (All (IsNarrowBlock (shown m f x)) (shown m f x).blocks)
  blocks_decided = (
    λ e. all_from (IsNarrowBlock (shown m f x)) (shown m f x).blocks (λ place c is.
        let l = block_from m f x place c sound at is in
        let passes = each_passes (is_narrow_block m) x.blocks place (record { 0 = l.number }) e l.listed in
        (block_decided m sound f x at checked place c l).0 (sym (ap (λ o. option_map_or (is_narrow_block_data m) o false) l.here) ∙ passes)),
    λ all. all_pass (is_narrow_block m) x.blocks (λ place b listed.
        let y = item_there m.blocks b.0 (within_at x.blocks (λ (b : LLVMBasicBlock). b.0 < length m.blocks) (sound.functions f x at).blocks place b listed) in
        let is = block_of_number m f x place b y.0 sound at listed y.1 in
        let l = block_from m f x place _ sound at is in
        let number : b ≡ record { 0 = l.number } = same_Some b (record { 0 = l.number }) (sym listed ∙ l.listed) in
        let here = ap (λ (b : LLVMBasicBlock). slice_get m.blocks b.0) number ∙ l.here in
        ap (λ o. option_map_or (is_narrow_block_data m) o false) here ∙ (block_decided m sound f x at checked place _ l).1 (within_at (shown m f x).blocks (IsNarrowBlock (shown m f x)) all place _ is)),
  )

  -- the parts of a narrow function
  record NarrowParts : Type 0 where
    name : is_good_name x.name ≡ true
    type : IsNarrowSignature (shown m f x).type
    params : All IsGoodOrNone x.params
    body : ¬ ((shown m f x).blocks ≡ [])
    blocks : All (IsNarrowBlock (shown m f x)) (shown m f x).blocks

  parts_decided : Decides (is_narrow_function_data m x) NarrowParts
  parts_decided =
      let named = is_good_name x.name in
      let typed = is_kind (is_narrow_signature m) m.types x.ty in
      let params = list_all is_good_or_none x.params in
      let name_decided : Decides named (is_good_name x.name ≡ true) = (λ e. e, λ h. h) in
      let params_decided : Decides params (All IsGoodOrNone x.params) = Decides-by_and is_good_or_none IsGoodOrNone (list_all is_good_or_none) good_or_none refl (λ n ns. refl) x.params in
      let first = Decides-and named typed name_decided type_decided in
      let second = Decides-and (named && typed) params first params_decided in
      let third = Decides-and (named && typed && params) (has_body m x) second body_decided in
      Decides-like (is_narrow_function_data m x) (λ h. record { name = h.0.0.0.0; type = h.0.0.0.1; params = h.0.0.1; body = h.0.1; blocks = h.1 })
      (λ (p : NarrowParts). ((((p.name, p.type), p.params), p.body), p.blocks))
      (Decides-and (named && typed && params && has_body m x) (list_all (is_narrow_block m) x.blocks) third blocks_decided)

  function_decided : HasInstsOnce (shown m f x) → Decides (is_narrow_function_data m x) (IsNarrowFunction (shown m f x))
  function_decided once = Decides-like (is_narrow_function_data m x) to back parts_decided
    where
      to : NarrowParts → IsNarrowFunction (shown m f x)
      to p = record {
        name = p.name;
        result = p.type.result;
        types = p.type.params;
        type = p.type.is;
        returns = p.type.returns;
        takes = p.type.takes;
        param_names = p.params;
        body = p.body;
        blocks = p.blocks;
        block_numbers = blocks_once m f x sound at;
        numbers = once;
      }

      back : IsNarrowFunction (shown m f x) → NarrowParts
      back n = record { name = n.name; type = record { result = n.result; params = n.types; is = n.type; returns = n.returns; takes = n.takes; shallow = type_shallow }; params = n.param_names; body = n.body; blocks = n.blocks }

-- ---- a function of the form is narrow

module _ (f : Function) where
  operands_narrow : (b : ℕ) (type : TypeTree) (i : Instruction) → IsFormInstruction f b type i → All (IsNarrowOperand f) (operands_of i)
  operands_narrow b type (Phi entries) form = by entries form.0
    where
      by : (es : List (Operand × ℕ)) → All (λ (e : Operand × ℕ). IsOperand f type e.0) es → All (IsNarrowOperand f) (map (λ (e : Operand × ℕ). e.0) es)
      by [] all = All-nil (IsNarrowOperand f)
      by (e ∷ es) all =
          let Q : Operand × ℕ → Type 0 = λ e. IsOperand f type e.0 in
          let here = All-head Q e es all in
          let first : IsNarrowOperand f e.0 = subst IsFirstClass (sym here.typed) here.first_class in
          All-cons (IsNarrowOperand f) e.0 (map (λ (e : Operand × ℕ). e.0) es) first (by es (All-tail Q e es all))
  operands_narrow b type (Applied r) form = of_types r.operands form.first_class
    where
      of_types : (os : List Operand) → All IsFirstClass (map (operand_type f) os) → All (IsNarrowOperand f) os
      of_types [] all = All-nil (IsNarrowOperand f)
      of_types (o ∷ os) all =
          let τs = map (operand_type f) os in
          All-cons (IsNarrowOperand f) o os (All-head IsFirstClass (operand_type f o) τs all) (of_types os (All-tail IsFirstClass (operand_type f o) τs all))

  narrow_placed : (b : ℕ) (p : Placed) → IsFormPlaced f b p → IsNarrowPlaced f p
  narrow_placed b p form = record { name = form.name; unnamed = form.unnamed; result = form.returned; operands = operands_narrow b p.type p.instruction form.instruction }

  narrow_block : (b : Block) → IsFormBlock f b → IsNarrowBlock f b
  narrow_block b form = record { label = form.label; instructions = All-weaker (IsFormPlaced f b.number) (IsNarrowPlaced f) (narrow_placed b.number) b.instructions form.instructions }

  narrow_function : IsFormFunction f → IsNarrowFunction f
  narrow_function form = record {
    name = form.name;
    result = form.result;
    types = form.types;
    type = form.type;
    returns = form.returns;
    takes = form.takes;
    param_names = form.param_names;
    body = form.body;
    blocks = All-weaker (IsFormBlock f) (IsNarrowBlock f) narrow_block f.blocks form.blocks;
    block_numbers = form.block_numbers;
    numbers = form.numbers;
  }

pub narrow_of_form : (d : ModuleData) → IsForm d → IsNarrow d
narrow_of_form d form = record { functions = All-weaker IsFormFunction IsNarrowFunction narrow_function d.functions form.functions; structs = form.structs }

-- ---- structs

module _ (m : Module) (sound : IsModule m) where
  struct_decided : (x : StructData) → IsStructIn m.types x → Decides (is_good_name x.name) (IsFormStruct (struct_of (trees_of m).types x))
  struct_decided x there = (λ e. record { name = e; fields = by x.body there }, λ h. h.name)
    where
      by : (b : Option StructFields) → IfSome b (AreFieldsIn m.types) → option_map_or (λ (b : StructBody). each_throughout is_first_class b.fields) (option_map (fields_of (trees_of m).types) b) true ≡ true
      by None there = refl
      by (Some b) there = fields_whole m sound b.types there.within there.fit

  structs_decided : Decides (list_all is_good_name (struct_names m)) (All IsFormStruct (data_of m).structs)
  structs_decided =
      let name : StructData → List ℕ = λ x. x.name in
      Decides-at (list_all is_good_name (struct_names m)) (list_all (λ (x : StructData). is_good_name x.name) m.structs) (all_mapped is_good_name name m.structs)
      (mapped_decided (λ (x : StructData). is_good_name x.name) IsFormStruct (struct_of (trees_of m).types) m.structs (λ i x at. struct_decided x (within_at m.structs (IsStructIn m.types) sound.structs i x at)))

-- ---- a module

module _ (m : Module) (sound : IsModule m) (checked : IsChecked m) (once : AreInstsOnce (data_of m)) where
  shown_once : (f : ℕ) (x : FunctionData) → slice_get m.functions f ≡ Some x → HasInstsOnce (shown m f x)
  shown_once f x at = within_at (data_of m).functions HasInstsOnce once f (shown m f x) (function_at m f x at)

  functions_decided : Decides (list_all (is_narrow_function_data m) m.functions) (All IsNarrowFunction (data_of m).functions)
  functions_decided = (
    λ e. each_function m IsNarrowFunction (λ f x at. (function_decided m sound checked f x at (shown_once f x at)).0 (each_passes (is_narrow_function_data m) m.functions f x e at)),
    λ narrow. all_pass (is_narrow_function_data m) m.functions (λ f x at.
        (function_decided m sound checked f x at (shown_once f x at)).1 (within_at (data_of m).functions IsNarrowFunction narrow f (shown m f x) (function_at m f x at))),
  )

  narrow_decided : Decides (is_narrow m) (IsNarrow (data_of m))
  narrow_decided = Decides-like (is_narrow m) (λ h. record { functions = h.0; structs = h.1 }) (λ (n : IsNarrow (data_of m)). (n.functions, n.structs))
      (Decides-and (list_all (is_narrow_function_data m) m.functions) (list_all is_good_name (struct_names m)) functions_decided (structs_decided m sound))

  -- the test says whether the module is of the form
  pub form_decided : Decides (is_narrow m) (IsForm (data_of m))
  form_decided = (λ e. form_of_checked m sound checked (narrow_decided.0 e), λ form. narrow_decided.1 (narrow_of_form (data_of m) form))

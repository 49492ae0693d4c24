-- The types in use of module data nest no deeper than is allowed just where none is too deep by the rules.
use Rattle.std.proofs.Common.{◌≡◌, ℕ, zero, suc, Bool, true, false, not, ◌++◌, nat_eq, if◌then◌else◌, List, [], ◌∷◌, Option, Some, None, All, map, slice_get, refl, sym, ap, subst, ◌∙◌}
use Rattle.std.specs.List.{find, flat_map, list_any, position_or_len}
use Rattle.std.specs.Option.{option_map, option_map_or}
use Rattle.std.proofs.lemmas.Bool.{not-false, or_parts}
use Rattle.std.proofs.lemmas.List.Elements.{All-nil, All-head, All-tail, All-append, All-map, All-weaker}
use Rattle.std.proofs.lemmas.List.Folds.{find_at}
use Rattle.std.proofs.lemmas.Option.{slice_get-map, same_Some}
use Rattle.support.proofs.ListLaws.{all_from, item_there, slice_get-kept, slice_get-append_right, in_joined, from_joined}
use Rattle.kinds.specs.Types.{types_list, takes_of}
use Rattle.kinds.specs.Held.{deepest}
use Rattle.kinds.specs.Structs.{nests, IsNested}
use Rattle.kinds.proofs.NestLaws.{parts_nested, void_nested}
use Rattle.llvm_core.specs.declared.structs.StructData.{StructData}
use Rattle.llvm_core.specs.declared.code.FunctionData.{FunctionData}
use Rattle.llvm_core.specs.declared.code.InstData.{InstData}
use Rattle.llvm_core.specs.declared.code.PhiEntry.{PhiEntry}
use Rattle.llvm_core.specs.declared.code.LLVMInst.{LLVMInst}
use Rattle.llvm_core.specs.declared.code.LLVMInst.TheVariants as I
use Rattle.llvm_core.specs.declared.code.LLVMValue.{LLVMValue}
use Rattle.llvm_core.specs.declared.code.LLVMValue.TheVariants as V
use Rattle.llvm_core.specs.Module.{Module}
use Rattle.llvm_core.specs.Parts.{IsValue, IsEntry, HasValues, operands}
use Rattle.llvm_core.specs.Parts.{const_type as type_of_const}
use Rattle.llvm_core.specs.Sound.{IsModule}
use Rattle.llvm_core.specs.Data.{TypeTree, VoidType, NamedType, FunctionType, TypeTrees, NoTypes, ThenType, Struct, ConstTree, Operand, Constant, Parameter, Result, Placed, Function, ModuleData, placed_in, nth_type, const_type, operand_type, trees_of, type_at, const_at, operand_of, entry_of, instruction_of, struct_of, structs_of, data_of}
use Rattle.llvm_core.specs.Checked.{is_deep, is_deep_struct, is_deep_value, is_deep_inst}
use Rattle.llvm_core.specs.Form.{operands_of, constant_type, constant_types, types_in}
use Rattle.llvm_core.proofs.DataLemmas.{within_at, const_type_of}
use Rattle.llvm_core.proofs.GivenLemmas.{none_any_at}
use Rattle.llvm_core.proofs.FormPlaces.{shown, own_inst}
use Rattle.llvm_core.proofs.DistinctLaws.{each_function, function_from}

-- ---- of data

module _ (d : ModuleData) (nested : All (IsNested d.structs) (types_in d)) where
  of_structs : List TypeTree
  of_structs = map (λ (s : Struct). NamedType s.name) d.structs

  of_functions : List TypeTree
  of_functions = map (λ (f : Function). f.type) d.functions

  of_results : List TypeTree
  of_results = map (λ (p : Placed). p.type) (flat_map placed_in d.functions)

  of_constants : List TypeTree
  of_constants = flat_map constant_types (flat_map placed_in d.functions)

  in_use : (k : ℕ) (t : TypeTree) → slice_get (types_in d) k ≡ Some t → IsNested d.structs t
  in_use k t at = within_at (types_in d) (IsNested d.structs) nested k t at

  pub struct_nests : (i : ℕ) (s : Struct) → slice_get d.structs i ≡ Some s → IsNested d.structs (NamedType s.name)
  unfolding of_structs of_functions of_results of_constants
  struct_nests i s at =
      let here : slice_get of_structs i ≡ Some (NamedType s.name) = slice_get-map (λ (s : Struct). NamedType s.name) d.structs i ∙ ap (option_map (λ (s : Struct). NamedType s.name)) at in
      in_use i (NamedType s.name) (slice_get-kept (of_structs ++ of_functions ++ of_results) of_constants i (NamedType s.name)
      (slice_get-kept (of_structs ++ of_functions) of_results i (NamedType s.name) (slice_get-kept of_structs of_functions i (NamedType s.name) here)))

  pub function_nests : (i : ℕ) (f : Function) → slice_get d.functions i ≡ Some f → IsNested d.structs f.type
  unfolding of_structs of_functions of_results of_constants
  function_nests i f at =
      let here : slice_get of_functions i ≡ Some f.type = slice_get-map (λ (f : Function). f.type) d.functions i ∙ ap (option_map (λ (f : Function). f.type)) at in
      let k = slice_get-append_right of_structs of_functions i f.type here in
      in_use k.0 f.type (slice_get-kept (of_structs ++ of_functions ++ of_results) of_constants k.0 f.type (slice_get-kept (of_structs ++ of_functions) of_results k.0 f.type k.1))

  pub result_nests : (i : ℕ) (f : Function) (j : ℕ) (p : Placed) → slice_get d.functions i ≡ Some f → slice_get (placed_in f) j ≡ Some p → IsNested d.structs p.type
  unfolding of_structs of_functions of_results of_constants
  result_nests i f j p at is =
      let whole = in_joined placed_in d.functions i j f p at is in
      let here : slice_get of_results whole.0 ≡ Some p.type = slice_get-map (λ (p : Placed). p.type) (flat_map placed_in d.functions) whole.0 ∙ ap (option_map (λ (p : Placed). p.type)) whole.1 in
      let k = slice_get-append_right (of_structs ++ of_functions) of_results whole.0 p.type here in
      in_use k.0 p.type (slice_get-kept (of_structs ++ of_functions ++ of_results) of_constants k.0 p.type k.1)

  -- the type of a constant among the operands of an instruction
  constant_nests : (i : ℕ) (f : Function) (j : ℕ) (p : Placed) (n : ℕ) (o : Operand) (c : ConstTree) → slice_get d.functions i ≡ Some f → slice_get (placed_in f) j ≡ Some p → slice_get (operands_of p.instruction) n ≡ Some o → o ≡ Constant c → IsNested d.structs (const_type c)
  unfolding of_structs of_functions of_results of_constants
  constant_nests i f j p n o c at is here same =
      let own : slice_get (constant_type o) 0 ≡ Some (const_type c) = ap (λ (x : Operand). slice_get (constant_type x) 0) same in
      let among = in_joined constant_type (operands_of p.instruction) n 0 o (const_type c) here own in
      let whole = in_joined placed_in d.functions i j f p at is in
      let all = in_joined constant_types (flat_map placed_in d.functions) whole.0 among.0 p (const_type c) whole.1 among.1 in
      let k = slice_get-append_right (of_structs ++ of_functions ++ of_results) of_constants all.0 (const_type c) all.1 in
      in_use k.0 (const_type c) k.1

  takes_nested : (t : TypeTree) → IsNested d.structs t → All (IsNested d.structs) (types_list (takes_of t))
  takes_nested (FunctionType r ps v) h = All-tail (IsNested d.structs) r (types_list ps) (parts_nested d.structs (FunctionType r ps v) h)
  takes_nested t h = All-nil (IsNested d.structs)

  nth_nested : (ts : TypeTrees) → All (IsNested d.structs) (types_list ts) → (i : ℕ) → IsNested d.structs (nth_type ts i)
  nth_nested NoTypes h i = void_nested d.structs
  nth_nested (ThenType t ts) h zero = All-head (IsNested d.structs) t (types_list ts) h
  nth_nested (ThenType t ts) h (suc i) = nth_nested ts (All-tail (IsNested d.structs) t (types_list ts) h) i

  module _ (i : ℕ) (f : Function) (at : slice_get d.functions i ≡ Some f) where
    param_nests : (b : Bool) (place : ℕ) → IsNested d.structs (if b then nth_type (takes_of f.type) place else VoidType)
    param_nests true place = nth_nested (takes_of f.type) (takes_nested f.type (function_nests i f at)) place
    param_nests false place = void_nested d.structs

    found_nests : (n : ℕ) → IsNested d.structs (operand_type f (Result n))
    found_nests n = by (find (λ (x : Placed). nat_eq x.number n) (placed_in f)) refl
      where
        by : (o : Option Placed) → find (λ (x : Placed). nat_eq x.number n) (placed_in f) ≡ o → IsNested d.structs (option_map_or (λ (x : Placed). x.type) o VoidType)
        by None e = void_nested d.structs
        by (Some p) e =
            let place = position_or_len (λ (x : Placed). nat_eq x.number n) (placed_in f) in
            result_nests i f place p at (sym (find_at (λ (x : Placed). nat_eq x.number n) (placed_in f)) ∙ e)

    -- the type of an operand of an instruction of the function
    pub operand_nests : (j : ℕ) (p : Placed) (n : ℕ) (o : Operand) → slice_get (placed_in f) j ≡ Some p → slice_get (operands_of p.instruction) n ≡ Some o → IsNested d.structs (operand_type f o)
    operand_nests j p n (Constant c) is here = constant_nests i f j p n (Constant c) c at is here refl
    operand_nests j p n (Parameter g place) is here = param_nests (nat_eq g f.number) place
    operand_nests j p n (Result r) is here = found_nests r

-- ---- from the rules

-- the operands in the data are those of the instruction
pub same_operands : (m : Module) (i : LLVMInst) → operands_of (instruction_of (trees_of m) i) ≡ map (operand_of (trees_of m)) (operands i)
same_operands m (I.Phi type entries) = by entries
  where
    by : (es : List PhiEntry) → map (λ (e : Operand × ℕ). e.0) (map (entry_of (trees_of m)) es) ≡ map (operand_of (trees_of m)) (map (λ (e : PhiEntry). e.value) es)
    by [] = refl
    by (e ∷ es) = ap (λ os. operand_of (trees_of m) e.value ∷ os) (by es)
same_operands m (I.Row r) = refl

values_there : (m : Module) (i : LLVMInst) → HasValues m i → All (IsValue m) (operands i)
values_there m (I.Phi type entries) h = All-map (IsValue m) (λ (e : PhiEntry). e.value) entries (All-weaker (IsEntry m) (λ (e : PhiEntry). IsValue m e.value) (λ e x. x.0) entries h.1)
values_there m (I.Row r) h = h.0

module _ (m : Module) (sound : IsModule m) where
  -- of a constant that is not of a type too deep
  constant_nested : (t : TypeTree) (v : LLVMValue) (n : ℕ) → IsValue m v → is_deep_value m v ≡ false → slice_get (constant_type (operand_of (trees_of m) v)) n ≡ Some t → IsNested (structs_of m) t
  constant_nested t (V.Const c) zero here fine is =
      let k = item_there m.consts c.0 here in
      let type : const_type (const_at (trees_of m).consts c) ≡ t = cc in
      let deep : is_deep m (type_of_const k.0) ≡ false = ap (λ o. option_map_or (is_deep m) (option_map type_of_const o) false) (sym k.1) ∙ fine in
      subst (λ (u : TypeTree). IsNested (structs_of m) u) (sym (const_type_of m c k.0 sound k.1) ∙ type) (not-false (nests (structs_of m) deepest (type_at (trees_of m).types (type_of_const k.0))) deep)
  constant_nested t (V.Const c) (suc n) here fine is = absurd cc
  constant_nested t (V.Param f place) n here fine is = absurd cc
  constant_nested t (V.Inst i) n here fine is = absurd cc

  abbrev IsAllowed : TypeTree → Type 0
  IsAllowed t = IsNested (structs_of m) t

  allowed : (t : TypeTree) → not (nests (structs_of m) deepest t) ≡ false → IsAllowed t
  allowed t h = not-false (nests (structs_of m) deepest t) h

  module _ (structs : (s : ℕ) (x : StructData) → slice_get m.structs s ≡ Some x → is_deep_struct m x.name ≡ false) (functions : (f : ℕ) (x : FunctionData) → slice_get m.functions f ≡ Some x → is_deep m x.ty ≡ false)
      (insts : (i : ℕ) (z : InstData) → slice_get m.insts i ≡ Some z → is_deep_inst m z ≡ false) where
    structs_allowed : All IsAllowed (map (λ (s : Struct). NamedType s.name) (data_of m).structs)
    structs_allowed =
        All-map IsAllowed (λ (s : Struct). NamedType s.name) (data_of m).structs
        (All-map (λ (s : Struct). IsAllowed (NamedType s.name)) (struct_of (trees_of m).types) m.structs (all_from (λ (x : StructData). IsAllowed (NamedType x.name)) m.structs (λ s x at. allowed (NamedType x.name) (structs s x at))))

    functions_allowed : All IsAllowed (map (λ (f : Function). f.type) (data_of m).functions)
    functions_allowed = All-map IsAllowed (λ (f : Function). f.type) (data_of m).functions (each_function m (λ (f : Function). IsAllowed f.type) (λ f x at. allowed (shown m f x).type (functions f x at)))

    result_allowed : (k : ℕ) (p : Placed) → slice_get (flat_map placed_in (data_of m).functions) k ≡ Some p → IsAllowed p.type
    result_allowed k p at =
        let part = from_joined placed_in (data_of m).functions k p at in
        let x = function_from m part.0 part.2 part.3 in
        let here : slice_get (placed_in (shown m part.0 x.0)) part.1 ≡ Some p = ap (λ (f : Function). slice_get (placed_in f) part.1) (sym x.2) ∙ part.4 in
        let own = own_inst m part.0 x.0 part.1 p sound x.1 here in
        let fine = or_parts (is_deep m own.inst.ty) (list_any (is_deep_value m) (operands own.inst.inst)) (insts own.number own.inst own.here) in
        subst (λ (q : Placed). IsAllowed q.type) (sym own.shown_as) (allowed _ fine.0)

    results_allowed : All IsAllowed (map (λ (p : Placed). p.type) (flat_map placed_in (data_of m).functions))
    results_allowed =
        All-map IsAllowed (λ (p : Placed). p.type) (flat_map placed_in (data_of m).functions) (all_from (λ (p : Placed). IsAllowed p.type) (flat_map placed_in (data_of m).functions) result_allowed)

    constant_allowed : (k : ℕ) (t : TypeTree) → slice_get (flat_map constant_types (flat_map placed_in (data_of m).functions)) k ≡ Some t → IsAllowed t
    constant_allowed k t at =
        let among = from_joined constant_types (flat_map placed_in (data_of m).functions) k t at in
        let part = from_joined placed_in (data_of m).functions among.0 among.2 among.3 in
        let x = function_from m part.0 part.2 part.3 in
        let here : slice_get (placed_in (shown m part.0 x.0)) part.1 ≡ Some among.2 = ap (λ (f : Function). slice_get (placed_in f) part.1) (sym x.2) ∙ part.4 in
        let own = own_inst m part.0 x.0 part.1 among.2 sound x.1 here in
        let fine = or_parts (is_deep m own.inst.ty) (list_any (is_deep_value m) (operands own.inst.inst)) (insts own.number own.inst own.here) in
        let there = values_there m own.inst.inst (sound.insts own.number own.inst own.here).values in
        let same : operands_of among.2.instruction ≡ map (operand_of (trees_of m)) (operands own.inst.inst) = ap (λ (p : Placed). operands_of p.instruction) own.shown_as ∙ same_operands m own.inst.inst in
        let o = from_joined constant_type (map (operand_of (trees_of m)) (operands own.inst.inst)) among.1 t (ap (λ os. slice_get (flat_map constant_type os) among.1) (sym same) ∙ among.4) in
        by own.inst.inst fine.1 there o.0 o.1 o.2 o.4 (slice_get (operands own.inst.inst) o.0) refl (sym (slice_get-map (operand_of (trees_of m)) (operands own.inst.inst) o.0) ∙ o.3)
      where
        by : (i : LLVMInst) → list_any (is_deep_value m) (operands i) ≡ false → All (IsValue m) (operands i) → (j n : ℕ) (o : Operand) → slice_get (constant_type o) n ≡ Some t
            → (w : Option LLVMValue) → slice_get (operands i) j ≡ w → option_map (operand_of (trees_of m)) w ≡ Some o → IsAllowed t
        by i fine there j n o is None e h = absurd cc
        by i fine there j n o is (Some v) e h =
            constant_nested t v n (within_at (operands i) (IsValue m) there j v e) (none_any_at (is_deep_value m) (operands i) j v fine e)
            (ap (λ (x : Operand). slice_get (constant_type x) n) (same_Some (operand_of (trees_of m) v) o h) ∙ is)

    constants_allowed : All IsAllowed (flat_map constant_types (flat_map placed_in (data_of m).functions))
    constants_allowed = all_from IsAllowed (flat_map constant_types (flat_map placed_in (data_of m).functions)) constant_allowed

    -- no type in use is too deep
    pub all_allowed : All IsAllowed (types_in (data_of m))
    all_allowed =
        let of_structs = map (λ (s : Struct). NamedType s.name) (data_of m).structs in
        let of_functions = map (λ (f : Function). f.type) (data_of m).functions in
        let of_results = map (λ (p : Placed). p.type) (flat_map placed_in (data_of m).functions) in
        let of_constants = flat_map constant_types (flat_map placed_in (data_of m).functions) in
        All-append IsAllowed (of_structs ++ of_functions ++ of_results) of_constants
        (All-append IsAllowed (of_structs ++ of_functions) of_results (All-append IsAllowed of_structs of_functions structs_allowed functions_allowed) results_allowed) constants_allowed

-- The constants that instructions use, by their numbers and in the data of a module: what their types hold, and how deep they nest.
use Rattle.std.proofs.Common.{ℕ, zero, suc, ◌≡◌, ◌∙◌, refl, sym, ap, subst, true, List, Some, All, map, slice_get}
use Rattle.std.specs.List.{flat_map}
use Rattle.std.specs.Option.{option_map}
use Rattle.std.proofs.lemmas.List.Elements.{All-map, All-weaker}
use Rattle.std.proofs.lemmas.Option.{same_Some, slice_get-map}
use Rattle.support.proofs.ListLaws.{all_from, item_there, in_joined, from_joined}
use Rattle.support.proofs.OptionLaws.{part_of}
use Rattle.kinds.specs.Types.{TypeTree}
use Rattle.kinds.specs.Held.{deepest}
use Rattle.kinds.specs.Structs.{Holds, IsNested}
use Rattle.llvm_core.specs.declared.numbers.LLVMType.{LLVMType}
use Rattle.llvm_core.specs.declared.numbers.LLVMConst.{LLVMConst}
use Rattle.llvm_core.specs.declared.numbers.LLVMFunction.{LLVMFunction}
use Rattle.llvm_core.specs.declared.consts.LLVMConstKind.{LLVMConstKind}
use Rattle.llvm_core.specs.declared.code.LLVMInst.{LLVMInst}
use Rattle.llvm_core.specs.declared.code.LLVMInst.TheVariants as I
use Rattle.llvm_core.specs.declared.code.LLVMValue.{LLVMValue}
use Rattle.llvm_core.specs.declared.code.LLVMValue.TheVariants as V
use Rattle.llvm_core.specs.declared.code.PhiEntry.{PhiEntry}
use Rattle.llvm_core.specs.declared.code.FunctionData.{FunctionData}
use Rattle.llvm_core.specs.declared.code.InstData.{InstData}
use Rattle.llvm_core.specs.Module.{Module}
use Rattle.llvm_core.specs.Parts.{IsValue, IsEntry, HasValues, const_type, operands, value_type}
use Rattle.llvm_core.specs.Sound.{IsModule}
use Rattle.llvm_core.specs.Data.{Operand, Placed, Function, data_of, trees_of, structs_of, type_at, operand_of, operand_type, placed_in}
use Rattle.llvm_core.specs.Depths.{nests_at}
use Rattle.llvm_core.specs.Form.{IsForm, operands_of, constant_type, constant_types}
use Rattle.llvm_core.proofs.DataLemmas.{const_type_of, function_at, within_at}
use Rattle.llvm_core.proofs.FormNested.{operand_nests, same_operands}
use Rattle.llvm_core.proofs.FormPlaces.{shown, inst_place, function_there, in_home}
use Rattle.held_types.specs.Values.{IsInConstant, IsInEntry, IsInConstantsOf, NestsIfConstant}
use Rattle.held_types.specs.Walk.{IsIn, IsOfOne}
use Rattle.held_types.proofs.WalkLaws.{IsWithin}

-- ---- constants

-- a constant of which the type is told
module _ (m : Module) (c : LLVMConst) (v : LLVMValue) (t : LLVMType) (is : v ≡ V.Const c) (typed : value_type m v ≡ Some t) where
  constant_told : (k : LLVMConstKind) × ((slice_get m.consts c.0 ≡ Some k) × (const_type k ≡ t))
  constant_told = part_of const_type (slice_get m.consts c.0) t (ap (value_type m) (sym is) ∙ typed)

  pub told_nests : NestsIfConstant m v → nests_at m t deepest ≡ true
  told_nests h =
      let k = constant_told in
      let nested : NestsIfConstant m (V.Const c) = subst (NestsIfConstant m) is h in
      subst (λ (w : LLVMType). nests_at m w deepest ≡ true) k.1.1 (nested k.0 k.1.0)

  pub told_in : IsWithin (IsIn m t) (IsInConstant m v)
  told_in u asked h =
      let k = constant_told in
      let here : IsInConstant m (V.Const c) u = (k.0, k.1.0, subst (λ (w : LLVMType). IsIn m w u) (sym k.1.1) h) in
      subst (λ (w : LLVMValue). IsInConstant m w u) (sym is) here

  pub in_told : IsWithin (IsInConstant m v) (IsIn m t)
  in_told u asked h =
      let k = constant_told in
      let here : IsInConstant m (V.Const c) u = subst (λ (w : LLVMValue). IsInConstant m w u) is h in
      let same : here.0 ≡ k.0 = same_Some here.0 k.0 (sym here.1 ∙ k.1.0) in
      subst (λ (w : LLVMType). IsIn m w u) (ap const_type same ∙ k.1.1) here.2

-- ---- operands of an instruction

-- those of a phi are the values of its entries
module _ (m : Module) (es : List PhiEntry) where
  pub entry_used : IsWithin (IsOfOne (IsInEntry m) es) (IsOfOne (IsInConstant m) (map (λ (e : PhiEntry). e.value) es))
  entry_used u asked (n, e, at, h) = (n, e.value, slice_get-map (λ (e : PhiEntry). e.value) es n ∙ ap (option_map (λ (e : PhiEntry). e.value)) at, h)

  pub used_entry : IsWithin (IsOfOne (IsInConstant m) (map (λ (e : PhiEntry). e.value) es)) (IsOfOne (IsInEntry m) es)
  used_entry u asked (n, v, at, h) =
      let e = part_of (λ (e : PhiEntry). e.value) (slice_get es n) v (sym (slice_get-map (λ (e : PhiEntry). e.value) es n) ∙ at) in
      (n, e.0, e.1.0, subst (λ (w : LLVMValue). IsInConstant m w u) (sym e.1.1) h)

  pub entries_nest : All (NestsIfConstant m) (map (λ (e : PhiEntry). e.value) es) → All (λ (e : PhiEntry). NestsIfConstant m e.value) es
  entries_nest all =
      let each : (n : ℕ) (e : PhiEntry) → slice_get es n ≡ Some e → NestsIfConstant m e.value =
      λ n e at. within_at (map (λ (e : PhiEntry). e.value) es) (NestsIfConstant m) all n e.value (slice_get-map (λ (e : PhiEntry). e.value) es n ∙ ap (option_map (λ (e : PhiEntry). e.value)) at) in
      all_from (λ (e : PhiEntry). NestsIfConstant m e.value) es each

-- an instruction that is answered, and its operands
module _ (m : Module) (i : ℕ) (x : LLVMInst) (vs : List LLVMValue) (read : option_map (λ (z : InstData). z.inst) (slice_get m.insts i) ≡ Some x) (listed : operands x ≡ vs) where
  read_inst : (z : InstData) × ((slice_get m.insts i ≡ Some z) × (z.inst ≡ x))
  read_inst = part_of (λ (z : InstData). z.inst) (slice_get m.insts i) x read

  pub used_in : IsWithin (IsOfOne (IsInConstant m) vs) (IsInConstantsOf m i)
  used_in u asked h =
      let z = read_inst in
      (z.0, z.1.0, subst (λ (ws : List LLVMValue). IsOfOne (IsInConstant m) ws u) (sym (ap operands z.1.1 ∙ listed)) h)

  pub in_used : IsWithin (IsInConstantsOf m i) (IsOfOne (IsInConstant m) vs)
  in_used u asked (y, at, h) =
      let z = read_inst in
      let same : y ≡ z.0 = same_Some y z.0 (sym at ∙ z.1.0) in
      subst (λ (ws : List LLVMValue). IsOfOne (IsInConstant m) ws u) (ap (λ (y : InstData). operands y.inst) same ∙ ap operands z.1.1 ∙ listed) h

  pub used_nest : ((z : InstData) → slice_get m.insts i ≡ Some z → All (NestsIfConstant m) (operands z.inst)) → All (NestsIfConstant m) vs
  used_nest nested = let z = read_inst in subst (All (NestsIfConstant m)) (ap operands z.1.1 ∙ listed) (nested z.0 z.1.0)

pub values_there : (m : Module) (i : LLVMInst) → HasValues m i → All (IsValue m) (operands i)
values_there m (I.Phi type entries) h = All-map (IsValue m) (λ (e : PhiEntry). e.value) entries (All-weaker (IsEntry m) (λ (e : PhiEntry). IsValue m e.value) (λ e x. x.0) entries h.1)
values_there m (I.Row r) h = h.0

-- ---- in the data

module _ (m : Module) (sound : IsModule m) where
  abbrev trees : List TypeTree
  trees = (trees_of m).types

  -- where an instruction stands, with its type and its operands
  pub record IsPlaced (i : ℕ) (z : InstData) : Type 0 where
    pub f : ℕ
    pub x : FunctionData
    pub at : slice_get m.functions f ≡ Some x
    pub k : ℕ
    pub placed : Placed
    pub here : slice_get (placed_in (shown m f x)) k ≡ Some placed
    pub typed : placed.type ≡ type_at trees z.ty
    pub used : operands_of placed.instruction ≡ map (operand_of (trees_of m)) (operands z.inst)

  pub inst_placed : (i : ℕ) (z : InstData) → slice_get m.insts i ≡ Some z → IsPlaced i z
  inst_placed i z at =
      let place = inst_place m i z sound at in
      let x = function_there m z.block.0 place.block sound place.block_is in
      let f = place.block.function.0 in
      let k = in_home m f x.0 i z sound x.1 at (ap (λ (g : LLVMFunction). g.0) place.home_is) in
      record { f = f; x = x.0; at = x.1; k = k.0; placed = _; here = k.1; typed = refl; used = same_operands m z.inst }

  module _ (u : TypeTree) where
    constant_at : (v : LLVMValue) → IsInConstant m v u → (t : TypeTree) × (slice_get (constant_type (operand_of (trees_of m) v)) 0 ≡ Some t) × Holds (structs_of m) u t
    constant_at (V.Const c) (k, at, h) = (type_at trees (const_type k), ap (λ (t : TypeTree). Some t) (const_type_of m c k sound at), h)
    constant_at (V.Param f place) h = absurd h
    constant_at (V.Inst i) h = absurd h

    constant_from : (v : LLVMValue) (j : ℕ) (t : TypeTree) → IsValue m v → slice_get (constant_type (operand_of (trees_of m) v)) j ≡ Some t → Holds (structs_of m) u t → IsInConstant m v u
    constant_from (V.Const c) zero t here is h =
        let k = item_there m.consts c.0 here in
        (k.0, k.1, subst (Holds (structs_of m) u) (sym (same_Some _ t is) ∙ const_type_of m c k.0 sound k.1) h)
    constant_from (V.Const c) (suc j) t here is h = absurd cc
    constant_from (V.Param f place) j t here is h = absurd cc
    constant_from (V.Inst i) j t here is h = absurd cc

    module _ (z : InstData) (p : Placed) (used : operands_of p.instruction ≡ map (operand_of (trees_of m)) (operands z.inst)) where
      -- the type of a constant that an instruction uses is one of those of its data
      pub constant_shown : IsOfOne (IsInConstant m) (operands z.inst) u → (j : ℕ) × (t : TypeTree) × (slice_get (constant_types p) j ≡ Some t) × Holds (structs_of m) u t
      constant_shown (n, v, at, h) =
          let os = map (operand_of (trees_of m)) (operands z.inst) in
          let c = constant_at v h in
          let there : slice_get os n ≡ Some (operand_of (trees_of m) v) = slice_get-map (operand_of (trees_of m)) (operands z.inst) n ∙ ap (option_map (operand_of (trees_of m))) at in
          let j = in_joined constant_type os n 0 (operand_of (trees_of m) v) c.0 there c.1 in
          (j.0, c.0, ap (λ (xs : List Operand). slice_get (flat_map constant_type xs) j.0) used ∙ j.1, c.2)

      -- and each of those is one
      pub shown_constant : All (IsValue m) (operands z.inst) → (j : ℕ) (t : TypeTree) → slice_get (constant_types p) j ≡ Some t → Holds (structs_of m) u t → IsOfOne (IsInConstant m) (operands z.inst) u
      shown_constant there j t at h =
          let o = from_joined constant_type (map (operand_of (trees_of m)) (operands z.inst)) j t (ap (λ (xs : List Operand). slice_get (flat_map constant_type xs) j) (sym used) ∙ at) in
          let v = part_of (operand_of (trees_of m)) (slice_get (operands z.inst) o.0) o.2 (sym (slice_get-map (operand_of (trees_of m)) (operands z.inst) o.0) ∙ o.3) in
          let here = within_at (operands z.inst) (IsValue m) there o.0 v.0 v.1.0 in
          (o.0, v.0, v.1.0, constant_from v.0 o.1 t here (ap (λ (x : Operand). slice_get (constant_type x) o.1) v.1.1 ∙ o.4) h)

  -- no constant that an instruction uses is of a type that nests too deep
  pub constants_nest : IsForm (data_of m) → (i : ℕ) (z : InstData) → slice_get m.insts i ≡ Some z → All (NestsIfConstant m) (operands z.inst)
  constants_nest form i z at =
      let p = inst_placed i z at in
      let g = shown m p.f p.x in
      let each : (n : ℕ) (v : LLVMValue) → slice_get (operands z.inst) n ≡ Some v → NestsIfConstant m v =
      λ n v here.
      let o : slice_get (operands_of p.placed.instruction) n ≡ Some (operand_of (trees_of m) v) =
      ap (λ (xs : List Operand). slice_get xs n) p.used ∙ slice_get-map (operand_of (trees_of m)) (operands z.inst) n ∙ ap (option_map (operand_of (trees_of m))) here in
      by g v (operand_nests (data_of m) form.nested p.f g (function_at m p.f p.x p.at) p.k p.placed n (operand_of (trees_of m) v) p.here o) in
      all_from (NestsIfConstant m) (operands z.inst) each
    where
      by : (g : Function) (v : LLVMValue) → IsNested (structs_of m) (operand_type g (operand_of (trees_of m) v)) → NestsIfConstant m v
      by g (V.Const c) h = λ k is. subst (IsNested (structs_of m)) (const_type_of m c k sound is) h
      by g (V.Param f place) h = tt
      by g (V.Inst j) h = tt

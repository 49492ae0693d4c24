-- The types of the values of a module by their numbers: what functions return and take, results, and constants that instructions use.
use Rattle.std.proofs.Common.{ℕ, zero, suc, ◌≡◌, ◌<◌, ◌⊎◌, inl, inr, ◌∙◌, ◌+◌, refl, sym, ap, subst, Bool, true, false, List, [], ◌++◌, Option, Some, None, All, length, map, slice_get, arith}
use Rattle.std.specs.Prelude.{nat_lt}
use Rattle.std.specs.List.{flat_map}
use Rattle.std.specs.Option.{option_map}
use Rattle.std.proofs.lemmas.Bool.{ltb-true, ltb-false}
use Rattle.std.proofs.lemmas.List.Elements.{All-head, All-tail}
use Rattle.std.proofs.lemmas.Option.{same_Some, slice_get-map, slice_get_within}
use Rattle.support.proofs.ListLaws.{item_there, slice_get-behind, slice_get-behind_cases, slice_get-kept, in_joined, from_joined}
use Rattle.kinds.specs.Types.{TypeTree, TypeTrees, NoTypes, ThenType, RefusedType, NamedType, FunctionType, result_of, params_of, types_list}
use Rattle.kinds.specs.Held.{deepest}
use Rattle.kinds.specs.Structs.{Holds, IsNested, each_type, nests}
use Rattle.kinds.proofs.NestLaws.{parts_nested}
use Rattle.llvm_core.specs.declared.numbers.LLVMType.{LLVMType}
use Rattle.llvm_core.specs.declared.numbers.LLVMStruct.{LLVMStruct}
use Rattle.llvm_core.specs.declared.types.LLVMTypeKind.{LLVMTypeKind}
use Rattle.llvm_core.specs.declared.types.LLVMTypeKind.TheVariants as T
use Rattle.llvm_core.specs.declared.code.FunctionData.{FunctionData}
use Rattle.llvm_core.specs.declared.code.InstData.{InstData}
use Rattle.llvm_core.specs.Module.{Module}
use Rattle.llvm_core.specs.Sound.{IsModule}
use Rattle.llvm_core.specs.Data.{Placed, Function, data_of, trees_of, structs_of, type_at, types_at, operand_of, placed_in}
use Rattle.llvm_core.specs.Depths.{nests_at, all_nest_at}
use Rattle.llvm_core.specs.Parts.{operands}
use Rattle.llvm_core.specs.Form.{IsForm, operands_of, constant_types, value_types}
use Rattle.llvm_core.proofs.DataLemmas.{function_at, function_tree_of}
use Rattle.llvm_core.proofs.DistinctLaws.{function_from}
use Rattle.llvm_core.proofs.FormNested.{function_nests, result_nests, same_operands}
use Rattle.llvm_core.proofs.FormPlaces.{shown, own_inst}
use Rattle.llvm_core.proofs.FormTypes.{function_typed, signature_of}
use Rattle.held_types.specs.declared.held_structs.HeldErr.{HeldErr}
use Rattle.held_types.specs.declared.held_structs.HeldErr.TheVariants as E
use Rattle.held_types.specs.declared.walk.Walk.{Walk}
use Rattle.held_types.specs.Held.{AreHeldStructs, HasTypeWith, IsRefusalOf}
use Rattle.held_types.specs.Values.{IsInSignature, IsInSignatures, IsInResult, IsInResults, IsInConstantsOf, IsInConstants}
use Rattle.held_types.specs.Walk.{IsIn, IsAmong, IsCause, Walked}
use Rattle.held_types.proofs.WalkLaws.{IsWithin, IsSplit, walked_both}
use Rattle.held_types.proofs.InsideLaws.{listed_at, listed_from, field_at}
use Rattle.held_types.proofs.PlacedLaws.{inst_placed, values_there, constant_shown, shown_constant}

-- ---- what readers answer

-- a function is of the type that is answered
pub signature_at : (m : Module) (f : ℕ) (ty : LLVMType) (k : LLVMTypeKind) (r : LLVMType) (ps : List LLVMType) (v : Bool) → f < length m.functions → option_map (λ (x : FunctionData). x.ty) (slice_get m.functions f) ≡ Some ty
    → slice_get m.types ty.0 ≡ Some k → k ≡ T.Function r ps v → (x : FunctionData) × (slice_get m.functions f ≡ Some x) × (slice_get m.types x.ty.0 ≡ Some (T.Function r ps v))
signature_at m f ty k r ps v within typed kind is =
    let x = item_there m.functions f within in
    let same = same_Some x.0.ty ty (sym (ap (option_map (λ (y : FunctionData). y.ty)) x.1) ∙ typed) in
    (x.0, x.1, ap (λ (u : LLVMType). slice_get m.types u.0) same ∙ kind ∙ ap Some is)

-- the result of an instruction is
pub inst_at : (m : Module) (i : ℕ) (t : LLVMType) → i < length m.insts → option_map (λ (z : InstData). z.ty) (slice_get m.insts i) ≡ Some t → (z : InstData) × (slice_get m.insts i ≡ Some z) × (z.ty ≡ t)
inst_at m i t within typed =
    let z = item_there m.insts i within in
    (z.0, z.1, same_Some z.0.ty t (sym (ap (option_map (λ (y : InstData). y.ty)) z.1) ∙ typed))

-- what a function takes is there
pub params_within : (m : Module) (ty : ℕ) (ps : List LLVMType) (r : LLVMType) (v : Bool) → IsModule m → slice_get m.types ty ≡ Some (T.Function r ps v) → All (λ (t : LLVMType). t.0 < length m.types) ps
params_within m ty ps r v sound at =
    let over = sound.types ty (T.Function r ps v) at in
    let small = slice_get_within m.types ty (T.Function r ps v) at in
    λ i d lt. let below = over.1 i d lt in omega (arith, below, small)

-- ---- one after the other

module _ (P : ℕ → TypeTree → Type 0) where
  abbrev pub IsBelow : ℕ → TypeTree → Type 0
  IsBelow n u = (k : ℕ) × (k < n) × P k u

  pub below_split : (n : ℕ) → IsSplit (IsBelow (n + 1)) (IsBelow n) (P n)
  below_split n u asked (k, lt, h) = by (nat_lt k n) refl
    where
      by : (b : Bool) → nat_lt k n ≡ b → IsBelow n u ⊎ P n u
      by true e = inl (k, ltb-true k n e, h)
      by false e = let past = ltb-false k n e in let same : k ≡ n = omega (arith, past, lt) in inr (subst (λ (i : ℕ). P i u) same h)

  pub below_more : (n : ℕ) → IsWithin (IsBelow n) (IsBelow (n + 1))
  below_more n u asked (k, lt, h) = (k, omega (arith, lt), h)

  pub below_last : (n : ℕ) → IsWithin (P n) (IsBelow (n + 1))
  below_last n u asked h = (n, omega arith, h)

-- ---- how deep they nest

each_from : (p : TypeTree → Bool) (ts : TypeTrees) → All (λ (t : TypeTree). p t ≡ true) (types_list ts) → each_type p ts ≡ true
each_from p NoTypes h = refl
each_from p (ThenType t ts) h =
    let a = All-head (λ (t : TypeTree). p t ≡ true) t (types_list ts) h in
    let b = each_from p ts (All-tail (λ (t : TypeTree). p t ≡ true) t (types_list ts) h) in
    cc

module _ (m : Module) (sound : IsModule m) where
  abbrev trees : List TypeTree
  trees = (trees_of m).types

  -- the type of a function by its kind
  module _ (f : ℕ) (x : FunctionData) (r : LLVMType) (ps : List LLVMType) (v : Bool) (at : slice_get m.functions f ≡ Some x) (kind : slice_get m.types x.ty.0 ≡ Some (T.Function r ps v)) where
    type_is : (shown m f x).type ≡ FunctionType (type_at trees r) (types_at trees ps) v
    type_is = function_tree_of m x.ty r ps v sound kind

    pub signature_nests : IsForm (data_of m) → (nests_at m r deepest ≡ true) × (all_nest_at m ps deepest ≡ true)
    signature_nests form =
        let nested = subst (IsNested (structs_of m)) type_is (function_nests (data_of m) form.nested f (shown m f x) (function_at m f x at)) in
        let parts = parts_nested (structs_of m) (FunctionType (type_at trees r) (types_at trees ps) v) nested in
        (All-head (IsNested (structs_of m)) (type_at trees r) (types_list (types_at trees ps)) parts, each_from (nests (structs_of m) deepest) (types_at trees ps) (All-tail (IsNested (structs_of m)) (type_at trees r) (types_list (types_at trees ps)) parts))

    pub signature_split : IsSplit (IsInSignature m f) (IsIn m r) (IsAmong m ps)
    signature_split u asked h =
        let x_is : h.function ≡ x = same_Some h.function x (sym h.at ∙ at) in
        let one : T.Function h.returned h.params h.variadic ≡ T.Function r ps v =
        same_Some (T.Function h.returned h.params h.variadic) (T.Function r ps v) (sym h.kind ∙ ap (λ (y : FunctionData). slice_get m.types y.ty.0) x_is ∙ kind) in
        let first : h.returned ≡ r = cc in
        let rest : h.params ≡ ps = cc in
        elim h.inside [
          | inl i ↦ inl (subst (λ (t : LLVMType). IsIn m t u) first i)
          | inr i ↦ inr (subst (λ (ts : List LLVMType). IsAmong m ts u) rest i)
        ]

    pub returned_in : IsWithin (IsIn m r) (IsInSignature m f)
    returned_in u asked h = record { function = x; at = at; returned = r; params = ps; variadic = v; kind = kind; inside = inl h }

    pub taken_in : IsWithin (IsAmong m ps) (IsInSignature m f)
    taken_in u asked h = record { function = x; at = at; returned = r; params = ps; variadic = v; kind = kind; inside = inr h }

  -- that of a result
  pub inst_nests : IsForm (data_of m) → (i : ℕ) (z : InstData) → slice_get m.insts i ≡ Some z → nests_at m z.ty deepest ≡ true
  inst_nests form i z at =
      let p = inst_placed m sound i z at in
      subst (IsNested (structs_of m)) p.typed (result_nests (data_of m) form.nested p.f (shown m p.f p.x) p.k p.placed (function_at m p.f p.x p.at) p.here)

  -- ---- what they hold is held by types of values

  -- those of a function: of what it takes, of results, and of constants
  module _ (g : Function) where
    abbrev taken : List TypeTree
    taken = params_of g.type

    abbrev results : List TypeTree
    results = map (λ (p : Placed). p.type) (placed_in g)

    abbrev constants : List TypeTree
    constants = flat_map constant_types (placed_in g)

  value_with : (f : ℕ) (x : FunctionData) (index : ℕ) (t u : TypeTree) → slice_get m.functions f ≡ Some x → slice_get (value_types (shown m f x)) index ≡ Some t → Holds (structs_of m) u t → HasTypeWith (data_of m) u
  value_with f x index t u at here holds = record { place = f; f = shown m f x; at = function_at m f x at; index = index; type = t; here = here; holds = holds }

  pub signature_value : (f : ℕ) (u : TypeTree) → IsInSignature m f u → HasTypeWith (data_of m) u
  signature_value f u h =
      let x = h.function in
      let g = shown m f x in
      let is = type_is f x h.returned h.params h.variadic h.at h.kind in
      elim h.inside [
        | inl i ↦ value_with f x 0 (type_at trees h.returned) u h.at (ap (λ (t : TypeTree). Some (result_of t)) is) i
        | inr i ↦ (
            let here : slice_get (taken g) i.0 ≡ Some (type_at trees i.1) = ap (λ (t : TypeTree). slice_get (params_of t) i.0) is ∙ listed_at trees h.params i.0 i.1 i.2 in
            let kept = slice_get-kept (taken g) (results g) i.0 (type_at trees i.1) here in
            value_with f x (suc i.0) (type_at trees i.1) u h.at (slice_get-kept (taken g ++ results g) (constants g) i.0 (type_at trees i.1) kept) i.3
            )
      ]

  pub result_value : (i : ℕ) (u : TypeTree) → IsInResult m i u → HasTypeWith (data_of m) u
  result_value i u (z, at, h) =
      let p = inst_placed m sound i z at in
      let g = shown m p.f p.x in
      let there : slice_get (results g) p.k ≡ Some (type_at trees z.ty) = slice_get-map (λ (q : Placed). q.type) (placed_in g) p.k ∙ ap (option_map (λ (q : Placed). q.type)) p.here ∙ ap Some p.typed in
      let index = length (taken g) + p.k in
      let kept = slice_get-kept (taken g ++ results g) (constants g) index (type_at trees z.ty) (slice_get-behind (taken g) (results g) p.k ∙ there) in
      value_with p.f p.x (suc index) (type_at trees z.ty) u p.at kept h

  pub constants_value : (i : ℕ) (u : TypeTree) → IsInConstantsOf m i u → HasTypeWith (data_of m) u
  constants_value i u (z, at, h) =
      let p = inst_placed m sound i z at in
      let g = shown m p.f p.x in
      let c = constant_shown m sound u z p.placed p.used h in
      let among = in_joined constant_types (placed_in g) p.k c.0 p.placed c.1 p.here c.2 in
      let index = length (taken g ++ results g) + among.0 in
      value_with p.f p.x (suc index) c.1 u p.at (slice_get-behind (taken g ++ results g) (constants g) among.0 ∙ among.1) c.3

  -- ---- and a type of a value is one of them

  -- of what instructions give or use
  abbrev IsInCode : TypeTree → Type 0
  IsInCode u = IsInResults m (length m.insts) u ⊎ IsInConstants m (length m.insts) u

  module _ (f : ℕ) (x : FunctionData) (at : slice_get m.functions f ≡ Some x) (u t : TypeTree) (holds : Holds (structs_of m) u t) where
    abbrev g : Function
    g = shown m f x

    from_signature : (r : LLVMType) (ps : List LLVMType) (v : Bool) → slice_get m.types x.ty.0 ≡ Some (T.Function r ps v) → IsIn m r u ⊎ IsAmong m ps u → IsInSignatures m (length m.functions) u
    from_signature r ps v kind inside = (f, slice_get_within m.functions f x at, record { function = x; at = at; returned = r; params = ps; variadic = v; kind = kind; inside = inside })

    from_placed : (k : ℕ) (o : Option Placed) → slice_get (placed_in g) k ≡ o → option_map (λ (q : Placed). q.type) o ≡ Some t → IsInResults m (length m.insts) u
    from_placed k None is e = cc
    from_placed k (Some p) is e =
        let own = own_inst m f x k p sound at is in
        let same : t ≡ type_at trees own.inst.ty = sym (same_Some p.type t e) ∙ ap (λ (q : Placed). q.type) own.shown_as in
        (own.number, slice_get_within m.insts own.number own.inst own.here, (own.inst, own.here, subst (Holds (structs_of m) u) same holds))

    from_constants : (k : ℕ) → slice_get (constants g) k ≡ Some t → IsInConstants m (length m.insts) u
    from_constants k is =
        let part = from_joined constant_types (placed_in g) k t is in
        let own = own_inst m f x part.0 part.2 sound at part.3 in
        let z = own.inst in
        let used : operands_of part.2.instruction ≡ map (operand_of (trees_of m)) (operands z.inst) = ap (λ (p : Placed). operands_of p.instruction) own.shown_as ∙ same_operands m z.inst in
        let there = values_there m z.inst (sound.insts own.number z own.here).values in
        (own.number, slice_get_within m.insts own.number z own.here, (z, own.here, shown_constant m sound u z part.2 used there part.1 t part.4 holds))

    from_place : (index : ℕ) → slice_get (value_types g) index ≡ Some t → IsInSignatures m (length m.functions) u ⊎ IsInCode u
    from_place index here =
        let typed = function_typed m f x sound at in
        let s = signature_of m f x typed.0 typed.1 typed.2 sound at typed.3 in
        let is = type_is f x s.returned s.params s.variadic at s.kind_is in
        by s.returned s.params s.variadic s.kind_is is index here
      where
        by : (r : LLVMType) (ps : List LLVMType) (v : Bool) → slice_get m.types x.ty.0 ≡ Some (T.Function r ps v) → g.type ≡ FunctionType (type_at trees r) (types_at trees ps) v → (index : ℕ) → slice_get (value_types g) index ≡ Some t
            → IsInSignatures m (length m.functions) u ⊎ IsInCode u
        by r ps v kind is zero here =
            let same : t ≡ type_at trees r = sym (same_Some (result_of g.type) t here) ∙ ap result_of is in
            inl (from_signature r ps v kind (inl (subst (Holds (structs_of m) u) same holds)))
        by r ps v kind is (suc index) here = elim (slice_get-behind_cases (taken g ++ results g) (constants g) index t here) [
          | inl other ↦ elim (slice_get-behind_cases (taken g) (results g) index t other) [
            | inl param ↦ (
                let p = listed_from trees ps index t (ap (λ (w : TypeTree). slice_get (params_of w) index) (sym is) ∙ param) in
                inl (from_signature r ps v kind (inr (index, p.0, p.1, subst (Holds (structs_of m) u) (sym p.2) holds)))
                )
            | inr result ↦ inr (inl (from_placed result.0 (slice_get (placed_in g) result.0) refl (sym (slice_get-map (λ (q : Placed). q.type) (placed_in g) result.0) ∙ result.2)))
          ]
          | inr constant ↦ inr (inr (from_constants constant.0 constant.2))
        ]

  pub value_from : IsSplit (HasTypeWith (data_of m)) (IsInSignatures m (length m.functions)) IsInCode
  value_from u asked h =
      let x = function_from m h.place h.f h.at in
      from_place h.place x.0 x.1 u h.type h.holds h.index (ap (λ (g : Function). slice_get (value_types g) h.index) (sym x.2) ∙ h.here)

  pub signatures_in : IsWithin (IsInSignatures m (length m.functions)) (HasTypeWith (data_of m))
  signatures_in u asked (f, lt, h) = signature_value f u h

  pub results_in : IsWithin (IsInResults m (length m.insts)) (HasTypeWith (data_of m))
  results_in u asked (i, lt, h) = result_value i u h

  pub constants_in : IsWithin (IsInConstants m (length m.insts)) (HasTypeWith (data_of m))
  constants_in u asked (i, lt, h) = constants_value i u h

  code_in : IsWithin IsInCode (HasTypeWith (data_of m))
  code_in u asked h = elim h [ inl result ↦ results_in u asked result | inr constant ↦ constants_in u asked constant ]

  -- ---- the whole walk

  pub whole_walk : (a b c e : Walk) → Walked m (IsInSignatures m (length m.functions)) a b → Walked m (IsInResults m (length m.insts)) b c → Walked m (IsInConstants m (length m.insts)) c e → Walked m (HasTypeWith (data_of m)) a e
  whole_walk a b c e h g k =
      let code = walked_both m (IsInResults m (length m.insts)) (IsInConstants m (length m.insts)) IsInCode b c e g k (λ u asked w. w) (λ u asked w. inl w) (λ u asked w. inr w) in
      walked_both m (IsInSignatures m (length m.functions)) IsInCode (HasTypeWith (data_of m)) a b e h code value_from signatures_in code_in

-- the answer of a walk through all of them
pub held_by_walk : (m : Module) (a c : Walk) → a.order.items ≡ [] → Walked m (HasTypeWith (data_of m)) a c → AreHeldStructs (data_of m) c.order.items
held_by_walk m a c empty h = record {
  each = λ i n at. elim (h.each i n at) [
    | inl old ↦ (let nothing : slice_get {X = LLVMStruct} [] i ≡ Some n = ap (λ (ns : List LLVMStruct). slice_get ns i) (sym empty) ∙ old in absurd (cc))
    | inr new ↦ new
  ];
  all = λ name w. h.met.named name w;
  behind = λ i n s b k t name at there has here holds. h.walk.behind i n at name (field_at m n (NamedType name) s b t k there has here holds);
}

-- a walk through types of values is given up for what refuses the module
pub unheld_by : (m : Module) (W : TypeTree → Type 0) → IsWithin W (HasTypeWith (data_of m)) → (e : HeldErr) → IsCause W e → IsRefusalOf (data_of m) e
unheld_by m W to (E.Lacks of) c = to (RefusedType of) tt c
unheld_by m W to (E.TooWide width) c = absurd c
unheld_by m W to E.ScalableSplat c = absurd c
unheld_by m W to E.NoMemory c = tt

-- A module that an export made is of the form and checked, where its names differ and each block with arguments is an edge's target.
use Rattle.std.proofs.Common.{ℕ, suc, ◌≡◌, ◌^◌, ◌<◌, ◌≤◌, inl, inr, List, [], ◌∷◌, ◌++◌, Some, All, length, map, slice_get, refl, sym, subst, arith}
use Rattle.std.specs.List.{flat_map}
use Rattle.std.proofs.lemmas.List.{map-append}
use Rattle.std.proofs.lemmas.List.Concat.{flat_map-append}
use Rattle.std.proofs.lemmas.List.Elements.{All-nil, All-cons, All-head, All-tail, All-append}
use Rattle.kinds.specs.declared.types.OtherType.{OtherType}
use Rattle.kinds.specs.Types.{TypeTree, VoidType, RefusedType, NamedType, FunctionType, types_list, parts_of, result_of, params_of}
use Rattle.kinds.specs.Structs.{Struct, IsFormStruct, IsNested, Holds, Itself, InPart, InField}
use Rattle.kinds.proofs.NestLaws.{void_nested}
use Rattle.held_types.specs.Held.{AreHeld, HasTypeWith, UsesConst, HasPart, HavePart, IsWide, IsSplat, HasWideConst}
use Rattle.llvm_core.specs.Module.{Module}
use Rattle.llvm_core.specs.Sound.{IsModule}
use Rattle.llvm_core.proofs.FormElements.{all_made}
use Rattle.support.specs.Interned.{IsDistinctList}
use Rattle.support.proofs.ListLaws.{all_from}
use Rattle.llvm_core.specs.Data as L
use Rattle.llvm_core.specs.Data.{Placed, ModuleData, data_of, placed_in}
use Rattle.llvm_core.specs.Form.{IsForm, IsFormFunction, IsFewIn, IsHeldFunction, IsShortConst, AreShort, IsShortOperand, HasDistinctNames, HasFew, constant_types, local_names, operands_of, value_types}
use Rattle.dialect_types.specs.Trees.{structs_of, IsStored}
use Rattle.dialect_types.proofs.StructLaws.{store_lacks_none, stored_structs, stored_apart}
use Rattle.dialect_core.specs.ContextData.{ContextData}
use Rattle.dialect_core.specs.Data as D
use Rattle.dialect_core.specs.Form.{HasTargets}
use Rattle.dialect_core.proofs.NestedLaws.{names_hold, data_nested}
use Rattle.meaning.specs.Pairs.{Matched}
use Rattle.meaning.specs.Code.{IsDistinctNames}
use Rattle.to_llvm_ir.specs.Exported.{ExportedFunction, IsExported}
use Rattle.to_llvm_ir.specs.Functions.{IsMadeOf}
use Rattle.to_llvm_ir.specs.Structs.{HasFewFields}
use Rattle.to_llvm_ir.proofs.CodeLaws.{names_exported}
use Rattle.to_llvm_ir.proofs.HeldLaws.{HasTypes, all_types, results_of, constants_in}
use Rattle.to_llvm_ir.proofs.ListLaws.{all_at}
use Rattle.to_llvm_ir.proofs.StructLaws.{structs_nested}

forms : (gs : List D.Func) (fs : List L.Function) → All HasTargets gs → Matched ExportedFunction gs fs → All IsFormFunction fs
forms [] [] targets h = All-nil IsFormFunction
forms (g ∷ gs) (f ∷ fs) targets h = All-cons IsFormFunction f fs (h.0.form (All-head HasTargets g gs targets)) (forms gs fs (All-tail HasTargets g gs targets) h.1)
forms [] (f ∷ fs) targets h = absurd h
forms (g ∷ gs) [] targets h = absurd h

each : (P : L.Function → Type 0) → ((g : D.Func) (f : L.Function) → ExportedFunction g f → P f) → (gs : List D.Func) (fs : List L.Function) → Matched ExportedFunction gs fs → All P fs
each P all [] [] h = All-nil P
each P all (g ∷ gs) (f ∷ fs) h = All-cons P f fs (all g f h.0) (each P all gs fs h.1)
each P all [] (f ∷ fs) h = absurd h
each P all (g ∷ gs) [] h = absurd h

-- ---- the types in use

module _ (P : TypeTree → Type 0) (void : P VoidType) where
  types_have : (fs : List L.Function) → All (HasTypes P void) fs → All P (map (λ (f : L.Function). f.type) fs)
  types_have [] h = All-nil P
  types_have (f ∷ fs) h = All-cons P f.type (map (λ (f : L.Function). f.type) fs) (All-head (HasTypes P void) f fs h).type (types_have fs (All-tail (HasTypes P void) f fs h))

  results_have : (fs : List L.Function) → All (HasTypes P void) fs → All P (map (λ (p : Placed). p.type) (flat_map placed_in fs))
  results_have [] h = All-nil P
  results_have (f ∷ fs) h =
      let rest = flat_map placed_in fs in
      subst (All P) (sym (map-append (λ (p : Placed). p.type) (placed_in f) rest))
      (All-append P (results_of f) (map (λ (p : Placed). p.type) rest) (All-head (HasTypes P void) f fs h).results (results_have fs (All-tail (HasTypes P void) f fs h)))

  constants_have : (fs : List L.Function) → All (HasTypes P void) fs → All P (flat_map constant_types (flat_map placed_in fs))
  constants_have [] h = All-nil P
  constants_have (f ∷ fs) h =
      let rest = flat_map placed_in fs in
      subst (All P) (sym (flat_map-append constant_types (placed_in f) rest))
      (All-append P (constants_in f) (flat_map constant_types rest) (All-head (HasTypes P void) f fs h).constants (constants_have fs (All-tail (HasTypes P void) f fs h)))

-- ---- short constants

-- equal integers have equal widths
width_told : (w v width value : ℕ) → L.IntConst w v ≡ L.IntConst width value → w ≡ width
width_told w v width value e = cc

mutual
  -- none of their parts is an integer of more than 64 bits
  no_wide : (width : ℕ) (c : L.ConstTree) → IsShortConst c → HasPart (IsWide width) c → ⊥
  no_wide width (L.IntConst w v) short wide =
      let same : w ≡ width = width_told w v width wide.0.0 wide.0.1 in
      let most : w ≤ 64 = short in
      let more : 64 < width = wide.1 in
      omega (arith, most, same, more)
  no_wide width (L.FilledConst fill type) short wide = absurd cc
  no_wide width (L.BytesConst bytes) short wide = absurd cc
  no_wide width (L.ListConst type cs) short (inl wide) = absurd cc
  no_wide width (L.ListConst type cs) short (inr wide) = none_wide_in width cs short wide
  no_wide width (L.SplatConst type c) short wide = absurd short
  no_wide width (L.PlaceholderConst n type) short wide = absurd cc

  none_wide_in : (width : ℕ) (cs : L.ConstTrees) → AreShort cs → HavePart (IsWide width) cs → ⊥
  none_wide_in width L.NoConsts short wide = absurd wide
  none_wide_in width (L.ThenConst c cs) short (inl wide) = no_wide width c short.0 wide
  none_wide_in width (L.ThenConst c cs) short (inr wide) = none_wide_in width cs short.1 wide

mutual
  -- and none is a splat of a scalable vector
  no_splat : (c : L.ConstTree) → IsShortConst c → HasPart IsSplat c → ⊥
  no_splat (L.IntConst w v) short splat = absurd cc
  no_splat (L.FilledConst fill type) short splat = absurd cc
  no_splat (L.BytesConst bytes) short splat = absurd cc
  no_splat (L.ListConst type cs) short (inl splat) = absurd cc
  no_splat (L.ListConst type cs) short (inr splat) = no_splats cs short splat
  no_splat (L.SplatConst type c) short splat = absurd short
  no_splat (L.PlaceholderConst n type) short splat = absurd cc

  no_splats : (cs : L.ConstTrees) → AreShort cs → HavePart IsSplat cs → ⊥
  no_splats L.NoConsts short splat = absurd splat
  no_splats (L.ThenConst c cs) short (inl splat) = no_splat c short.0 splat
  no_splats (L.ThenConst c cs) short (inr splat) = no_splats cs short.1 splat

-- ---- types that the dialect has

module _ (structs : List Struct) where
  -- the type holds none for which the dialect has none
  abbrev pub LacksNone : TypeTree → Type 0
  LacksNone t = (of : OtherType) → ¬ Holds structs (RefusedType of) t

  in_void : (u t : TypeTree) → Holds structs u t → t ≡ VoidType → u ≡ VoidType
  in_void u _ Itself e = e
  in_void u _ (InPart t v i at inside) e = let no : slice_get (parts_of VoidType) i ≡ Some v = subst (λ (x : TypeTree). slice_get (parts_of x) i ≡ Some v) e at in cc
  in_void u _ (InField name s b v i is has at inside) e = cc

  pub void_lacks : LacksNone VoidType
  void_lacks of h = let e = in_void (RefusedType of) VoidType h refl in cc

  -- what a function returns and takes holds nothing that its type does not
  result_lacks : (t : TypeTree) → LacksNone t → LacksNone (result_of t)
  result_lacks (FunctionType r ps v) lacks = λ of h. lacks of (InPart (FunctionType r ps v) r 0 refl h)
  result_lacks t lacks = void_lacks

  params_lack : (t : TypeTree) → LacksNone t → All LacksNone (params_of t)
  params_lack (FunctionType r ps v) lacks = all_from LacksNone (types_list ps) (λ i p at of h. lacks of (InPart (FunctionType r ps v) p (suc i) at h))
  params_lack t lacks = All-nil LacksNone

  values_lack : (f : L.Function) → HasTypes LacksNone void_lacks f → All LacksNone (value_types f)
  values_lack f h =
      All-cons LacksNone (result_of f.type) (params_of f.type ++ results_of f ++ constants_in f) (result_lacks f.type h.type)
      (All-append LacksNone (params_of f.type ++ results_of f) (constants_in f) (All-append LacksNone (params_of f.type) (results_of f) (params_lack f.type h.type) h.results) h.constants)

  none_lacked : (d : ModuleData) → d.structs ≡ structs → All (HasTypes LacksNone void_lacks) d.functions → (of : OtherType) → HasTypeWith d (RefusedType of) → ⊥
  none_lacked d same all of h =
      let f = all_at (HasTypes LacksNone void_lacks) d.functions h.place h.f all h.at in
      all_at LacksNone (value_types h.f) h.index h.type (values_lack h.f f) h.here of (subst (λ (ss : List Struct). Holds ss (RefusedType of) h.type) same h.holds)

  -- each constant that an instruction uses is short
  used_short : (d : ModuleData) → All IsHeldFunction d.functions → (P : L.ConstTree → Type 0) → (h : UsesConst d P) → IsShortConst h.constant
  used_short d all P h =
      let f = all_at IsHeldFunction d.functions h.place h.f all h.at in
      let uses = all_at (λ (p : Placed). All IsShortOperand (operands_of p.instruction)) (placed_in h.f) h.index h.p f.constants h.here in
      all_at IsShortOperand (operands_of h.p.instruction) h.operand (L.Constant h.constant) uses h.used

  none_wide : (d : ModuleData) → All IsHeldFunction d.functions → (width : ℕ) → HasWideConst d width → ⊥
  none_wide d all width h = no_wide width h.constant (used_short d all (IsWide width) h) h.part

  none_splat : (d : ModuleData) → All IsHeldFunction d.functions → UsesConst d IsSplat → ⊥
  none_splat d all h = no_splat h.constant (used_short d all IsSplat h) h.part

  pub held_if : (d : ModuleData) → d.structs ≡ structs → All (HasTypes LacksNone void_lacks) d.functions → All IsHeldFunction d.functions → AreHeld d
  held_if d same all held = record { types = none_lacked d same all; constants = none_wide d held; splats = none_splat d held }

-- ---- the module back

abbrev HasOwnLocals : L.Function → Type 0
HasOwnLocals f = IsDistinctList (local_names f)

module _ (c : ContextData) (m : ℕ) (stored : IsStored c.types) (typed : D.IsTyped c) (back : Module) (exported : IsExported (structs_of c.types) (D.data_of c m) back) (made : Matched IsMadeOf (D.data_of c m).functions (data_of back).functions) where
  -- what is said of the structs of the context is true of those of the module back
  of_structs : (P : List Struct → Type 0) → P (structs_of c.types) → P (data_of back).structs
  of_structs P h = subst P (sym exported.structs_are) h

  pub held_exported : AreHeld (data_of back)
  held_exported =
      let names = names_hold (LacksNone (structs_of c.types)) c m typed (λ t lt of. store_lacks_none c.types stored of t lt) in
      held_if (structs_of c.types) (data_of back) exported.structs_are (all_types (LacksNone (structs_of c.types)) (void_lacks (structs_of c.types)) (D.data_of c m).functions (data_of back).functions made names)
      (each IsHeldFunction (λ g f h. h.held) (D.data_of c m).functions (data_of back).functions exported.functions)

  pub form_exported : IsModule back → All HasTargets (D.data_of c m).functions → IsForm (data_of back)
  form_exported sound targets =
      let fs = (data_of back).functions in
      let ss = structs_of c.types in
      let void = void_nested ss in
      let names = all_types (IsNested ss) void (D.data_of c m).functions fs made (data_nested c m stored typed) in
      let types = map (λ (f : L.Function). f.type) fs in
      let results = map (λ (p : Placed). p.type) (flat_map placed_in fs) in
      let constants = flat_map constant_types (flat_map placed_in fs) in
      record {
        functions = forms (D.data_of c m).functions fs targets exported.functions;
        structs = of_structs (All IsFormStruct) (stored_structs c.types stored);
        nested = of_structs (λ (xs : List Struct). All (IsNested xs) (map (λ (s : Struct). NamedType s.name) xs ++ types ++ results ++ constants))
            (All-append (IsNested ss) (map (λ (s : Struct). NamedType s.name) ss ++ types ++ results) constants
            (All-append (IsNested ss) (map (λ (s : Struct). NamedType s.name) ss ++ types) results
            (All-append (IsNested ss) (map (λ (s : Struct). NamedType s.name) ss) types (structs_nested c.types stored) (types_have (IsNested ss) void fs names))
            (results_have (IsNested ss) void fs names))
            (constants_have (IsNested ss) void fs names));
        elements = all_made back sound;
      }

  pub distinct_exported : IsDistinctNames (map D.llvm_name_of (D.data_of c m).functions) → HasDistinctNames (data_of back)
  distinct_exported distinct = record {
    structs = of_structs (λ (xs : List Struct). IsDistinctList (map (λ (s : Struct). s.name) xs)) (stored_apart c.types stored);
    functions = subst (λ (ns : List (List ℕ)). IsDistinctList ns) (sym (names_exported (D.data_of c m).functions (data_of back).functions exported.functions)) distinct;
    locals = each HasOwnLocals (λ g f h. h.locals) (D.data_of c m).functions (data_of back).functions exported.functions;
  }

  pub few_exported : length (structs_of c.types) < 2 ^ 31 → All HasFewFields (structs_of c.types) → HasFew (data_of back)
  few_exported few fields = record {
    structs = of_structs (λ (xs : List Struct). length xs < 2 ^ 31) few;
    fields = of_structs (All HasFewFields) fields;
    functions = exported.few;
    each = each IsFewIn (λ g f h. h.few) (D.data_of c m).functions (data_of back).functions exported.functions;
  }

-- A module under other names of structs: which struct a name means there, that the module is of the form, and that its types hold
-- no more of what the dialect lacks.
use Rattle.std.proofs.Common.{◌≡◌, ℕ, Bool, true, refl, ap, sym, subst, ◌∙◌, List, [], ◌∷◌, ◌++◌, map, slice_get, Option, Some, None, All}
use Rattle.std.specs.List.{flat_map}
use Rattle.std.specs.Option.{option_map, option_map_or}
use Rattle.std.proofs.lemmas.List.{map-append}
use Rattle.kinds.specs.declared.types.OtherType.{OtherType}
use Rattle.kinds.specs.Types.{TypeTree, VoidType, IntType, PointerType, FloatingType, RefusedType, ArrayType, VectorType, StructType, NamedType, FunctionType, types_list, parts_of}
use Rattle.kinds.specs.Fitting.{is_first_class}
use Rattle.kinds.specs.Held.{deepest, each_throughout}
use Rattle.kinds.specs.Names.{is_good_name}
use Rattle.kinds.specs.Structs.{StructBody, Struct, struct_in, IsNested, renamed, renamed_body, renamed_struct, Holds, Itself, InPart, InField, IsFormStruct}
use Rattle.kinds.proofs.RenamedLaws.{IsMatched, renamed_list, renamed_each, renamed_nests}
use Rattle.llvm_core.specs.Data.{Operand, Constant, Parameter, Result, Placed, Function, ModuleData, placed_in}
use Rattle.llvm_core.specs.Form.{constant_types, operands_of, HasMadeOperands, IsFormFunction, IsForm, IsMadeOperand, types_in, value_types}
use Rattle.meaning.specs.Renamed.{renamed_operand, renamed_placed, renamed_function, renamed_module}
use Rattle.meaning.proofs.RenamedLaws.{renamed_placed_in}
pub use Rattle.renamed_source.proofs.ConstLaws.{renamed_struct_in}
use Rattle.renamed_source.proofs.ConstLaws.{const_elements}
use Rattle.renamed_source.proofs.DataLaws.{map_both, joined_mapped}
use Rattle.renamed_source.proofs.FormLaws.{mapped_all, get_from, operands_under, result_types, constants_under, renamed_value_types, renamed_form}

some_from : {X Y : Type 0} (g : X → Y) (o : Option X) (y : Y) → option_map g o ≡ Some y → (x : X) × (o ≡ Some x) × (g x ≡ y)
some_from g None y e = cc
some_from g (Some x) y e = (x, refl, cc)

-- ---- the types in use

module _ (to : List ℕ → List ℕ) where
  placed_under : (fs : List Function) → flat_map placed_in (map (renamed_function to) fs) ≡ map (renamed_placed to) (flat_map placed_in fs)
  placed_under fs = joined_mapped placed_in (renamed_function to) (renamed_placed to) placed_in (renamed_placed_in to) fs

  types_under : (d : ModuleData) → types_in (renamed_module to d) ≡ map (renamed to) (types_in d)
  types_under d =
      let structs = map (λ (s : Struct). NamedType s.name) d.structs in
      let functions = map (λ (f : Function). f.type) d.functions in
      let results = map (λ (p : Placed). p.type) (flat_map placed_in d.functions) in
      let constants = flat_map constant_types (flat_map placed_in d.functions) in
      let first = map_both (λ (s : Struct). NamedType s.name) (renamed_struct to) (renamed to) (λ (s : Struct). NamedType s.name) (λ s. refl) d.structs in
      let second = map_both (λ (f : Function). f.type) (renamed_function to) (renamed to) (λ (f : Function). f.type) (λ f. refl) d.functions in
      let third = ap (map (λ (p : Placed). p.type)) (placed_under d.functions) ∙ result_types to (flat_map placed_in d.functions) in
      let fourth = ap (flat_map constant_types) (placed_under d.functions) ∙ constants_under to (flat_map placed_in d.functions) in
      let two = map-append (renamed to) structs functions in
      let three = map-append (renamed to) (structs ++ functions) results in
      let whole = map-append (renamed to) (structs ++ functions ++ results) constants in
      cc

  parts_under : (t : TypeTree) → parts_of (renamed to t) ≡ map (renamed to) (parts_of t)
  parts_under VoidType = refl
  parts_under (IntType w) = refl
  parts_under (PointerType s) = refl
  parts_under (FloatingType a) = refl
  parts_under (RefusedType a) = refl
  parts_under (ArrayType n t) = refl
  parts_under (VectorType k n t) = refl
  parts_under (StructType l ts) = renamed_list to ts
  parts_under (NamedType n) = refl
  parts_under (FunctionType r ps v) = ap (λ (ts : List TypeTree). renamed to r ∷ ts) (renamed_list to ps)

  fields_form : (b : Option StructBody) → option_map_or (λ (b : StructBody). each_throughout is_first_class b.fields) b true ≡ true → option_map_or (λ (b : StructBody). each_throughout is_first_class b.fields) (option_map (renamed_body to) b) true ≡ true
  fields_form None h = refl
  fields_form (Some b) h = renamed_each to is_first_class b.fields ∙ h

  -- a struct of the form is one under a name that a text can say
  pub renamed_struct_form : ((n : List ℕ) → is_good_name n ≡ true → is_good_name (to n) ≡ true) → (s : Struct) → IsFormStruct s → IsFormStruct (renamed_struct to s)
  renamed_struct_form good s h = record { name = good s.name h.name; fields = fields_form s.body h.fields }

-- ---- structs by name

module _ (to : List ℕ → List ℕ) (apart : (a b : List ℕ) → to a ≡ to b → a ≡ b) where
  is_matched : (structs : List Struct) (n : List ℕ) → IsMatched to structs (map (renamed_struct to) structs) n
  is_matched structs n s is = renamed_struct_in to apart structs n ∙ ap (option_map (renamed_struct to)) is

  -- no type nests deeper under other names
  pub renamed_nested : (structs : List Struct) (t : TypeTree) → IsNested structs t → IsNested (map (renamed_struct to) structs) (renamed to t)
  renamed_nested structs t h = renamed_nests to structs (map (renamed_struct to) structs) deepest t (λ n inside. is_matched structs n) h

  -- constants have the elements that their types ask for
  operand_made : (structs : List Struct) (o : Operand) → IsMadeOperand structs o → IsMadeOperand (map (renamed_struct to) structs) (renamed_operand to o)
  operand_made structs (Constant c) h = const_elements to apart structs c h
  operand_made structs (Parameter g i) h = tt
  operand_made structs (Result n) h = tt

  abbrev HasMade : List Struct → Placed → Type 0
  HasMade structs p = All (IsMadeOperand structs) (operands_of p.instruction)

  placed_made : (structs : List Struct) (p : Placed) → HasMade structs p → HasMade (map (renamed_struct to) structs) (renamed_placed to p)
  placed_made structs p h =
      subst (All (IsMadeOperand (map (renamed_struct to) structs))) (sym (operands_under to p.instruction))
      (mapped_all (IsMadeOperand structs) (IsMadeOperand (map (renamed_struct to) structs)) (renamed_operand to) (operand_made structs) (operands_of p.instruction) h)

  pub renamed_made : (structs : List Struct) (f : Function) → HasMadeOperands structs f → HasMadeOperands (map (renamed_struct to) structs) (renamed_function to f)
  renamed_made structs f h =
      subst (All (HasMade (map (renamed_struct to) structs))) (sym (renamed_placed_in to f))
      (mapped_all (HasMade structs) (HasMade (map (renamed_struct to) structs)) (renamed_placed to) (placed_made structs) (placed_in f) h)

  -- a module of the form is one under names that are apart, and that a text can say
  pub renamed_module_form : ((n : List ℕ) → is_good_name n ≡ true → is_good_name (to n) ≡ true) → (d : ModuleData) → IsForm d → IsForm (renamed_module to d)
  renamed_module_form good d h = record {
    functions = mapped_all IsFormFunction IsFormFunction (renamed_function to) (renamed_form to apart) d.functions h.functions;
    structs = mapped_all IsFormStruct IsFormStruct (renamed_struct to) (renamed_struct_form to good) d.structs h.structs;
    elements = mapped_all (HasMadeOperands d.structs) (HasMadeOperands (map (renamed_struct to) d.structs)) (renamed_function to) (renamed_made d.structs) d.functions h.elements;
    nested = subst (All (IsNested (map (renamed_struct to) d.structs))) (sym (types_under to d)) (mapped_all (IsNested d.structs) (IsNested (map (renamed_struct to) d.structs)) (renamed to) (renamed_nested d.structs) (types_in d) h.nested);
  }

  -- ---- what types hold

  refused_before : (of : OtherType) (t : TypeTree) → RefusedType of ≡ renamed to t → t ≡ RefusedType of
  refused_before of (RefusedType a) e = sym e
  refused_before of VoidType e = cc
  refused_before of (IntType w) e = cc
  refused_before of (PointerType s) e = cc
  refused_before of (FloatingType a) e = cc
  refused_before of (ArrayType n t) e = cc
  refused_before of (VectorType k n t) e = cc
  refused_before of (StructType l ts) e = cc
  refused_before of (NamedType n) e = cc
  refused_before of (FunctionType r ps v) e = cc

  named_before : (name : List ℕ) (t : TypeTree) → NamedType name ≡ renamed to t → (n : List ℕ) × (t ≡ NamedType n) × (to n ≡ name)
  named_before name (NamedType n) e = (n, refl, cc)
  named_before name VoidType e = cc
  named_before name (IntType w) e = cc
  named_before name (PointerType s) e = cc
  named_before name (FloatingType a) e = cc
  named_before name (RefusedType a) e = cc
  named_before name (ArrayType n t) e = cc
  named_before name (VectorType k n t) e = cc
  named_before name (StructType l ts) e = cc
  named_before name (FunctionType r ps v) e = cc

  part_before : (u v t : TypeTree) (i : ℕ) → slice_get (parts_of u) i ≡ Some v → u ≡ renamed to t → (w : TypeTree) × (slice_get (parts_of t) i ≡ Some w) × (renamed to w ≡ v)
  part_before u v t i at e = get_from (renamed to) (parts_of t) i v (ap (λ (ts : List TypeTree). slice_get ts i) (sym (ap parts_of e ∙ parts_under to t)) ∙ at)

  -- what stands in a field under other names stands in that of the struct itself
  field_before : (structs : List Struct) (n name : List ℕ) (s : Struct) (b : StructBody) (v : TypeTree) (i : ℕ) → to n ≡ name
      → struct_in (map (renamed_struct to) structs) name ≡ Some s → s.body ≡ Some b → slice_get (types_list b.fields) i ≡ Some v
      → (x : Struct) × (c : StructBody) × (w : TypeTree) × (struct_in structs n ≡ Some x) × (x.body ≡ Some c) × (slice_get (types_list c.fields) i ≡ Some w) × (renamed to w ≡ v)
  field_before structs n name s b v i same is has at =
      let x = some_from (renamed_struct to) (struct_in structs n) s (sym (renamed_struct_in to apart structs n) ∙ ap (struct_in (map (renamed_struct to) structs)) same ∙ is) in
      let c = some_from (renamed_body to) x.0.body b (ap (λ (s : Struct). s.body) x.2 ∙ has) in
      let w = get_from (renamed to) (types_list c.0.fields) i v (ap (λ (ts : List TypeTree). slice_get ts i) (sym (renamed_list to c.0.fields) ∙ ap (λ (b : StructBody). types_list b.fields) c.2) ∙ at) in
      (x.0, c.0, w.0, x.1, c.1, w.1, w.2)

  holds_before : (structs : List Struct) (of : OtherType) (u t : TypeTree) → Holds (map (renamed_struct to) structs) (RefusedType of) u → u ≡ renamed to t → Holds structs (RefusedType of) t
  holds_before structs of _ t Itself e = subst (Holds structs (RefusedType of)) (sym (refused_before of t e)) Itself
  holds_before structs of _ t (InPart u v i at inside) e =
      let p = part_before u v t i at e in
      InPart t p.0 i p.1 (holds_before structs of v p.0 inside (sym p.2))
  holds_before structs of _ t (InField name s b v i is has at inside) e =
      let n = named_before name t e in
      let p = field_before structs n.0 name s b v i n.2 is has at in
      subst (Holds structs (RefusedType of)) (sym n.1) (InField n.0 p.0 p.1 p.2 i p.3 p.4 p.5 (holds_before structs of v p.2 inside (sym p.6)))

  names_before : (name : List ℕ) (u t : TypeTree) → Holds [] (NamedType name) u → u ≡ renamed to t → (n : List ℕ) × (to n ≡ name) × Holds [] (NamedType n) t
  names_before name _ t Itself e = let n = named_before name t e in (n.0, n.2, subst (Holds [] (NamedType n.0)) (sym n.1) Itself)
  names_before name _ t (InPart u v i at inside) e =
      let p = part_before u v t i at e in
      let n = names_before name v p.0 inside (sym p.2) in
      (n.0, n.1, InPart t p.0 i p.1 n.2)
  names_before name _ t (InField other s b v i is has at inside) e = absurd (let no : None ≡ Some s = is in cc)

  -- what a type under other names names is the other name of what the type itself names
  pub renamed_names_in : (name : List ℕ) (t : TypeTree) → Holds [] (NamedType name) (renamed to t) → (n : List ℕ) × (to n ≡ name) × Holds [] (NamedType n) t
  renamed_names_in name t h = names_before name (renamed to t) t h refl

  -- a type holds no more of the types that the dialect lacks under other names
  pub renamed_holds : (structs : List Struct) (of : OtherType) (t : TypeTree) → Holds (map (renamed_struct to) structs) (RefusedType of) (renamed to t) → Holds structs (RefusedType of) t
  renamed_holds structs of t h = holds_before structs of (renamed to t) t h refl

  -- and so does no value of a function of the module: what holds one there holds it in the module itself
  pub renamed_value_holds : (d : ModuleData) (of : OtherType) (i j : ℕ) (g : Function) (u : TypeTree) → slice_get (renamed_module to d).functions i ≡ Some g → slice_get (value_types g) j ≡ Some u
      → Holds (renamed_module to d).structs (RefusedType of) u → (f : Function) × (t : TypeTree) × (slice_get d.functions i ≡ Some f) × (slice_get (value_types f) j ≡ Some t) × Holds d.structs (RefusedType of) t
  renamed_value_holds d of i j g u at here holds =
      let f = get_from (renamed_function to) d.functions i g at in
      let t = get_from (renamed to) (value_types f.0) j u (ap (λ (ts : List TypeTree). slice_get ts j) (sym (renamed_value_types to f.0) ∙ ap value_types f.2) ∙ here) in
      (f.0, t.0, f.1, t.1, holds_before d.structs of u t.0 holds (sym t.2))

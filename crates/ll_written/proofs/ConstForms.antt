-- Constants of the form are writable: a text can say their types, and those of their elements all the way in.
use Rattle.std.proofs.Common.{◌≡◌, ◌∙◌, ℕ, zero, suc, Bool, true, false, ◌&&◌, not, cond, nat_le, nat_lt, ◌^◌, List, [], Option, Some, None, All, refl, sym, subst}
use Rattle.std.specs.List.{AllByRecursion}
use Rattle.std.specs.Option.{option_map_or}
use Rattle.std.proofs.lemmas.List.Elements.{All-head, All-tail}
use Rattle.kinds.specs.declared.fitting.Shape.{Shape}
use Rattle.kinds.specs.declared.types.VectorTypeKind.{VectorTypeKind}
use Rattle.kinds.specs.declared.types.VectorTypeKind.TheVariants as E
use Rattle.kinds.specs.Types.{TypeTree, ArrayType, VectorType, StructType, NamedType, TypeTrees, NoTypes, ThenType, shape, same_tree, types_list}
use Rattle.kinds.specs.Structs.{StructBody, Struct, IsNested, IsFormStruct}
use Rattle.kinds.specs.Held.{IsFirstClass}
use Rattle.kinds.specs.Fitting.{is_field, is_amx, is_array_of, is_vector_of, is_made}
use Rattle.kinds.proofs.TypeLaws.{and_left, and_right, tree_told}
use Rattle.kinds.proofs.HeldLaws.{parts_first_class}
use Rattle.kinds.proofs.NestLaws.{parts_nested}
use Rattle.llvm_core.specs.Data.{ConstTree, IntConst, FilledConst, BytesConst, ListConst, SplatConst, PlaceholderConst, ConstTrees, NoConsts, ThenConst, const_type}
use Rattle.llvm_core.specs.Elements.{is_placeholder, is_element, are_all, are_each, body_named, are_elements, splat_const, HasElements, HaveElements}
use Rattle.llvm_core.specs.Form.{IsFormConst, AreFormConsts}
use Rattle.ll_lines.specs.declared.lines.Brackets.TheVariants as B
use Rattle.ll_lines.specs.Lines.{Text, SaidConsts}
use Rattle.ll_said.specs.Said.{brackets_of, said_const, said_consts}
use Rattle.ll_written.specs.Printing.{said_type}
use Rattle.ll_written.specs.Writable.{IsSayableType, an_int, a_filled, HasLane, begin_with_lane, IsSaidConst, IsElement, AreElements}
use Rattle.ll_written.proofs.NameForms.{chars_form}
use Rattle.ll_written.proofs.NamedForms.{nested_good, body_sound}
use Rattle.ll_written.proofs.PartForms.{vector_parts}

-- a type of a value whose structs are there
pub record IsSound (structs : List Struct) (τ : TypeTree) : Type 0 where
  pub type : IsFirstClass τ
  pub nested : IsNested structs τ

-- so is that of each constant
abbrev AreSound : List Struct → ConstTrees → Type 0
AreSound structs NoConsts = Unit {0}
AreSound structs (ThenConst c cs) = IsSound structs (const_type c) × AreSound structs cs

-- the type that stands before a constant is its own: a line for each kind
type_before : (structs : List Struct) (c : ConstTree) → said_type (said_const structs c) ≡ const_type c
type_before structs (IntConst w n) = refl
type_before structs (FilledConst fill τ) = refl
type_before structs (BytesConst bytes) = refl
type_before structs (ListConst τ cs) = refl
type_before structs (SplatConst τ c) = refl
type_before structs (PlaceholderConst n τ) = refl

both_true : (a b : Bool) → a ≡ true → b ≡ true → (a && b) ≡ true
both_true true b e f = f
both_true false b e f = absurd cc

-- a lane of a vector is one of any vector
one_lane : (n : ℕ) (s : Shape) → is_vector_of n s ≡ true → is_vector_of 1 s ≡ true
one_lane n s h =
    let array = and_right (nat_le 1 n && nat_lt n (2 ^ 32)) (is_array_of n s) (and_left (nat_le 1 n && nat_lt n (2 ^ 32) && is_array_of n s) (not (is_made s)) h) in
    let made = and_right (nat_le 1 n && nat_lt n (2 ^ 32) && is_array_of n s) (not (is_made s)) h in
    let field = and_right (nat_lt n (2 ^ 64)) (is_field s) (and_left (nat_lt n (2 ^ 64) && is_field s) (not (is_amx s)) array) in
    let amx = and_right (nat_lt n (2 ^ 64) && is_field s) (not (is_amx s)) array in
    both_true (is_array_of 1 s) (not (is_made s)) (both_true (is_field s) (not (is_amx s)) field amx) made

module _ (structs : List Struct) (all : AllByRecursion IsFormStruct structs) where
  sayable : (τ : TypeTree) → IsSound structs τ → IsSayableType τ
  sayable τ h = record { type = h.type; names = nested_good structs all τ h.nested }

  -- ---- types of elements

  array_part : (n : ℕ) (t : TypeTree) → IsSound structs (ArrayType n t) → IsSound structs t
  array_part n t h = record { type = All-head IsFirstClass t [] (parts_first_class (ArrayType n t) h.type); nested = All-head (IsNested structs) t [] (parts_nested structs (ArrayType n t) h.nested) }

  lane_sound : (k : VectorTypeKind) (n : ℕ) (t : TypeTree) → IsSound structs (VectorType k n t) → IsSound structs t
  lane_sound k n t h = record { type = All-head IsFirstClass t [] (parts_first_class (VectorType k n t) h.type); nested = All-head (IsNested structs) t [] (parts_nested structs (VectorType k n t) h.nested) }

  element_sound : (τ : TypeTree) (c : ConstTree) → IsSound structs τ → is_element τ c ≡ true → IsSound structs (const_type c)
  element_sound τ c h is = subst (λ (t : TypeTree). IsSound structs t) (sym (tree_told (const_type c) τ (and_left (same_tree (const_type c) τ) (not (is_placeholder c)) is))) h

  all_sound : (n : ℕ) (τ : TypeTree) (cs : ConstTrees) → IsSound structs τ → are_all n τ cs ≡ true → AreSound structs cs
  all_sound n τ NoConsts h are = tt
  all_sound zero τ (ThenConst c cs) h are = absurd cc
  all_sound (suc n) τ (ThenConst c cs) h are = (element_sound τ c h (and_left (is_element τ c) (are_all n τ cs) are), all_sound n τ cs h (and_right (is_element τ c) (are_all n τ cs) are))

  each_sound : (ts : TypeTrees) (cs : ConstTrees) → All IsFirstClass (types_list ts) → All (IsNested structs) (types_list ts) → are_each ts cs ≡ true → AreSound structs cs
  each_sound ts NoConsts types nested are = tt
  each_sound NoTypes (ThenConst c cs) types nested are = absurd cc
  each_sound (ThenType t ts) (ThenConst c cs) types nested are =
      let first : IsSound structs t = record { type = All-head IsFirstClass t (types_list ts) types; nested = All-head (IsNested structs) t (types_list ts) nested } in
      let others = each_sound ts cs (All-tail IsFirstClass t (types_list ts) types) (All-tail (IsNested structs) t (types_list ts) nested) (and_right (is_element t c) (are_each ts cs) are) in
      (element_sound t c first (and_left (is_element t c) (are_each ts cs) are), others)

  -- the fields of a literal struct, or of one with a name
  fields_sound : (b : StructBody) (cs : ConstTrees) → IsSound structs (StructType b.layout b.fields) → are_each b.fields cs ≡ true → AreSound structs cs
  fields_sound b cs h are = each_sound b.fields cs (parts_first_class (StructType b.layout b.fields) h.type) (parts_nested structs (StructType b.layout b.fields) h.nested) are

  named_sound : (name : Text) (o : Option StructBody) (cs : ConstTrees) → body_named structs name ≡ o → IsNested structs (NamedType name) → option_map_or (λ (b : StructBody). are_each b.fields cs) o false ≡ true → AreSound structs cs
  named_sound name None cs is nested are = absurd cc
  named_sound name (Some b) cs is nested are =
      let k = body_sound structs all name b is nested in
      fields_sound b cs (record { type = k.0; nested = k.1 }) are

  elements_sound : (τ : TypeTree) (cs : ConstTrees) → IsSound structs τ → are_elements structs τ cs ≡ true → AreSound structs cs
  elements_sound (ArrayType n t) cs h are = all_sound n t cs (array_part n t h) are
  elements_sound (VectorType E.Fixed n t) cs h are = all_sound n t cs (lane_sound E.Fixed n t h) are
  elements_sound (StructType l ts) cs h are = fields_sound (record { fields = ts; layout = l }) cs h are
  elements_sound (NamedType name) cs h are = named_sound name (body_named structs name) cs refl h.nested are
  elements_sound τ cs h are = absurd cc

  -- ---- lanes of vectors

  -- what holds of a first element, whose type is that of a lane
  lane_begins : (t : TypeTree) (c : ConstTree) → is_element t c ≡ true → is_vector_of 1 (shape t) ≡ true → is_vector_of 1 (shape (said_type (said_const structs c))) ≡ true
  lane_begins t c is lane =
      let own : said_type (said_const structs c) ≡ t = type_before structs c ∙ tree_told (const_type c) t (and_left (same_tree (const_type c) t) (not (is_placeholder c)) is) in
      subst (λ (u : TypeTree). is_vector_of 1 (shape u) ≡ true) (sym own) lane

  vector_lane : (n : ℕ) (t : TypeTree) (cs : ConstTrees) → is_vector_of n (shape t) ≡ true → are_all n t cs ≡ true → begin_with_lane (said_consts structs cs) ≡ true
  vector_lane zero t cs may are = absurd cc
  vector_lane (suc n) t NoConsts may are = absurd cc
  vector_lane (suc n) t (ThenConst c cs) may are = lane_begins t c (and_left (is_element t c) (are_all n t cs) are) (one_lane (suc n) (shape t) may)

  struct_lane : (o : Option StructBody) (cs : SaidConsts) → HasLane (option_map_or (λ (b : StructBody). B.Struct b.layout) o B.Array) cs
  struct_lane None cs = tt
  struct_lane (Some b) cs = tt

  lane_form : (τ : TypeTree) (cs : ConstTrees) → IsSound structs τ → are_elements structs τ cs ≡ true → HasLane (brackets_of structs τ) (said_consts structs cs)
  lane_form (VectorType E.Fixed n t) cs h are = vector_lane n t cs (vector_parts E.Fixed n t (sayable (VectorType E.Fixed n t) h)).may are
  lane_form (ArrayType n t) cs h are = tt
  lane_form (StructType l ts) cs h are = tt
  lane_form (NamedType name) cs h are = struct_lane (body_named structs name) (said_consts structs cs)
  lane_form τ cs h are = absurd cc

  -- ---- splats

  splat_by : (k : VectorTypeKind) (n : ℕ) (t : TypeTree) (c x : ConstTree) (made : ConstTree) (is : Bool) → is_element t c ≡ is → IsSound structs (VectorType k n t) → cond is (Some made) None ≡ Some x → IsSound structs (const_type c)
  splat_by k n t c x made true is h e = element_sound t c (lane_sound k n t h) is
  splat_by k n t c x made false is h e = absurd cc

  splat_sound : (τ : TypeTree) (c x : ConstTree) → IsSound structs τ → splat_const τ c ≡ Some x → IsSound structs (const_type c)
  splat_sound (VectorType E.Fixed n t) c x h e = splat_by E.Fixed n t c x _ (is_element t c) refl h e
  splat_sound (VectorType E.Scalable n t) c x h e = splat_by E.Scalable n t c x _ (is_element t c) refl h e
  splat_sound τ c x h e = absurd cc

  -- ---- constants

  -- a constant behind its type, from what it is without
  element_form : (c : ConstTree) → IsSound structs (const_type c) → IsSaidConst (const_type c) (said_const structs c) → IsElement (said_const structs c)
  element_form c h own = subst (λ (τ : TypeTree). IsSayableType τ × IsSaidConst τ (said_const structs c)) (sym (type_before structs c)) (sayable (const_type c) h, own)

  mutual
    -- a line for each kind
    pub const_form : (c : ConstTree) → IsFormConst c → HasElements structs c → IsSound structs (const_type c) → IsSaidConst (const_type c) (said_const structs c)
    const_form (IntConst w n) form made h = an_int w n form.1
    const_form (FilledConst fill τ) form made h = a_filled fill τ form
    const_form (BytesConst bytes) form made h = (refl, chars_form bytes form.0)
    const_form (ListConst τ cs) form made h = (refl, lane_form τ cs h made.0, consts_form cs form.1 made.1 (elements_sound τ cs h made.0))
    const_form (SplatConst τ c) form made h =
        let sound = splat_sound τ c (SplatConst τ c) h made.0 in
        let own = element_form c sound (const_form c form.1 made.1 sound) in
        (refl, own.0, own.1)
    const_form (PlaceholderConst n τ) form made h = absurd form

    consts_form : (cs : ConstTrees) → AreFormConsts cs → HaveElements structs cs → AreSound structs cs → AreElements (said_consts structs cs)
    consts_form NoConsts form made h = tt
    consts_form (ThenConst c cs) form made h = (element_form c h.0 (const_form c form.0 made.0 h.0), consts_form cs form.1 made.1 h.1)

-- A constant under other names of structs is in its one form, and has the elements that its type asks for, where the constant itself has.
use Rattle.std.proofs.Common.{◌≡◌, ℕ, zero, suc, Bool, true, false, ◌&&◌, nat_eq, refl, ap, sym, ◌∙◌, List, [], ◌∷◌, map, Option, Some, None, if◌then◌else◌, bytes_eq}
use mathlib.Core.Path.{fun_ext}
use Rattle.std.specs.List.{find}
use Rattle.std.specs.Option.{option_map, option_map_or, option_and_then}
use Rattle.kinds.specs.declared.fill.Fill.{Fill}
use Rattle.kinds.specs.declared.types.VectorTypeKind.TheVariants as V
use Rattle.kinds.specs.Fill.{is_own_fill}
use Rattle.kinds.specs.Types.{TypeTree, VoidType, IntType, PointerType, FloatingType, RefusedType, ArrayType, VectorType, StructType, NamedType, FunctionType, TypeTrees, NoTypes, ThenType}
use Rattle.kinds.specs.Structs.{StructBody, Struct, struct_in, renamed, renamed_all, renamed_body, renamed_struct}
use Rattle.kinds.proofs.RenamedLaws.{renamed_shape, renamed_width}
use Rattle.llvm_core.specs.Consts.{common_fill, all_ints}
use Rattle.llvm_core.specs.Data.{ConstTree, IntConst, FilledConst, BytesConst, ListConst, SplatConst, PlaceholderConst, ConstTrees, NoConsts, ThenConst, const_type, fill_in, int_in, told_of, is_byte_array, listed, formed}
use Rattle.llvm_core.specs.Elements.{is_placeholder, is_element, are_all, are_each, are_elements, copies, splat_const, HasElements, HaveElements}
use Rattle.llvm_core.specs.Form.{IsFormConst, AreFormConsts}
use Rattle.meaning.specs.Renamed.{renamed_const, renamed_consts}
use Rattle.meaning.proofs.RenamedLaws.{find_map}
use Rattle.renamed_source.proofs.FittingLaws.{names_apart, same_renamed}

module _ (to : List ℕ → List ℕ) where
  -- ---- what is told of a constant

  fill_under : (c : ConstTree) → fill_in (renamed_const to c) ≡ fill_in c
  fill_under (IntConst w v) = refl
  fill_under (FilledConst fill t) = refl
  fill_under (BytesConst bytes) = refl
  fill_under (ListConst t cs) = refl
  fill_under (SplatConst t c) = refl
  fill_under (PlaceholderConst n t) = refl

  int_under : (c : ConstTree) → int_in (renamed_const to c) ≡ int_in c
  int_under (IntConst w v) = refl
  int_under (FilledConst fill t) = refl
  int_under (BytesConst bytes) = refl
  int_under (ListConst t cs) = refl
  int_under (SplatConst t c) = refl
  int_under (PlaceholderConst n t) = refl

  type_under : (c : ConstTree) → const_type (renamed_const to c) ≡ renamed to (const_type c)
  type_under (IntConst w v) = refl
  type_under (FilledConst fill t) = refl
  type_under (BytesConst bytes) = refl
  type_under (ListConst t cs) = refl
  type_under (SplatConst t c) = refl
  type_under (PlaceholderConst n t) = refl

  placeholder_under : (c : ConstTree) → is_placeholder (renamed_const to c) ≡ is_placeholder c
  placeholder_under (IntConst w v) = refl
  placeholder_under (FilledConst fill t) = refl
  placeholder_under (BytesConst bytes) = refl
  placeholder_under (ListConst t cs) = refl
  placeholder_under (SplatConst t c) = refl
  placeholder_under (PlaceholderConst n t) = refl

  told_under : {X : Type 0} (f : ConstTree → Option X) → ((c : ConstTree) → f (renamed_const to c) ≡ f c) → (cs : ConstTrees) → told_of f (renamed_consts to cs) ≡ told_of f cs
  told_under f h NoConsts = refl
  told_under {X} f h (ThenConst c cs) = ap (λ (o : Option X). o ∷ told_of f (renamed_consts to cs)) (h c) ∙ ap (λ (os : List (Option X)). f c ∷ os) (told_under f h cs)

  byte_array_under : (t : TypeTree) → is_byte_array (renamed to t) ≡ is_byte_array t
  byte_array_under VoidType = refl
  byte_array_under (IntType w) = refl
  byte_array_under (PointerType s) = refl
  byte_array_under (FloatingType a) = refl
  byte_array_under (RefusedType a) = refl
  byte_array_under (ArrayType n t) = ap (λ (w : ℕ). nat_eq w 8) (renamed_width to t)
  byte_array_under (VectorType k n t) = refl
  byte_array_under (StructType l ts) = refl
  byte_array_under (NamedType n) = refl
  byte_array_under (FunctionType r ps v) = refl

  copies_under : (n : ℕ) (c : ConstTree) → renamed_consts to (copies n c) ≡ copies n (renamed_const to c)
  copies_under zero c = refl
  copies_under (suc n) c = ap (ThenConst (renamed_const to c)) (copies_under n c)

  -- ---- the one form

  abbrev list_by : TypeTree → ConstTrees → Bool → List (Option Fill) → List (Option ℕ) → ConstTree
  list_by t cs b fills ints = option_map_or (λ (fill : Fill). FilledConst fill t) (common_fill fills) (option_map_or BytesConst (if b then all_ints ints else None) (ListConst t cs))

  pub listed_under : (t : TypeTree) (cs : ConstTrees) → listed (renamed to t) (renamed_consts to cs) ≡ renamed_const to (listed t cs)
  listed_under t cs =
      ap (λ (b : Bool). list_by (renamed to t) (renamed_consts to cs) b (told_of fill_in (renamed_consts to cs)) (told_of int_in (renamed_consts to cs))) (byte_array_under t)
      ∙ ap (λ (os : List (Option Fill)). list_by (renamed to t) (renamed_consts to cs) (is_byte_array t) os (told_of int_in (renamed_consts to cs))) (told_under fill_in fill_under cs)
      ∙ ap (λ (os : List (Option ℕ)). list_by (renamed to t) (renamed_consts to cs) (is_byte_array t) (told_of fill_in cs) os) (told_under int_in int_under cs)
      ∙ by (common_fill (told_of fill_in cs)) (if is_byte_array t then all_ints (told_of int_in cs) else None)
    where
      by : (o : Option Fill) (u : Option (List ℕ)) → option_map_or (λ (fill : Fill). FilledConst fill (renamed to t)) o (option_map_or BytesConst u (ListConst (renamed to t) (renamed_consts to cs))) ≡ renamed_const to (option_map_or (λ (fill : Fill). FilledConst fill t) o (option_map_or BytesConst u (ListConst t cs)))
      by (Some fill) u = refl
      by None (Some bytes) = refl
      by None None = refl

  pub splat_under : (t : TypeTree) (c : ConstTree) → formed (SplatConst (renamed to t) (renamed_const to c)) ≡ renamed_const to (formed (SplatConst t c))
  splat_under t c = ap (λ (o : Option Fill). option_map_or (λ (fill : Fill). FilledConst fill (renamed to t)) o (SplatConst (renamed to t) (renamed_const to c))) (fill_under c) ∙ by (fill_in c)
    where
      by : (o : Option Fill) → option_map_or (λ (fill : Fill). FilledConst fill (renamed to t)) o (SplatConst (renamed to t) (renamed_const to c)) ≡ renamed_const to (option_map_or (λ (fill : Fill). FilledConst fill t) o (SplatConst t c))
      by (Some fill) = refl
      by None = refl

  -- a constant of the form is one under other names
  mutual
    pub const_form : (c : ConstTree) → IsFormConst c → IsFormConst (renamed_const to c)
    const_form (IntConst w v) h = h
    const_form (FilledConst fill t) h = ap (is_own_fill fill) (renamed_shape to t) ∙ h
    const_form (BytesConst bytes) h = h
    const_form (ListConst t cs) h = (listed_under t cs ∙ ap (renamed_const to) h.0, consts_form cs h.1)
    const_form (SplatConst t c) h = (splat_under t c ∙ ap (renamed_const to) h.0, const_form c h.1)
    const_form (PlaceholderConst n t) h = absurd h

    consts_form : (cs : ConstTrees) → AreFormConsts cs → AreFormConsts (renamed_consts to cs)
    consts_form NoConsts h = tt
    consts_form (ThenConst c cs) h = (const_form c h.0, consts_form cs h.1)

-- ---- elements

module _ (to : List ℕ → List ℕ) (apart : (a b : List ℕ) → to a ≡ to b → a ≡ b) where
  -- the struct of a name stands under its other name among the others
  pub renamed_struct_in : (structs : List Struct) (n : List ℕ) → struct_in (map (renamed_struct to) structs) (to n) ≡ option_map (renamed_struct to) (struct_in structs n)
  renamed_struct_in structs n =
      find_map (renamed_struct to) (λ (s : Struct). bytes_eq s.name (to n)) structs
      ∙ ap (λ (p : Struct → Bool). option_map (renamed_struct to) (find p structs)) (fun_ext (λ s. names_apart to apart s.name n (bytes_eq (to s.name) (to n)) (bytes_eq s.name n) refl refl))

  element_under : (t : TypeTree) (c : ConstTree) → is_element (renamed to t) (renamed_const to c) ≡ is_element t c
  element_under t c = rw (type_under to c, same_renamed to apart (const_type c) t, placeholder_under to c) refl

  all_under : (n : ℕ) (t : TypeTree) (cs : ConstTrees) → are_all n (renamed to t) (renamed_consts to cs) ≡ are_all n t cs
  all_under zero t NoConsts = refl
  all_under zero t (ThenConst c cs) = refl
  all_under (suc n) t NoConsts = refl
  all_under (suc n) t (ThenConst c cs) = ap (λ (b : Bool). b && are_all n (renamed to t) (renamed_consts to cs)) (element_under t c) ∙ ap (λ (b : Bool). is_element t c && b) (all_under n t cs)

  each_under : (ts : TypeTrees) (cs : ConstTrees) → are_each (renamed_all to ts) (renamed_consts to cs) ≡ are_each ts cs
  each_under NoTypes NoConsts = refl
  each_under NoTypes (ThenConst c cs) = refl
  each_under (ThenType t ts) NoConsts = refl
  each_under (ThenType t ts) (ThenConst c cs) = ap (λ (b : Bool). b && are_each (renamed_all to ts) (renamed_consts to cs)) (element_under t c) ∙ ap (λ (b : Bool). is_element t c && b) (each_under ts cs)

  body_under : (o : Option StructBody) (cs : ConstTrees) → option_map_or (λ (b : StructBody). are_each b.fields (renamed_consts to cs)) (option_map (renamed_body to) o) false ≡ option_map_or (λ (b : StructBody). are_each b.fields cs) o false
  body_under None cs = refl
  body_under (Some b) cs = each_under b.fields cs

  fields_under : (o : Option Struct) (cs : ConstTrees) → option_map_or (λ (b : StructBody). are_each b.fields (renamed_consts to cs)) (option_and_then (λ (s : Struct). s.body) (option_map (renamed_struct to) o)) false ≡ option_map_or (λ (b : StructBody). are_each b.fields cs) (option_and_then (λ (s : Struct). s.body) o) false
  fields_under None cs = refl
  fields_under (Some s) cs = body_under s.body cs

  elements_under : (structs : List Struct) (t : TypeTree) (cs : ConstTrees) → are_elements (map (renamed_struct to) structs) (renamed to t) (renamed_consts to cs) ≡ are_elements structs t cs
  elements_under structs VoidType cs = refl
  elements_under structs (IntType w) cs = refl
  elements_under structs (PointerType s) cs = refl
  elements_under structs (FloatingType a) cs = refl
  elements_under structs (RefusedType a) cs = refl
  elements_under structs (ArrayType n t) cs = all_under n t cs
  elements_under structs (VectorType V.Fixed n t) cs = all_under n t cs
  elements_under structs (VectorType V.Scalable n t) cs = refl
  elements_under structs (StructType l ts) cs = each_under ts cs
  elements_under structs (NamedType n) cs =
      ap (λ (o : Option Struct). option_map_or (λ (b : StructBody). are_each b.fields (renamed_consts to cs)) (option_and_then (λ (s : Struct). s.body) o) false) (renamed_struct_in structs n)
      ∙ fields_under (struct_in structs n) cs
  elements_under structs (FunctionType r ps v) cs = refl

  splat_const_under : (t : TypeTree) (c : ConstTree) → splat_const (renamed to t) (renamed_const to c) ≡ option_map (renamed_const to) (splat_const t c)
  splat_const_under VoidType c = refl
  splat_const_under (IntType w) c = refl
  splat_const_under (PointerType s) c = refl
  splat_const_under (FloatingType a) c = refl
  splat_const_under (RefusedType a) c = refl
  splat_const_under (ArrayType n t) c = refl
  splat_const_under (VectorType V.Fixed n t) c =
      ap (λ (b : Bool). if b then Some (listed (renamed to (VectorType V.Fixed n t)) (copies n (renamed_const to c))) else None) (element_under t c) ∙ by (is_element t c)
    where
      by : (b : Bool) → (if b then Some (listed (renamed to (VectorType V.Fixed n t)) (copies n (renamed_const to c))) else None) ≡ option_map (renamed_const to) (if b then Some (listed (VectorType V.Fixed n t) (copies n c)) else None)
      by true = ap Some (ap (listed (renamed to (VectorType V.Fixed n t))) (sym (copies_under to n c)) ∙ listed_under to (VectorType V.Fixed n t) (copies n c))
      by false = refl
  splat_const_under (VectorType V.Scalable n t) c =
      ap (λ (b : Bool). if b then Some (formed (SplatConst (renamed to (VectorType V.Scalable n t)) (renamed_const to c))) else None) (element_under t c) ∙ by (is_element t c)
    where
      by : (b : Bool) → (if b then Some (formed (SplatConst (renamed to (VectorType V.Scalable n t)) (renamed_const to c))) else None) ≡ option_map (renamed_const to) (if b then Some (formed (SplatConst (VectorType V.Scalable n t) c)) else None)
      by true = ap Some (splat_under to (VectorType V.Scalable n t) c)
      by false = refl
  splat_const_under (StructType l ts) c = refl
  splat_const_under (NamedType n) c = refl
  splat_const_under (FunctionType r ps v) c = refl

  -- a constant with the elements that its type asks for has them under other names
  mutual
    pub const_elements : (structs : List Struct) (c : ConstTree) → HasElements structs c → HasElements (map (renamed_struct to) structs) (renamed_const to c)
    const_elements structs (IntConst w v) h = tt
    const_elements structs (FilledConst fill t) h = tt
    const_elements structs (BytesConst bytes) h = tt
    const_elements structs (ListConst t cs) h = (elements_under structs t cs ∙ h.0, consts_elements structs cs h.1)
    const_elements structs (SplatConst t c) h = (splat_const_under t c ∙ ap (option_map (renamed_const to)) h.0, const_elements structs c h.1)
    const_elements structs (PlaceholderConst n t) h = tt

    consts_elements : (structs : List Struct) (cs : ConstTrees) → HaveElements structs cs → HaveElements (map (renamed_struct to) structs) (renamed_consts to cs)
    consts_elements structs NoConsts h = tt
    consts_elements structs (ThenConst c cs) h = (const_elements structs c h.0, consts_elements structs cs h.1)

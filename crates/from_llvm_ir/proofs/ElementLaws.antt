-- The elements of constants, whose structs a context has under the identifiers that they were given.
use Rattle.std.proofs.Common.{ℕ, zero, suc, ◌≡◌, ◌∙◌, refl, sym, ap, subst, Bool, true, false, not, List, [], ◌∷◌, Option, Some, None, All, map, slice_get}
use Rattle.std.specs.Option.{option_map, option_map_or, option_and_then}
use Rattle.std.proofs.lemmas.Bool.{and_from}
use Rattle.support.proofs.ListLaws.{all_from}
use Rattle.kinds.specs.declared.types.VectorTypeKind.TheVariants as N
use Rattle.kinds.specs.Types.{TypeTree, VoidType, IntType, PointerType, FloatingType, RefusedType, ArrayType, VectorType, StructType, NamedType, FunctionType, TypeTrees, NoTypes, ThenType, same_tree, types_list}
use Rattle.kinds.specs.Structs.{Struct, StructBody, Holds, Itself, InPart, InField, struct_in, renamed, renamed_all, renamed_body, renamed_struct}
use Rattle.kinds.proofs.TypeLaws.{and_left, and_right, tree_self, tree_told}
use Rattle.llvm_core.specs.Data as L
use Rattle.llvm_core.specs.Data.{ConstTree, IntConst, FilledConst, BytesConst, ListConst, SplatConst, PlaceholderConst, ConstTrees, NoConsts, ThenConst, ModuleData, Instruction, Placed, const_type, placed_in}
use Rattle.llvm_core.specs.Elements.{HasElements, HaveElements, are_all, are_each, are_elements, is_element, is_placeholder}
use Rattle.llvm_core.specs.Form.{HasMadeOperands, IsHeldFunction, IsMadeOperand, IsShortConst, AreShort, IsShortOperand, operands_of, value_types}
use Rattle.llvm_core.proofs.DataLemmas.{within_at}
use Rattle.meaning.specs.Renamed.{renamed_const, renamed_consts, renamed_operand, renamed_phi_entry, renamed_instruction, renamed_placed, renamed_function}
use Rattle.meaning.proofs.RenamedLaws.{renamed_placed_in}
use Rattle.held_types.specs.Held.{HasTypeWith}
use Rattle.renamed_source.specs.Names.{AreStructNames, struct_name}
use Rattle.renamed_source.proofs.FormLaws.{get_from}
use Rattle.renamed_source.proofs.NameLaws.{struct_name_listed}
use Rattle.from_llvm_ir.specs.Imported.{IsIn}
use Rattle.from_llvm_ir.specs.Source.{IsListed}
use Rattle.from_llvm_ir.specs.Structs.{AreMade, StructNames, source_names}
use Rattle.from_llvm_ir.specs.Types.{IsReadyFor}
use Rattle.from_llvm_ir.proofs.ConstLaws.{constant_value}
use Rattle.from_llvm_ir.proofs.FoundLaws.{function_named}

module _ (structs target : List Struct) (to : List ℕ → List ℕ) where
  -- what it is of under another name
  abbrev other : TypeTree → TypeTree
  other t = renamed to t

  -- each struct that the type holds stands among those of the context under its identifier
  abbrev pub IsThere : TypeTree → Type 0
  IsThere t = (name : List ℕ) → Holds structs (NamedType name) t → (s : Struct) × (struct_in structs name ≡ Some s) × (struct_in target (to name) ≡ Some (renamed_struct to s))

  abbrev AreThere : ConstTrees → Type 0
  AreThere NoConsts = Unit {0}
  AreThere (ThenConst c cs) = IsThere (const_type c) × AreThere cs

  -- ---- elements

  type_under : (c : ConstTree) → const_type (renamed_const to c) ≡ other (const_type c)
  type_under (IntConst w v) = refl
  type_under (FilledConst fill t) = refl
  type_under (BytesConst bytes) = refl
  type_under (ListConst t cs) = refl
  type_under (SplatConst t c) = refl
  type_under (PlaceholderConst n t) = refl

  placeholder_under : (c : ConstTree) → is_placeholder (renamed_const to c) ≡ is_placeholder c
  placeholder_under (IntConst w v) = refl
  placeholder_under (FilledConst fill t) = refl
  placeholder_under (BytesConst bytes) = refl
  placeholder_under (ListConst t cs) = refl
  placeholder_under (SplatConst t c) = refl
  placeholder_under (PlaceholderConst n t) = refl

  element_told : (τ : TypeTree) (c : ConstTree) → is_element τ c ≡ true → const_type c ≡ τ
  element_told τ c h = tree_told (const_type c) τ (and_left (same_tree (const_type c) τ) (not (is_placeholder c)) h)

  element_under : (τ : TypeTree) (c : ConstTree) → is_element τ c ≡ true → is_element (other τ) (renamed_const to c) ≡ true
  element_under τ c h =
      and_from (same_tree (const_type (renamed_const to c)) (other τ)) (not (is_placeholder (renamed_const to c)))
      (ap (λ (t : TypeTree). same_tree t (other τ)) (type_under c ∙ ap other (element_told τ c h)) ∙ tree_self (other τ))
      (ap not (placeholder_under c) ∙ and_right (same_tree (const_type c) τ) (not (is_placeholder c)) h)

  all_under : (n : ℕ) (τ : TypeTree) (cs : ConstTrees) → are_all n τ cs ≡ true → are_all n (other τ) (renamed_consts to cs) ≡ true
  all_under zero τ NoConsts h = refl
  all_under zero τ (ThenConst c cs) h = cc
  all_under (suc n) τ NoConsts h = cc
  all_under (suc n) τ (ThenConst c cs) h =
      and_from (is_element (other τ) (renamed_const to c)) (are_all n (other τ) (renamed_consts to cs))
      (element_under τ c (and_left (is_element τ c) (are_all n τ cs) h)) (all_under n τ cs (and_right (is_element τ c) (are_all n τ cs) h))

  each_under : (τs : TypeTrees) (cs : ConstTrees) → are_each τs cs ≡ true → are_each (renamed_all to τs) (renamed_consts to cs) ≡ true
  each_under NoTypes NoConsts h = refl
  each_under NoTypes (ThenConst c cs) h = cc
  each_under (ThenType τ τs) NoConsts h = cc
  each_under (ThenType τ τs) (ThenConst c cs) h =
      and_from (is_element (other τ) (renamed_const to c)) (are_each (renamed_all to τs) (renamed_consts to cs))
      (element_under τ c (and_left (is_element τ c) (are_each τs cs) h)) (each_under τs cs (and_right (is_element τ c) (are_each τs cs) h))

  abbrev has_each : ConstTrees → Option StructBody → Bool
  has_each cs o = option_map_or (λ (b : StructBody). are_each b.fields cs) o false

  body_under : (o : Option StructBody) (cs : ConstTrees) → has_each cs o ≡ true → has_each (renamed_consts to cs) (option_map (renamed_body to) o) ≡ true
  body_under None cs h = cc
  body_under (Some b) cs h = each_under b.fields cs h

  abbrev body_in : Option Struct → Option StructBody
  body_in o = option_and_then (λ (s : Struct). s.body) o

  -- the elements of a list are those that its type asks for: a line for each kind that has elements
  elements_under : (t : TypeTree) (cs : ConstTrees) → IsThere t → are_elements structs t cs ≡ true → are_elements target (other t) (renamed_consts to cs) ≡ true
  elements_under (ArrayType n τ) cs there h = all_under n τ cs h
  elements_under (VectorType N.Fixed n τ) cs there h = all_under n τ cs h
  elements_under (StructType layout τs) cs there h = each_under τs cs h
  elements_under (NamedType name) cs there h =
      let (s, found, made) = there name Itself in
      ap (λ (o : Option Struct). has_each (renamed_consts to cs) (body_in o)) made ∙ body_under s.body cs (ap (λ (o : Option Struct). has_each cs (body_in o)) (sym found) ∙ h)
  elements_under (VectorType N.Scalable n τ) cs there h = cc
  elements_under VoidType cs there h = cc
  elements_under (IntType w) cs there h = cc
  elements_under (PointerType space) cs there h = cc
  elements_under (FloatingType of) cs there h = cc
  elements_under (RefusedType of) cs there h = cc
  elements_under (FunctionType r ps v) cs there h = cc

  -- ---- what the types of elements hold

  all_there : (n : ℕ) (τ : TypeTree) (cs : ConstTrees) → IsThere τ → are_all n τ cs ≡ true → AreThere cs
  all_there n τ NoConsts there h = tt
  all_there zero τ (ThenConst c cs) there h = cc
  all_there (suc n) τ (ThenConst c cs) there h =
      (subst IsThere (sym (element_told τ c (and_left (is_element τ c) (are_all n τ cs) h))) there, all_there n τ cs there (and_right (is_element τ c) (are_all n τ cs) h))

  each_there : (τs : TypeTrees) (cs : ConstTrees) → ((i : ℕ) (v : TypeTree) → slice_get (types_list τs) i ≡ Some v → IsThere v) → are_each τs cs ≡ true → AreThere cs
  each_there τs NoConsts there h = tt
  each_there NoTypes (ThenConst c cs) there h = cc
  each_there (ThenType τ τs) (ThenConst c cs) there h =
      (subst IsThere (sym (element_told τ c (and_left (is_element τ c) (are_each τs cs) h))) (there 0 τ refl), each_there τs cs (λ i v at. there (suc i) v at) (and_right (is_element τ c) (are_each τs cs) h))

  named_there : (name : List ℕ) (s : Struct) (o : Option StructBody) (cs : ConstTrees) → IsThere (NamedType name) → struct_in structs name ≡ Some s → s.body ≡ o → has_each cs o ≡ true → AreThere cs
  named_there name s None cs there found body h = cc
  named_there name s (Some b) cs there found body h = each_there b.fields cs (λ i v at n held. there n (InField name s b v i found body at held)) h

  parts_there : (t : TypeTree) (cs : ConstTrees) → IsThere t → are_elements structs t cs ≡ true → AreThere cs
  parts_there (ArrayType n τ) cs there h = all_there n τ cs (λ name held. there name (InPart (ArrayType n τ) τ 0 refl held)) h
  parts_there (VectorType N.Fixed n τ) cs there h = all_there n τ cs (λ name held. there name (InPart (VectorType N.Fixed n τ) τ 0 refl held)) h
  parts_there (StructType layout τs) cs there h = each_there τs cs (λ i v at name held. there name (InPart (StructType layout τs) v i at held)) h
  parts_there (NamedType name) cs there h =
      let (s, found, made) = there name Itself in
      named_there name s s.body cs there found refl (ap (λ (o : Option Struct). has_each cs (body_in o)) (sym found) ∙ h)
  parts_there (VectorType N.Scalable n τ) cs there h = cc
  parts_there VoidType cs there h = cc
  parts_there (IntType w) cs there h = cc
  parts_there (PointerType space) cs there h = cc
  parts_there (FloatingType of) cs there h = cc
  parts_there (RefusedType of) cs there h = cc
  parts_there (FunctionType r ps v) cs there h = cc

  -- ---- all the way in

  mutual
    const_under : (c : ConstTree) → IsThere (const_type c) → IsShortConst c → HasElements structs c → HasElements target (renamed_const to c)
    const_under (IntConst w v) there s e = tt
    const_under (FilledConst fill t) there s e = tt
    const_under (BytesConst bytes) there s e = tt
    const_under (ListConst t cs) there s e = (elements_under t cs there e.0, consts_under cs (parts_there t cs there e.0) s e.1)
    const_under (SplatConst t c) there s e = absurd s
    const_under (PlaceholderConst n t) there s e = tt

    consts_under : (cs : ConstTrees) → AreThere cs → AreShort cs → HaveElements structs cs → HaveElements target (renamed_consts to cs)
    consts_under NoConsts there s e = tt
    consts_under (ThenConst c cs) there s e = (const_under c there.0 s.0 e.0, consts_under cs there.1 s.1 e.1)

  -- so it is of an operand
  pub operand_under : (o : L.Operand) → ((c : ConstTree) → o ≡ L.Constant c → IsThere (const_type c)) → IsShortOperand o → IsMadeOperand structs o → IsMadeOperand target (renamed_operand to o)
  operand_under (L.Constant c) there s e = const_under c (there c refl) s e
  operand_under (L.Parameter f i) there s e = tt
  operand_under (L.Result n) there s e = tt

-- ---- the functions of a source whose structs are made

phi_operands : (to : List ℕ → List ℕ) (es : List (L.Operand × ℕ)) → map (λ (e : L.Operand × ℕ). e.0) (map (renamed_phi_entry to) es) ≡ map (renamed_operand to) (map (λ (e : L.Operand × ℕ). e.0) es)
phi_operands to [] = refl
phi_operands to (e ∷ es) = ap (λ (os : List L.Operand). renamed_operand to e.0 ∷ os) (phi_operands to es)

operands_under : (to : List ℕ → List ℕ) (i : Instruction) → operands_of (renamed_instruction to i) ≡ map (renamed_operand to) (operands_of i)
operands_under to (L.Phi es) = phi_operands to es
operands_under to (L.Applied r) = refl

module _ (d : ModuleData) (pairs : StructNames) (names : AreStructNames pairs) (all : (name : List ℕ) → HasTypeWith d (NamedType name) → IsIn (source_names pairs) name) (target : List Struct) (made : AreMade d pairs target) where
  abbrev called : List ℕ → List ℕ
  called = struct_name pairs

  -- each struct that the type of a value holds stands in the context
  value_there : (k i : ℕ) (f : L.Function) (t : TypeTree) → slice_get d.functions k ≡ Some f → slice_get (value_types f) i ≡ Some t → IsThere d.structs target called t
  value_there k i f t at here name holds =
      let listed = all name (record { place = k; f = f; at = at; index = i; type = t; here = here; holds = holds }) in
      let p = get_from (λ (p : List ℕ × List ℕ). p.0) pairs listed.0 name listed.1 in
      let x = made listed.0 p.0 p.1 in
      let same : called name ≡ p.0.1 = ap called (sym p.2) ∙ struct_name_listed pairs names listed.0 p.0 p.1 in
      (x.0, ap (struct_in d.structs) (sym p.2) ∙ x.1, ap (struct_in target) same ∙ x.2)

  operand_made : (k : ℕ) (f : L.Function) → slice_get d.functions k ≡ Some f → IsHeldFunction f → HasMadeOperands d.structs f → (i : ℕ) (p : Placed) → slice_get (placed_in f) i ≡ Some p → (j : ℕ) (o : L.Operand)
      → slice_get (operands_of p.instruction) j ≡ Some o → IsMadeOperand target (renamed_operand called o)
  operand_made k f at held elements i p here j o there =
      operand_under d.structs target called o
      (λ c is. let listed : IsListed f (L.Constant c) = record { index = i; user = p; there = here; place = j; here = there ∙ ap Some is } in
      let v = constant_value f c listed in value_there k v.0 f (const_type c) at v.1)
      (within_at (operands_of p.instruction) IsShortOperand (within_at (placed_in f) (λ (q : Placed). All IsShortOperand (operands_of q.instruction)) held.constants i p here) j o there)
      (within_at (operands_of p.instruction) (IsMadeOperand d.structs) (within_at (placed_in f) (λ (q : Placed). All (IsMadeOperand d.structs) (operands_of q.instruction)) elements i p here) j o there)

  -- the elements of each constant that the function uses are those that the structs of the context ask for
  pub function_made : (k : ℕ) (f : L.Function) → slice_get d.functions k ≡ Some f → IsHeldFunction f → HasMadeOperands d.structs f → HasMadeOperands target (renamed_function called f)
  function_made k f at held elements =
      let P : Placed → Type 0 = λ (p : Placed). All (IsMadeOperand target) (operands_of p.instruction) in
      subst (All P) (sym (renamed_placed_in called f)) (all_from P (map (renamed_placed called) (placed_in f)) (λ i q here.
      let p = get_from (renamed_placed called) (placed_in f) i q here in
      subst P p.2 (subst (All (IsMadeOperand target)) (sym (operands_under called p.0.instruction)) (all_from (IsMadeOperand target) (map (renamed_operand called) (operands_of p.0.instruction)) (λ j w there.
      let o = get_from (renamed_operand called) (operands_of p.0.instruction) j w there in
      subst (IsMadeOperand target) o.2 (operand_made k f at held elements i p.0 p.1 j o.0 o.1))))))

  -- so the functions are ready
  pub functions_ready : All IsHeldFunction d.functions → All (HasMadeOperands d.structs) d.functions → All (λ (g : L.Function). IsReadyFor g target) (map (renamed_function called) d.functions)
  functions_ready held elements = all_from (λ (g : L.Function). IsReadyFor g target) (map (renamed_function called) d.functions) (λ k g at.
      let f = get_from (renamed_function called) d.functions k g at in
      subst (λ (g : L.Function). IsReadyFor g target) f.2
      (function_named d pairs names all target made k f.0 f.1, function_made k f.0 f.1 (within_at d.functions IsHeldFunction held k f.0 f.1) (within_at d.functions (HasMadeOperands d.structs) elements k f.0 f.1)))

-- What the types of a module hold, by their kinds and their numbers.
use Rattle.std.proofs.Common.{ℕ, zero, suc, ◌≡◌, ◌<◌, ◌⊎◌, inl, inr, ◌∙◌, ◌+◌, ◌-◌, refl, sym, ap, subst, Bool, true, false, List, [], ◌∷◌, Option, Some, None, length, map, slice_get, take, get_or, arith}
use Rattle.std.specs.Prelude.{Result, OnOk}
use Rattle.std.specs.Option.{option_map, option_map_or}
use Rattle.std.specs.Result.{IfErr}
use Rattle.std.proofs.lemmas.List.{take_more}
use Rattle.std.proofs.lemmas.Option.{same_Some, slice_get-map, slice_get-get_or}
use Rattle.support.proofs.ListLaws.{slice_get-kept, slice_get-push, slice_get-push_cases}
use Rattle.kinds.specs.declared.types.VectorTypeKind.{VectorTypeKind}
use Rattle.kinds.specs.declared.types.StructLayout.{StructLayout}
use Rattle.kinds.specs.Types.{TypeTree, ArrayType, VectorType, StructType, NamedType, FunctionType, types_list, parts_of}
use Rattle.kinds.specs.Structs.{StructBody, Struct, Holds, Itself, InPart, InField, struct_in, each_type, each_field, nests}
use Rattle.kinds.proofs.TypeLaws.{and_left, and_right}
use Rattle.llvm_core.specs.declared.numbers.LLVMType.{LLVMType}
use Rattle.llvm_core.specs.declared.numbers.LLVMStruct.{LLVMStruct}
use Rattle.llvm_core.specs.declared.types.LLVMTypeKind.{LLVMTypeKind}
use Rattle.llvm_core.specs.declared.types.LLVMTypeKind.TheVariants as T
use Rattle.llvm_core.specs.declared.structs.StructFields.{StructFields}
use Rattle.llvm_core.specs.declared.structs.StructData.{StructData}
use Rattle.llvm_core.specs.Module.{Module}
use Rattle.llvm_core.specs.Parts.{IsTypeOver}
use Rattle.llvm_core.specs.Data.{data_of, trees_of, type_at, types_at, type_tree, fields_of, struct_of, structs_of}
use Rattle.llvm_core.specs.Depths.{nests_at, all_nest_at, parts_nest_at, fields_nest_at}
use Rattle.llvm_core.proofs.TreeLemmas.{type_at-kind}
use Rattle.held_types.specs.declared.held_structs.HeldErr.{HeldErr}
use Rattle.held_types.specs.declared.table.Table.{Table}
use Rattle.held_types.specs.declared.walk.Walk.{Walk}
use Rattle.held_types.specs.Held.{IsStructOf}
use Rattle.held_types.specs.Table.{IsFirst, IsTable}
use Rattle.held_types.specs.Walk.{IsOfOne, IsIn, IsAmong, IsInKind, IsInFields, Walked, IsCause}
use Rattle.held_types.proofs.TableLaws.{one_first}
use Rattle.held_types.proofs.WalkLaws.{IsAsked, IsWithin, IsSplit, on_ok_as, if_err_as, cause_as, walked_as}

-- ---- lists of types

pub listed : (trees : List TypeTree) (ts : List LLVMType) → map (λ (t : LLVMType). type_at trees t) ts ≡ types_list (types_at trees ts)
listed trees [] = refl
listed trees (t ∷ ts) = ap (λ (us : List TypeTree). type_at trees t ∷ us) (listed trees ts)

pub listed_at : (trees : List TypeTree) (ts : List LLVMType) (i : ℕ) (t : LLVMType) → slice_get ts i ≡ Some t → slice_get (types_list (types_at trees ts)) i ≡ Some (type_at trees t)
listed_at trees ts i t at = ap (λ (us : List TypeTree). slice_get us i) (sym (listed trees ts)) ∙ slice_get-map (λ (t : LLVMType). type_at trees t) ts i ∙ ap (option_map (λ (t : LLVMType). type_at trees t)) at

pub listed_from : (trees : List TypeTree) (ts : List LLVMType) (i : ℕ) (v : TypeTree) → slice_get (types_list (types_at trees ts)) i ≡ Some v → (t : LLVMType) × (slice_get ts i ≡ Some t) × (type_at trees t ≡ v)
listed_from trees [] i v at = cc
listed_from trees (t ∷ ts) zero v at = (t, refl, same_Some (type_at trees t) v at)
listed_from trees (t ∷ ts) (suc i) v at = listed_from trees ts i v at

pub each_at : (p : TypeTree → Bool) (trees : List TypeTree) (ts : List LLVMType) (i : ℕ) (d : LLVMType) → i < length ts → each_type p (types_at trees ts) ≡ true → p (type_at trees (get_or ts i d)) ≡ true
each_at p trees [] i d lt h = absurd (omega arith)
each_at p trees (t ∷ ts) zero d lt h = and_left (p (type_at trees t)) (each_type p (types_at trees ts)) h
each_at p trees (t ∷ ts) (suc i) d lt h = each_at p trees ts i d (omega (arith, lt)) (and_right (p (type_at trees t)) (each_type p (types_at trees ts)) h)

-- ---- one of a list

module _ {X : Type 0} (P : X → TypeTree → Type 0) (xs : List X) (i : ℕ) (d : X) (lt : i < length xs) where
  pub one_here : IsWithin (P (get_or xs i d)) (IsOfOne P xs)
  one_here u asked h = (i, get_or xs i d, slice_get-get_or xs i d lt, h)

  pub one_split : IsSplit (IsOfOne P (take (i + 1) xs)) (IsOfOne P (take i xs)) (P (get_or xs i d))
  one_split u asked (k, x, at, h) = elim (slice_get-push_cases (take i xs) (get_or xs i d) k x (ap (λ (ys : List X). slice_get ys k) (sym (take_more xs i d lt)) ∙ at)) [
    | inl old ↦ inl (k, x, old, h)
    | inr new ↦ inr (subst (λ (y : X). P y u) new.1 h)
  ]

  pub one_more : IsWithin (IsOfOne P (take i xs)) (IsOfOne P (take (i + 1) xs))
  one_more u asked (k, x, at, h) = (k, x, ap (λ (ys : List X). slice_get ys k) (take_more xs i d lt) ∙ slice_get-kept (take i xs) (get_or xs i d ∷ []) k x at, h)

  pub one_last : IsWithin (P (get_or xs i d)) (IsOfOne P (take (i + 1) xs))
  one_last u asked h = (length (take i xs), get_or xs i d, ap (λ (ys : List X). slice_get ys (length (take i xs))) (take_more xs i d lt) ∙ slice_get-push (take i xs) (get_or xs i d) (length (take i xs)) refl, h)

-- ---- what a tree holds

module _ (structs : List Struct) where
  -- a part, or a field of a struct, that holds it
  abbrev pub HoldsInPart : (u t : TypeTree) → Type 0
  HoldsInPart u t = (v : TypeTree) × (i : ℕ) × (slice_get (parts_of t) i ≡ Some v) × Holds structs u v

  abbrev pub HoldsInField : (u t : TypeTree) → Type 0
  HoldsInField u t = (name : List ℕ) × (s : Struct) × (b : StructBody) × (v : TypeTree) × (i : ℕ) × (t ≡ NamedType name)
      × (struct_in structs name ≡ Some s) × (s.body ≡ Some b) × (slice_get (types_list b.fields) i ≡ Some v) × Holds structs u v

  pub holds_by : (u t : TypeTree) → Holds structs u t → (u ≡ t) ⊎ (HoldsInPart u t ⊎ HoldsInField u t)
  holds_by u _ Itself = inl refl
  holds_by u _ (InPart t v i at h) = inr (inl (v, i, at, h))
  holds_by u _ (InField name s b v i is has at h) = inr (inr (name, s, b, v, i, refl, is, has, at, h))

  -- of a type that is not asked about itself, and is no struct with a name
  pub in_parts : (u t : TypeTree) → IsAsked u → (IsAsked t → ⊥) → Holds structs u t → HoldsInPart u t
  in_parts u t asked not_t h = elim (holds_by u t h) [
    | inl same ↦ absurd (not_t (subst IsAsked same asked))
    | inr inside ↦ elim inside [ inl part ↦ part | inr field ↦ absurd (not_t (subst IsAsked (sym field.5) tt)) ]
  ]

module _ (m : Module) where
  abbrev trees : List TypeTree
  trees = (trees_of m).types

  -- ---- by numbers

  module _ (ts : List LLVMType) (i : ℕ) (d : LLVMType) (lt : i < length ts) where
    pub nests_here : (left : ℕ) → all_nest_at m ts left ≡ true → nests_at m (get_or ts i d) left ≡ true
    nests_here left h = each_at (nests (structs_of m) left) trees ts i d lt h

  -- the kind of a type says what it holds, and how deep it nests
  module _ (t : LLVMType) (k : LLVMTypeKind) (at : slice_get m.types t.0 ≡ Some k) (over : IsTypeOver t.0 k) where
    pub kind_is : type_tree trees k ≡ type_at trees t
    kind_is = sym (type_at-kind m.types t k at over)

    pub kind_within : IsWithin (IsInKind m k) (IsIn m t)
    kind_within u asked h = subst (Holds (structs_of m) u) kind_is h

    pub within_kind : IsWithin (IsIn m t) (IsInKind m k)
    within_kind u asked h = subst (Holds (structs_of m) u) (sym kind_is) h

    pub parts_nest : (left : ℕ) → nests_at m t left ≡ true → (¬ (left ≡ 0)) × (parts_nest_at m k (left - 1) ≡ true)
    parts_nest zero h = cc
    parts_nest (suc left) h =
        let one : suc left - 1 ≡ left = omega arith in
        (λ e. (let no : ⊥ = cc in no), subst (λ (n : ℕ). parts_nest_at m k n ≡ true) (sym one) (ap (nests (structs_of m) (suc left)) kind_is ∙ h))

  -- ---- by kinds: a line for each kind with parts

  module _ (W : TypeTree → Type 0) (k l : LLVMTypeKind) (is : k ≡ l) (to : IsWithin W (IsInKind m l)) (r : Result (Unit {0}) HeldErr) where
    pub kind_walked : (a b : Walk) → IsWithin (IsInKind m l) W → OnOk r (Walked m W a b) → OnOk r (Walked m (IsInKind m k) a b)
    kind_walked a b from h = on_ok_as r (λ w. subst (λ (x : LLVMTypeKind). Walked m (IsInKind m x) a b) (sym is) (walked_as m W (IsInKind m l) a b to from w)) h

    pub kind_cause : IfErr r (IsCause W) → IfErr r (IsCause (IsInKind m k))
    kind_cause h = if_err_as r (IsCause W) (IsCause (IsInKind m k)) (λ e c. subst (λ (x : LLVMTypeKind). IsCause (IsInKind m x) e) (sym is) (cause_as W (IsInKind m l) to e c)) h

  pub in_array : (n : ℕ) (t : LLVMType) → IsWithin (IsInKind m (T.Array n t)) (IsIn m t)
  in_array n t u asked h =
      let x = in_parts (structs_of m) u (ArrayType n (type_at trees t)) asked (λ a. a) h in
      one x.1 x.0 x.2 x.3
    where
      one : (i : ℕ) (v : TypeTree) → slice_get (type_at trees t ∷ []) i ≡ Some v → Holds (structs_of m) u v → IsIn m t u
      one zero v at h = subst (Holds (structs_of m) u) (sym (same_Some (type_at trees t) v at)) h
      one (suc i) v at h = cc

  pub array_in : (n : ℕ) (t : LLVMType) → IsWithin (IsIn m t) (IsInKind m (T.Array n t))
  array_in n t u asked h = InPart (ArrayType n (type_at trees t)) (type_at trees t) 0 refl h

  pub in_vector : (w : VectorTypeKind) (n : ℕ) (t : LLVMType) → IsWithin (IsInKind m (T.Vector w n t)) (IsIn m t)
  in_vector w n t u asked h =
      let x = in_parts (structs_of m) u (VectorType w n (type_at trees t)) asked (λ a. a) h in
      one x.1 x.0 x.2 x.3
    where
      one : (i : ℕ) (v : TypeTree) → slice_get (type_at trees t ∷ []) i ≡ Some v → Holds (structs_of m) u v → IsIn m t u
      one zero v at h = subst (Holds (structs_of m) u) (sym (same_Some (type_at trees t) v at)) h
      one (suc i) v at h = cc

  pub vector_in : (w : VectorTypeKind) (n : ℕ) (t : LLVMType) → IsWithin (IsIn m t) (IsInKind m (T.Vector w n t))
  vector_in w n t u asked h = InPart (VectorType w n (type_at trees t)) (type_at trees t) 0 refl h

  among_from : (ts : List LLVMType) (i : ℕ) (u v : TypeTree) → slice_get (types_list (types_at trees ts)) i ≡ Some v → Holds (structs_of m) u v → IsAmong m ts u
  among_from ts i u v at h = let t = listed_from trees ts i v at in (i, t.0, t.1, subst (Holds (structs_of m) u) (sym t.2) h)

  pub in_literal : (ts : List LLVMType) (l : StructLayout) → IsWithin (IsInKind m (T.Literal ts l)) (IsAmong m ts)
  in_literal ts l u asked h =
      let x = in_parts (structs_of m) u (StructType l (types_at trees ts)) asked (λ a. a) h in
      among_from ts x.1 u x.0 x.2 x.3

  pub literal_in : (ts : List LLVMType) (l : StructLayout) → IsWithin (IsAmong m ts) (IsInKind m (T.Literal ts l))
  literal_in ts l u asked (i, t, at, h) = InPart (StructType l (types_at trees ts)) (type_at trees t) i (listed_at trees ts i t at) h

  pub in_function : (r : LLVMType) (ts : List LLVMType) (v : Bool) → IsSplit (IsInKind m (T.Function r ts v)) (IsIn m r) (IsAmong m ts)
  in_function r ts v u asked h =
      let x = in_parts (structs_of m) u (FunctionType (type_at trees r) (types_at trees ts) v) asked (λ a. a) h in
      one x.1 x.0 x.2 x.3
    where
      one : (i : ℕ) (t : TypeTree) → slice_get (type_at trees r ∷ types_list (types_at trees ts)) i ≡ Some t → Holds (structs_of m) u t → IsIn m r u ⊎ IsAmong m ts u
      one zero t at h = inl (subst (Holds (structs_of m) u) (sym (same_Some (type_at trees r) t at)) h)
      one (suc i) t at h = inr (among_from ts i u t at h)

  pub result_in : (r : LLVMType) (ts : List LLVMType) (v : Bool) → IsWithin (IsIn m r) (IsInKind m (T.Function r ts v))
  result_in r ts v u asked h = InPart (FunctionType (type_at trees r) (types_at trees ts) v) (type_at trees r) 0 refl h

  pub params_in : (r : LLVMType) (ts : List LLVMType) (v : Bool) → IsWithin (IsAmong m ts) (IsInKind m (T.Function r ts v))
  params_in r ts v u asked (i, t, at, h) = InPart (FunctionType (type_at trees r) (types_at trees ts) v) (type_at trees t) (suc i) (listed_at trees ts i t at) h

  -- ---- by the fields of structs

  -- the struct of a number, as the module keeps it
  struct_from : (n : ℕ) (st : Struct) → slice_get (structs_of m) n ≡ Some st → (x : StructData) × (slice_get m.structs n ≡ Some x) × (struct_of trees x ≡ st)
  struct_from n st there = by (slice_get m.structs n) refl (sym (slice_get-map (struct_of trees) m.structs n) ∙ there)
    where
      by : (o : Option StructData) → slice_get m.structs n ≡ o → option_map (struct_of trees) o ≡ Some st → (x : StructData) × (slice_get m.structs n ≡ Some x) × (struct_of trees x ≡ st)
      by None at e = cc
      by (Some x) at e = (x, at, same_Some (struct_of trees x) st e)

  pub body_from : (x : StructData) (b : StructBody) → option_map (fields_of trees) x.body ≡ Some b → (f : StructFields) × (x.body ≡ Some f) × (fields_of trees f ≡ b)
  body_from x b e = by x.body refl e
    where
      by : (o : Option StructFields) → x.body ≡ o → option_map (fields_of trees) o ≡ Some b → (f : StructFields) × (x.body ≡ Some f) × (fields_of trees f ≡ b)
      by None has e = cc
      by (Some f) has e = (f, has, same_Some (fields_of trees f) b e)

  -- what a field of it holds
  pub field_at : (s : LLVMStruct) (u : TypeTree) (st : Struct) (b : StructBody) (v : TypeTree) (i : ℕ) → slice_get (structs_of m) s.0 ≡ Some st → st.body ≡ Some b → slice_get (types_list b.fields) i ≡ Some v → Holds (structs_of m) u v → IsInFields m s u
  field_at s u st b v i there has at h =
      let x = struct_from s.0 st there in
      let f = body_from x.0 b (ap (λ (y : Struct). y.body) x.2 ∙ has) in
      (x.0, f.0, x.1, f.1, among_from f.0.types i u v (ap (λ (y : StructBody). slice_get (types_list y.fields) i) f.2 ∙ at) h)

  module _ (name : List ℕ) (s : LLVMStruct) (is : IsStructOf (data_of m) name s) where
    pub struct_here : (x : StructData) × (slice_get m.structs s.0 ≡ Some x) × (struct_of trees x ≡ is.struct)
    struct_here = struct_from s.0 is.struct is.at

    field_from : (u : TypeTree) (st : Struct) (b : StructBody) (v : TypeTree) (i : ℕ) → struct_in (structs_of m) name ≡ Some st → st.body ≡ Some b → slice_get (types_list b.fields) i ≡ Some v → Holds (structs_of m) u v → IsInFields m s u
    field_from u st b v i found has at h = field_at s u st b v i (is.at ∙ sym is.first ∙ found) has at h

    pub in_named : IsSplit (λ u. Holds (structs_of m) u (NamedType name)) (λ u. u ≡ NamedType name) (IsInFields m s)
    in_named u asked h = elim (holds_by (structs_of m) u (NamedType name) h) [
      | inl same ↦ inl same
      | inr inside ↦ elim inside [
        | inl part ↦ (let no : slice_get {X = TypeTree} [] part.1 ≡ Some part.0 = part.2 in absurd (cc))
        | inr y ↦ (let same : y.0 ≡ name = cc (y.5) in inr (field_from u y.1 y.2 y.3 y.4 (ap (struct_in (structs_of m)) (sym same) ∙ y.6) y.7 y.8 y.9))
      ]
    ]

    pub named_in : IsWithin (IsInFields m s) (λ u. Holds (structs_of m) u (NamedType name))
    named_in u asked (x, b, at, has, (i, t, here, h)) =
        let y = struct_here in
        let same : struct_of trees x ≡ is.struct = ap (struct_of trees) (same_Some x y.0 (sym at ∙ y.1)) ∙ y.2 in
        let body : is.struct.body ≡ Some (fields_of trees b) = ap (λ (z : Struct). z.body) (sym same) ∙ ap (option_map (fields_of trees)) has in
        InField name is.struct (fields_of trees b) (type_at trees t) i is.first body (listed_at trees b.types i t here) h

    -- its fields nest in what is left
    pub fields_nest : (left : ℕ) → fields_nest_at m name left ≡ true → (x : StructData) → slice_get m.structs s.0 ≡ Some x → each_field (nests (structs_of m) left) (struct_of trees x) ≡ true
    fields_nest left h x at =
        let y = struct_here in
        let same : struct_of trees x ≡ is.struct = ap (struct_of trees) (same_Some x y.0 (sym at ∙ y.1)) ∙ y.2 in
        ap (each_field (nests (structs_of m) left)) same ∙ sym (ap (λ o. option_map_or (each_field (nests (structs_of m) left)) o false) is.first) ∙ h

  module _ (s : LLVMStruct) (b : StructFields) (e : option_map (λ (x : StructData). x.body) (slice_get m.structs s.0) ≡ Some (Some b)) where
    pub body_at : (x : StructData) × (slice_get m.structs s.0 ≡ Some x) × (x.body ≡ Some b)
    body_at = by (slice_get m.structs s.0) refl e
      where
        by : (o : Option StructData) → slice_get m.structs s.0 ≡ o → option_map (λ (x : StructData). x.body) o ≡ Some (Some b) → (x : StructData) × (slice_get m.structs s.0 ≡ Some x) × (x.body ≡ Some b)
        by None at e = cc
        by (Some x) at e = (x, at, same_Some x.body (Some b) e)

    pub body_nests : (left : ℕ) → ((x : StructData) → slice_get m.structs s.0 ≡ Some x → each_field (nests (structs_of m) left) (struct_of trees x) ≡ true) → all_nest_at m b.types left ≡ true
    body_nests left nested =
        let x = body_at in
        sym (ap (λ o. option_map_or (λ (y : StructBody). each_type (nests (structs_of m) left) y.fields) (option_map (fields_of trees) o) true) x.2) ∙ nested x.0 x.1

    pub among_fields : IsWithin (IsAmong m b.types) (IsInFields m s)
    among_fields u asked h = let x = body_at in (x.0, b, x.1, x.2, h)

    pub fields_among : IsWithin (IsInFields m s) (IsAmong m b.types)
    fields_among u asked (y, c, at, has, h) =
        let x = body_at in
        let same : y ≡ x.0 = same_Some y x.0 (sym at ∙ x.1) in
        let one : c ≡ b = same_Some c b (sym has ∙ ap (λ (z : StructData). z.body) same ∙ x.2) in
        subst (λ (z : StructFields). IsAmong m z.types u) one h

  -- what nests is there
  pub named_there : (name : List ℕ) (left : ℕ) → fields_nest_at m name left ≡ true → (st : Struct) × (struct_in (structs_of m) name ≡ Some st)
  named_there name left h = by (struct_in (structs_of m) name) refl h
    where
      by : (o : Option Struct) → struct_in (structs_of m) name ≡ o → option_map_or (each_field (nests (structs_of m) left)) o false ≡ true → (st : Struct) × (struct_in (structs_of m) name ≡ Some st)
      by None is h = cc
      by (Some st) is h = (st, is)

  -- what the table has for it is its struct
  pub named_struct : (t : Table) (name : List ℕ) (left : ℕ) (n : LLVMStruct) → IsTable m t → fields_nest_at m name left ≡ true → IsFirst t name n → IsStructOf (data_of m) name n
  named_struct t name left n table nested first =
      let st = named_there name left nested in
      let x = table name st.0 st.1 in
      subst (IsStructOf (data_of m) name) (one_first t name x.0 n x.1 first) x.2

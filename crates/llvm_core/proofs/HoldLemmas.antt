-- What a constant may be made of goes by the kind of its type.
use Rattle.std.proofs.Common.{◌≡◌, ◌⊎◌, inl, inr, ◌<◌, ◌≤◌, ◌^◌, ◌+◌, ◌*◌, ◌/◌, ◌%◌, ℕ, zero, suc, Bool, false, List, [], ◌∷◌, Some, None, length, map, slice_get, get_or, ap, sym, ◌∙◌, refl, subst, arith, All}
use Rattle.std.specs.Prelude.{◌↔◌, IsTrue}
use Rattle.std.proofs.lemmas.List.{length-map}
use Rattle.std.proofs.lemmas.List.Elements.{All-nil, All-cons}
use Rattle.std.proofs.lemmas.Nat.{pow_pos, shr_split, shr_below, mod_below}
use Rattle.std.proofs.Math.Nat.{pow-le-pow_right}
use Rattle.std.proofs.lemmas.Option.{slice_get-get_or, slice_get_within, same_Some}
use Rattle.support.proofs.ListLaws.{item_there}
use Rattle.kinds.specs.declared.types.VectorTypeKind.TheVariants as N
use Rattle.llvm_core.specs.declared.numbers.LLVMType.{LLVMType}
use Rattle.llvm_core.specs.declared.numbers.LLVMConst.{LLVMConst}
use Rattle.llvm_core.specs.declared.types.LLVMTypeKind.{LLVMTypeKind}
use Rattle.llvm_core.specs.declared.types.LLVMTypeKind.TheVariants as T
use Rattle.llvm_core.specs.declared.consts.LLVMConstKind.{LLVMConstKind}
use Rattle.llvm_core.specs.declared.consts.LLVMConstKind.TheVariants as C
use Rattle.llvm_core.specs.declared.structs.StructFields.{StructFields}
use Rattle.llvm_core.specs.declared.structs.StructData.{StructData}
use Rattle.llvm_core.specs.Parts.{IsIntAt, const_type}
use Rattle.llvm_core.specs.Consts.{IsElement, IsMadeOf, IsListOf, HasFields, AreElements, is_placeholder}
use Rattle.llvm_core.specs.Holding.{TakesInt, AreOf, AreOfOne, TakesList, TakesLane, TakesBytes}
use Rattle.llvm_core.proofs.DataLemmas.{within_at}

-- a test of what amounts to something is one of that
pub alike : (b : Bool) (A B : Type 0) → (IsTrue b ↔ A) → (A → B) → (B → A) → (IsTrue b ↔ B)
alike b A B h f g = (λ t. f (h.0 t), λ x. h.1 (g x))

pub never : (B : Type 0) → (B → ⊥) → (IsTrue false ↔ B)
never B deny = (λ t. cc, λ x. absurd (deny x))

-- ---- integers

pub wide_fits : (w v : ℕ) → 128 ≤ w → v < 2 ^ 128 → IsIntAt w v
wide_fits w v wide few = (let more = pow-le-pow_right {n = 2} (omega arith) {i = 128} {j = w} wide in omega (arith, more, few), few)

pub narrow_fits : (w v : ℕ) → v < 2 ^ 128 → v / 2 ^ w ≡ 0 → IsIntAt w v
narrow_fits w v few none =
    let is : v ≡ 0 * 2 ^ w + v % 2 ^ w = sym (shr_split v w) ∙ ap (λ (q : ℕ). q * 2 ^ w + v % 2 ^ w) none in
    let below = mod_below v (2 ^ w) (pow_pos w) in
    (omega (arith, is, below), few)

pub none_past : (w v : ℕ) → v < 2 ^ w → v / 2 ^ w ≡ 0
none_past w v few =
    let e : 0 + w ≡ w = omega arith in
    let h = shr_below v 0 w (subst (λ (k : ℕ). v < 2 ^ k) (sym e) few) in
    omega (arith, h)

-- ---- by the kind of the type

module _ (types : List LLVMTypeKind) (consts : List LLVMConstKind) (structs : List StructData) where
  module _ (t : LLVMType) (k : LLVMTypeKind) (at : slice_get types t.0 ≡ Some k) where
    is_kind : (l : LLVMTypeKind) → slice_get types t.0 ≡ Some l → k ≡ l
    is_kind l h = same_Some k l (sym at ∙ h)

    pub int_by_kind : (b : Bool) (value : ℕ) → (IsTrue b ↔ TakesInt value k) → (IsTrue b ↔ IsMadeOf types consts structs (C.Int t value))
    int_by_kind b value h =
        alike b (TakesInt value k) (IsMadeOf types consts structs (C.Int t value)) h (λ (w, e, f). (w, at ∙ ap Some e, f)) (λ (w, e, f). (w, is_kind (T.Int w) e, f))

    pub bytes_by_kind : (b : Bool) (bytes : List ℕ) → All (λ (n : ℕ). n < 2 ^ 8) bytes → (IsTrue b ↔ TakesBytes types (length bytes) k) → (IsTrue b ↔ IsMadeOf types consts structs (C.Bytes t bytes))
    bytes_by_kind b bytes few h =
        alike b (TakesBytes types (length bytes) k) (IsMadeOf types consts structs (C.Bytes t bytes)) h
        (λ (e, is, byte). ((e, at ∙ ap Some is, byte), few)) (λ ((e, is, byte), all). (e, is_kind (T.Array (length bytes) e) is, byte))

    list_made : (es : List LLVMConst) → TakesList consts structs es k → IsListOf types consts structs t es
    list_made es (parts, fit, (count, each)) = record { kind = k; parts = parts; typed = at; fit = fit; count = count; each = each }

    list_taken : (es : List LLVMConst) → IsListOf types consts structs t es → TakesList consts structs es k
    list_taken es l = (l.parts, subst (λ (x : LLVMTypeKind). AreElements structs x l.parts) (sym (is_kind l.kind l.typed)) l.fit, (l.count, l.each))

    pub list_by_kind : (b : Bool) (es : List LLVMConst) → (IsTrue b ↔ TakesList consts structs es k) → (IsTrue b ↔ IsMadeOf types consts structs (C.List t es))
    list_by_kind b es h = alike b (TakesList consts structs es k) (IsMadeOf types consts structs (C.List t es)) h (list_made es) (list_taken es)

    pub splat_by_kind : (b : Bool) (c : LLVMConst) → (IsTrue b ↔ TakesLane consts c k) → (IsTrue b ↔ IsMadeOf types consts structs (C.Splat t c))
    splat_by_kind b c h =
        alike b (TakesLane consts c k) (IsMadeOf types consts structs (C.Splat t c)) h (λ (n, e, is, one). (n, e, at ∙ ap Some is, one)) (λ (n, e, is, one). (n, e, is_kind (T.Vector N.Scalable n e) is, one))

  made_of_none : (c : LLVMConstKind) → slice_get types (const_type c).0 ≡ None → IsMadeOf types consts structs c → ⊥
  made_of_none (C.Int t value) none h = let at = h.1 in cc
  made_of_none (C.Filled fill t) none h = let at = (item_there types t.0 h).1 in cc
  made_of_none (C.Bytes t bytes) none h = let at = h.0.1 in cc
  made_of_none (C.List t elements) none h = let at = h.typed in cc
  made_of_none (C.Splat t element) none h = let at = h.2 in cc
  made_of_none (C.Placeholder number t) none h = let at = (item_there types t.0 h).1 in cc

  -- no constant is made of a type that is not there
  pub of_none : (c : LLVMConstKind) → slice_get types (const_type c).0 ≡ None → (IsTrue false ↔ IsMadeOf types consts structs c)
  of_none c none = never (IsMadeOf types consts structs c) (made_of_none c none)

-- ---- elements

module _ (consts : List LLVMConstKind) where
  -- as many of one type as there are elements
  abbrev one_type : LLVMType → List LLVMConst → List LLVMType
  one_type t es = map (λ (c : LLVMConst). t) es

  one_type_at : (t : LLVMType) (es : List LLVMConst) (i : ℕ) (u : LLVMType) → slice_get (one_type t es) i ≡ Some u → u ≡ t
  one_type_at t [] i u h = cc
  one_type_at t (e ∷ es) zero u h = sym (same_Some t u h)
  one_type_at t (e ∷ es) (suc i) u h = one_type_at t es i u h

  all_one_type : (t : LLVMType) (es : List LLVMConst) → All (λ (u : LLVMType). u ≡ t) (one_type t es)
  all_one_type t [] = All-nil (λ (u : LLVMType). u ≡ t)
  all_one_type t (e ∷ es) = All-cons (λ (u : LLVMType). u ≡ t) t (one_type t es) refl (all_one_type t es)

  -- a list of elements of one type
  abbrev pub OfOne : List LLVMConst → ℕ → LLVMType → Type 0
  OfOne es count t = (parts : List LLVMType) × ((length parts ≡ count) × All (λ (u : LLVMType). u ≡ t) parts) × AreOf consts es parts

  of_one : (es : List LLVMConst) (count : ℕ) (t : LLVMType) → AreOfOne consts count t es → OfOne es count t
  of_one es count t (len, all) = (
    one_type t es,
    (length-map es (λ (c : LLVMConst). t) ∙ len, all_one_type t es),
    (
      sym (length-map es (λ (c : LLVMConst). t)),
      λ i c u at is. subst (λ (x : LLVMType). IsElement consts x c) (sym (one_type_at t es i u is)) (within_at es (IsElement consts t) all i c at),
    ),
  )

  are_one : (es : List LLVMConst) (count : ℕ) (t : LLVMType) → OfOne es count t → AreOfOne consts count t es
  are_one es count t (parts, (len, all), (same, each)) = (
    same ∙ len,
    λ k d lt.
        let u = item_there parts k (subst (λ (n : ℕ). k < n) same lt) in
        let is = within_at parts (λ (x : LLVMType). x ≡ t) all k u.0 u.1 in
        subst (λ (x : LLVMType). IsElement consts x (get_or es k d)) is (each k (get_or es k d) u.0 (slice_get-get_or es k d lt) u.1),
  )

  pub by_one : (b : Bool) (es : List LLVMConst) (count : ℕ) (t : LLVMType) → (IsTrue b ↔ AreOfOne consts count t es) → (IsTrue b ↔ OfOne es count t)
  by_one b es count t h = alike b (AreOfOne consts count t es) (OfOne es count t) h (of_one es count t) (are_one es count t)

  -- a list of elements of these types, whichever way the types are known
  pub by_parts : (b : Bool) (es : List LLVMConst) (fields : List LLVMType) (P : List LLVMType → Type 0) → P fields → ((ts : List LLVMType) → P ts → ts ≡ fields) → (IsTrue b ↔ AreOf consts es fields)
      → (IsTrue b ↔ ((parts : List LLVMType) × P parts × AreOf consts es parts))
  by_parts b es fields P here only h =
      alike b (AreOf consts es fields) ((parts : List LLVMType) × P parts × AreOf consts es parts) h (λ of. (fields, here, of)) (λ (parts, p, of). subst (AreOf consts es) (only parts p) of)

  below_more : (j i : ℕ) → j < i + 1 → (j < i) ⊎ (j ≡ i)
  below_more zero zero h = inr refl
  below_more zero (suc i) h = inl (omega arith)
  below_more (suc j) zero h = absurd (omega arith)
  below_more (suc j) (suc i) h = elim (below_more j i (omega arith)) [ inl less ↦ inl (omega (arith, less)) | inr same ↦ inr (ap suc same) ]

  -- the elements are looked at one by one
  pub of_more : (es : List LLVMConst) (parts : List LLVMType) (i : ℕ) (d : LLVMConst) (w : LLVMType) → i < length es → i < length parts
      → ((j : ℕ) (c : LLVMConst) (u : LLVMType) → j < i → slice_get es j ≡ Some c → slice_get parts j ≡ Some u → IsElement consts u c) → IsElement consts (get_or parts i w) (get_or es i d)
      → (j : ℕ) (c : LLVMConst) (u : LLVMType) → j < i + 1 → slice_get es j ≡ Some c → slice_get parts j ≡ Some u → IsElement consts u c
  of_more es parts i d w lt lt_parts done here j c u below at is = by (below_more j i below)
    where
      by : (j < i) ⊎ (j ≡ i) → IsElement consts u c
      by (inl less) = done j c u less at is
      by (inr same) =
          let c_is = same_Some (get_or es i d) c (sym (slice_get-get_or es i d lt) ∙ ap (slice_get es) (sym same) ∙ at) in
          let u_is = same_Some (get_or parts i w) u (sym (slice_get-get_or parts i w lt_parts) ∙ ap (slice_get parts) (sym same) ∙ is) in
          subst (λ (x : LLVMType). IsElement consts x c) u_is (subst (IsElement consts (get_or parts i w)) c_is here)

  -- one element that is none
  pub of_none_at : (es : List LLVMConst) (parts : List LLVMType) (i : ℕ) (d : LLVMConst) (w : LLVMType) → i < length es → i < length parts → (IsElement consts (get_or parts i w) (get_or es i d) → ⊥) → AreOf consts es parts → ⊥
  of_none_at es parts i d w lt lt_parts deny (len, each) = deny (each i (get_or es i d) (get_or parts i w) (slice_get-get_or es i d lt) (slice_get-get_or parts i w lt_parts))

  -- ---- one element

  pub element_by : (t : LLVMType) (c : LLVMConst) (k : LLVMConstKind) (b : Bool) → slice_get consts c.0 ≡ Some k → (IsTrue b ↔ (((const_type k).0 ≡ t.0) × (is_placeholder k ≡ false))) → (IsTrue b ↔ IsElement consts t c)
  element_by t c k b at h =
      alike b (((const_type k).0 ≡ t.0) × (is_placeholder k ≡ false)) (IsElement consts t c) h (λ (same, deny). (k, at, (ap (λ (n : ℕ). let u : LLVMType = record { 0 = n } in u) same, deny)))
      (λ (l, is, (same, deny)). let e = same_Some l k (sym is ∙ at) in (sym (ap (λ (x : LLVMConstKind). (const_type x).0) e) ∙ ap (λ (u : LLVMType). u.0) same, sym (ap is_placeholder e) ∙ deny))

  pub element_there : (t : LLVMType) (c : LLVMConst) → IsElement consts t c → c.0 < length consts
  element_there t c (k, at, of) = slice_get_within consts c.0 k at

-- ---- the fields of a struct with a name

pub same_fields : (structs : List StructData) (name : List ℕ) (ts us : List LLVMType) → HasFields structs name ts → HasFields structs name us → us ≡ ts
same_fields structs name ts us (s, b, named, body, types) (r, a, also, inside, fields) =
    let same = same_Some r s (sym also ∙ named) in
    let bodies = same_Some a b (sym inside ∙ ap (λ (x : StructData). x.body) same ∙ body) in
    sym fields ∙ ap (λ (x : StructFields). x.types) bodies ∙ types

-- What the dialect calls structs once more names have identifiers: what it called them.
use Rattle.std.proofs.Common.{ℕ, zero, suc, ◌≡◌, ◌⊎◌, inl, inr, ◌∙◌, refl, sym, ap, subst, Bool, true, false, List, [], ◌∷◌, ◌++◌, All, Option, Some, None, if◌then◌else◌, map, slice_get}
use Rattle.std.specs.Prelude.{IfSome}
use Rattle.std.specs.Str.{bytes_eq}
use Rattle.std.specs.Option.{option_map}
use Rattle.std.proofs.lemmas.Slice.Eq.{bytes_eq-Decides}
use Rattle.std.proofs.lemmas.List.Elements.{All-weaker}
use Rattle.std.proofs.lemmas.Option.{same_Some, slice_get-map}
use Rattle.support.specs.Interned.{IsDistinctList}
use Rattle.kinds.specs.Types.{TypeTree, VoidType, IntType, PointerType, FloatingType, RefusedType, ArrayType, VectorType, StructType, NamedType, FunctionType, TypeTrees, NoTypes, ThenType, types_list}
use Rattle.kinds.specs.Structs.{StructBody, Struct, Holds, Itself, InPart, struct_in, renamed, renamed_all, renamed_body}
use Rattle.llvm_core.proofs.DataLemmas.{within_at}
use Rattle.dialect_types.specs.Legalised.{Named, Gave, GoesOn, IsMet, IsLegalised}
use Rattle.dialect_types.proofs.LegalLaws.{gave_kept}
use Rattle.from_consts.specs.Names.{called, IsCalled, IsConverted}

-- ---- names that were met

abbrev name_of : Named → List ℕ
name_of g = g.name

pub gave_met : (given : List Named) (n i : List ℕ) → Gave given n i → IsMet given n
gave_met given n i (k, at) = (k, slice_get-map name_of given k ∙ ap (option_map name_of) at)

met_more : (x more : List Named) (n : List ℕ) → IsMet x n → IsMet (x ++ more) n
met_more [] more n (k, at) = absurd (let no : None ≡ Some n = at in cc)
met_more (g ∷ x) more n (zero, at) = (zero, at)
met_more (g ∷ x) more n (suc k, at) = let later = met_more x more n (k, at) in (suc later.0, later.1)

pub met_kept : (x y : List Named) (n : List ℕ) → GoesOn x y → IsMet x n → IsMet y n
met_kept x y n (more, is) met = subst (λ (z : List Named). IsMet z n) (sym is) (met_more x more n met)

called_more : (x more : List Named) (n : List ℕ) → IsMet x n → called (x ++ more) n ≡ called x n
called_more [] more n (k, at) = absurd (let no : None ≡ Some n = at in cc)
called_more (g ∷ x) more n (zero, at) =
    let is : bytes_eq g.name n ≡ true = (bytes_eq-Decides g.name n).1 (same_Some g.name n at) in
    ap (λ (b : Bool). if b then g.identifier else called (x ++ more) n) is ∙ sym (ap (λ (b : Bool). if b then g.identifier else called x n) is)
called_more (g ∷ x) more n (suc k, at) = ap (λ (i : List ℕ). if bytes_eq g.name n then g.identifier else i) (called_more x more n (k, at))

-- what was met is called as before
pub called_kept : (x y : List Named) (n : List ℕ) → GoesOn x y → IsMet x n → called y n ≡ called x n
called_kept x y n (more, is) met = ap (λ (z : List Named). called z n) is ∙ called_more x more n met

distinct_rest : (g : Named) (x : List Named) → IsDistinctList (map name_of (g ∷ x)) → IsDistinctList (map name_of x)
distinct_rest g x once i j n at also = let same : suc i ≡ suc j = once (suc i) (suc j) n at also in cc

called_at : (x : List Named) (k : ℕ) (g : Named) → IsDistinctList (map name_of x) → slice_get x k ≡ Some g → called x g.name ≡ g.identifier
called_at [] k g once at = absurd (let no : None ≡ Some g = at in cc)
called_at (h ∷ x) zero g once at =
    let same = same_Some h g at in
    let is : bytes_eq h.name g.name ≡ true = (bytes_eq-Decides h.name g.name).1 (ap name_of same) in
    ap (λ (b : Bool). if b then h.identifier else called x g.name) is ∙ ap (λ (n : Named). n.identifier) same
called_at (h ∷ x) (suc k) g once at = by (bytes_eq h.name g.name) refl (called_at x k g (distinct_rest h x once) at)
  where
    by : (b : Bool) → bytes_eq h.name g.name ≡ b → called x g.name ≡ g.identifier → (if b then h.identifier else called x g.name) ≡ g.identifier
    by true is later =
        let here : slice_get (map name_of (h ∷ x)) (suc k) ≡ Some g.name = slice_get-map name_of x k ∙ ap (option_map name_of) at in
        let no : zero ≡ suc k = once zero (suc k) g.name (ap Some ((bytes_eq-Decides h.name g.name).0 is)) here in
        absurd cc
    by false is later = later

-- a name is called by the identifier that it was given
pub called_given : (given : List Named) (n i : List ℕ) → IsLegalised given → Gave given n i → called given n ≡ i
called_given given n i legal (k, at) = called_at given k (record { name = n; identifier = i }) legal.names at

-- ---- types under names that agree

module _ (f g : List ℕ → List ℕ) where
  -- they call each struct that the type itself names the same
  abbrev Agree : TypeTree → Type 0
  Agree t = (n : List ℕ) → Holds [] (NamedType n) t → f n ≡ g n

  mutual
    -- a line for each kind
    pub alike : (t : TypeTree) → Agree t → renamed f t ≡ renamed g t
    alike VoidType same = refl
    alike (IntType w) same = refl
    alike (PointerType s) same = refl
    alike (FloatingType of) same = refl
    alike (RefusedType of) same = refl
    alike (ArrayType c t) same = ap (ArrayType c) (alike t (λ n h. same n (InPart (ArrayType c t) t 0 refl h)))
    alike (VectorType k c t) same = ap (VectorType k c) (alike t (λ n h. same n (InPart (VectorType k c t) t 0 refl h)))
    alike (StructType l ts) same = ap (StructType l) (all_alike ts (λ i v at n h. same n (InPart (StructType l ts) v i at h)))
    alike (NamedType name) same = ap NamedType (same name Itself)
    alike (FunctionType r ps v) same =
        let a = alike r (λ n h. same n (InPart (FunctionType r ps v) r 0 refl h)) in
        let b = all_alike ps (λ i u at n h. same n (InPart (FunctionType r ps v) u (suc i) at h)) in
        cc

    pub all_alike : (ts : TypeTrees) → ((i : ℕ) (v : TypeTree) → slice_get (types_list ts) i ≡ Some v → Agree v) → renamed_all f ts ≡ renamed_all g ts
    all_alike NoTypes same = refl
    all_alike (ThenType t ts) same =
        let a = alike t (same 0 t refl) in
        let b = all_alike ts (λ i v at. same (suc i) v at) in
        cc

pub type_kept : (x y : List Named) (t : TypeTree) → GoesOn x y → IsCalled x t → renamed (called y) t ≡ renamed (called x) t
type_kept x y t goes known = alike (called y) (called x) t (λ n h. called_kept x y n goes (known n h))

pub known_kept : (x y : List Named) (t : TypeTree) → GoesOn x y → IsCalled x t → IsCalled y t
known_kept x y t goes known n h = met_kept x y n goes (known n h)

pub body_kept : (x y : List Named) (o : Option StructBody) → GoesOn x y → IfSome o (λ (b : StructBody). All (IsCalled x) (types_list b.fields)) → option_map (renamed_body (called y)) o ≡ option_map (renamed_body (called x)) o
body_kept x y None goes known = refl
body_kept x y (Some b) goes known =
    ap (λ (ts : TypeTrees). Some (record b { fields = ts })) (all_alike (called y) (called x) b.fields (λ i v at n h. called_kept x y n goes (within_at (types_list b.fields) (IsCalled x) known i v at n h)))

pub body_known : (x y : List Named) (o : Option StructBody) → GoesOn x y → IfSome o (λ (b : StructBody). All (IsCalled x) (types_list b.fields)) → IfSome o (λ (b : StructBody). All (IsCalled y) (types_list b.fields))
body_known x y None goes known = tt
body_known x y (Some b) goes known = All-weaker (IsCalled x) (IsCalled y) (λ t k. known_kept x y t goes k) (types_list b.fields) known

-- ---- structs by their names

-- the struct that is found by a name has it
pub found_in : (ss : List Struct) (n : List ℕ) (s : Struct) → struct_in ss n ≡ Some s → s.name ≡ n
found_in [] n s e = cc
found_in (x ∷ ss) n s e = by (bytes_eq x.name n) refl e (found_in ss n s)
  where
    by : (b : Bool) → bytes_eq x.name n ≡ b → (if b then Some x else struct_in ss n) ≡ Some s → (struct_in ss n ≡ Some s → s.name ≡ n) → s.name ≡ n
    by true is e next = ap (λ (y : Struct). y.name) (sym (same_Some x s e)) ∙ (bytes_eq-Decides x.name n).0 is
    by false is e next = next e

pub found_before : (ss more : List Struct) (n : List ℕ) (s : Struct) → struct_in ss n ≡ Some s → struct_in (ss ++ more) n ≡ Some s
found_before [] more n s e = cc
found_before (x ∷ ss) more n s e = by (bytes_eq x.name n) e (found_before ss more n s)
  where
    by : (b : Bool) → (if b then Some x else struct_in ss n) ≡ Some s → (struct_in ss n ≡ Some s → struct_in (ss ++ more) n ≡ Some s) → (if b then Some x else struct_in (ss ++ more) n) ≡ Some s
    by true e next = e
    by false e next = next e

-- it stands in the one list or in the other
pub found_either : (ss more : List Struct) (n : List ℕ) (s : Struct) → struct_in (ss ++ more) n ≡ Some s → (struct_in ss n ≡ Some s) ⊎ ((i : ℕ) × (slice_get more i ≡ Some s))
found_either [] [] n s e = cc
found_either [] (x ∷ more) n s e = by (bytes_eq x.name n) e (found_either [] more n s)
  where
    by : (b : Bool) → (if b then Some x else struct_in more n) ≡ Some s → (struct_in more n ≡ Some s → (None ≡ Some s) ⊎ ((i : ℕ) × (slice_get more i ≡ Some s)))
        → (None ≡ Some s) ⊎ ((i : ℕ) × (slice_get (x ∷ more) i ≡ Some s))
    by true e next = inr (zero, e)
    by false e next = elim (next e) [ inl never ↦ inl never | inr later ↦ inr (suc later.0, later.1) ]
found_either (x ∷ ss) more n s e = by (bytes_eq x.name n) e (found_either ss more n s)
  where
    by : (b : Bool) → (if b then Some x else struct_in (ss ++ more) n) ≡ Some s → (struct_in (ss ++ more) n ≡ Some s → (struct_in ss n ≡ Some s) ⊎ ((i : ℕ) × (slice_get more i ≡ Some s)))
        → ((if b then Some x else struct_in ss n) ≡ Some s) ⊎ ((i : ℕ) × (slice_get more i ≡ Some s))
    by true e next = inl e
    by false e next = next e

-- what a struct is in the dialect it is once more names have identifiers
pub converted_kept : (x y : List Named) (ss : List Struct) (n : List ℕ) (s : Struct) → GoesOn x y → IsConverted ss x n s → IsConverted ss y n s
converted_kept x y ss n s goes h = record {
  gave = gave_kept x y n s.name goes h.gave;
  struct = h.struct;
  at = h.at;
  known = body_known x y h.struct.body goes h.known;
  is =
      let named = found_in ss n h.struct h.at in
      let met : IsMet x h.struct.name = subst (IsMet x) (sym named) (gave_met x n s.name h.gave) in
      let a = called_kept x y h.struct.name goes met in
      let b = body_kept x y h.struct.body goes h.known in
      h.is ∙ sym (ap (λ (i : List ℕ). let t : Struct = record { name = i; body = option_map (renamed_body (called y)) h.struct.body } in t) a ∙ ap (λ (o : Option StructBody). let t : Struct = record { name = called x h.struct.name; body = o } in t) b);
}

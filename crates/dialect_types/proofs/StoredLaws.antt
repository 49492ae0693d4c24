-- What a store keeps of its types: their parts are fit and they are not too deep, so that each is one of values as soon as its shape is.
use Rattle.std.proofs.Common.{◌≡◌, ◌≢◌, ◌<◌, ◌≤◌, ◌+◌, length-append, ℕ, zero, suc, true, false, ◌&&◌, Option, Some, None, List, [], ◌∷◌, ◌++◌, All, length, take, slice_get, get_or, ap, sym, ◌∙◌, refl, arith, inl, inr, subst}
use Rattle.std.proofs.lemmas.List.Elements.{All-nil, All-cons, All-head, All-tail, All-push}
use Rattle.std.specs.Prelude.{IfSome, Result, Ok, Err, IfOk, IfErr, OnOk, OnErr}
use Rattle.std.proofs.lemmas.Option.{slice_get-get_or, slice_get_within, get_or_from_slice_get, same_Some}
use Rattle.kinds.specs.declared.fitting.Shape.{Shape}
use Rattle.kinds.specs.Types.{shape}
use Rattle.kinds.specs.Fitting.{is_first_class, is_held, is_field, is_array_of, is_vector_of}
use Rattle.kinds.specs.Held.{deepest, throughout, each_throughout, IsShallow, IsFirstClass, IsHeld}
use Rattle.kinds.specs.Structs.{IsNested, struct_in}
use Rattle.kinds.proofs.TypeLaws.{and_left, and_right}
use Rattle.kinds.proofs.HeldLaws.{held_by, held_first_class, held_throughout}
use Rattle.support.specs.Interned.{Interned}
use Rattle.dialect_types.specs.declared.types.TypeHandle.{TypeHandle}
use Rattle.dialect_types.specs.declared.types.StructFields.{StructFields}
use Rattle.dialect_types.specs.declared.types.TypeKind.{TypeKind}
use Rattle.dialect_types.specs.declared.types.TypeKind.TheVariants.{Array, Vector, Struct, Named, Void}
use Rattle.dialect_types.specs.declared.struct_err.StructErr.{StructErr}
use Rattle.dialect_types.specs.declared.struct_err.StructErr.TheVariants as E
use Rattle.dialect_types.specs.Names.{IsIdentifier}
use Rattle.dialect_types.specs.Trees.{TypeTree, VoidType, NamedType, type_at, types_at, type_tree, type_trees, is_named, structs_of, AllBelow, HasPartsBelow, HasFitParts, IsGrounded, IsStored}
use Rattle.dialect_types.specs.Stored.{Numbered, IsNumberOf, HasNumbers, IsStructErr, IsWhole, AreDepths, IsDepthOf}
use Rattle.support.proofs.ListLaws.{slice_get-push, slice_get-push_cases, slice_get-kept, slice_get-before}
use Rattle.dialect_types.proofs.KeyLemmas.{same_handle}
use Rattle.dialect_types.proofs.DepthLaws.{all_nested, all_shallow, depths_kept, depths_grown}
use Rattle.dialect_types.proofs.NamedLaws.{IsSpelled, plain_spelled, named_spelled, spelled_grown, absent, IsFresh, IsFreshKind, plain_fresh, named_fresh, once_grown, still_structs}
use Rattle.dialect_types.proofs.TreeLemmas.{AgreeBelow, length-trees_after, at_number, kept_tree, still_grounded, still_trees, asked_tree, tree_of_kind}

-- ---- a store after a type was asked for

-- a part of a struct by other trees
abbrev IsFieldOf : List TypeTree → TypeHandle → Type 0
IsFieldOf ts t = is_field (shape (type_at ts t)) ≡ true

-- trees that agree below n have the same fit parts below n: a line for each kind with parts that are asked for
same_fields : (ts us : List TypeTree) (n : ℕ) → AgreeBelow ts us n → (xs : List TypeHandle) → AllBelow n xs → All (IsFieldOf ts) xs → All (IsFieldOf us) xs
same_fields ts us n same [] p h = All-nil (IsFieldOf us)
same_fields ts us n same (x ∷ xs) p h =
    All-cons (IsFieldOf us) x xs (subst (λ (t : TypeTree). is_field (shape t) ≡ true) (same x.0 p.0) (All-head (IsFieldOf ts) x xs h))
    (same_fields ts us n same xs p.1 (All-tail (IsFieldOf ts) x xs h))

same_fit : (ts us : List TypeTree) (n : ℕ) → AgreeBelow ts us n → (k : TypeKind) → HasPartsBelow n k → HasFitParts ts k → HasFitParts us k
same_fit ts us n same (Array t count) p h = subst (λ (u : TypeTree). is_array_of count (shape u) ≡ true) (same t.0 p) h
same_fit ts us n same (Vector t count kind) p h = subst (λ (u : TypeTree). is_vector_of count (shape u) ≡ true) (same t.0 p) h
same_fit ts us n same (Struct fields layout) p h = same_fields ts us n same fields p h
same_fit ts us n same (Named name None) p h = h
same_fit ts us n same (Named name (Some b)) p h = same_fields ts us n same b.types p h
same_fit ts us n same k p h = h

still_fit : (old : List TypeKind) → IsStored old → (k : TypeKind) → HasPartsBelow (length old) k → HasFitParts (type_trees old) k → All (HasFitParts (type_trees (old ++ k ∷ []))) (old ++ k ∷ [])
still_fit old ok k parts fit =
    let longer = type_trees (old ++ k ∷ []) in
    let same : AgreeBelow (type_trees old) longer (length old) = λ j below. sym (kept_tree old (k ∷ []) (record { 0 = j }) below) in
    All-push (HasFitParts longer) old k
    (λ i d within. same_fit (type_trees old) longer i (λ j below. same j (omega arith)) (get_or old i d) (ok.grounded i (get_or old i d) (slice_get-get_or old i d within)) (ok.fit i d within))
    (same_fit (type_trees old) longer (length old) same k parts fit)

-- a store with one more type, whose depth is noted behind the others
grown_stored : (ks : List TypeKind) (k : TypeKind) (es : List ℕ) → IsStored ks → HasPartsBelow (length ks) k → HasFitParts (type_trees ks) k → IsFreshKind ks k → IsSpelled k → length (ks ++ k ∷ []) ≤ length es → All (λ (d : ℕ). d ≤ deepest) es → AreDepths (ks ++ k ∷ []) es → IsStored (ks ++ k ∷ [])
grown_stored ks k es ok parts fit fresh spelled long few depths =
    let grown : Interned ks (ks ++ k ∷ []) k (length ks) = record { here = slice_get-push ks k (length ks) refl; only = inr refl } in
    let nested = all_nested (ks ++ k ∷ []) es depths long few in
    record {
      grounded = still_grounded ks (ks ++ k ∷ []) k (length ks) ok.grounded parts grown;
      fit = still_fit ks ok k parts fit;
      once = once_grown ks k ok.once fresh;
      spelled = spelled_grown ks k ok.spelled spelled;
      shallow = all_shallow (ks ++ k ∷ []) nested;
      nested = nested;
    }

-- a store stays one, with the depths of its types
pub still_stored : (old new : List TypeKind) (k : TypeKind) (n d : ℕ) (ds es : List ℕ) → IsStored old → AreDepths old ds → HasPartsBelow (length old) k → HasFitParts (type_trees old) k → IsFreshKind old k → IsSpelled k
    → take (length old) es ≡ take (length old) ds → length new ≤ length es → All (λ (x : ℕ). x ≤ deepest) es → slice_get es (length old) ≡ Some d → IsDepthOf k (take (length old) ds) d
    → Interned old new k n → IsStored new × AreDepths new es
still_stored old new k n d ds es ok depths parts fit fresh spelled same long few last noted h = elim h.only [
  | inl stays ↦ subst (λ (ks : List TypeKind). IsStored ks × AreDepths ks es) (sym stays) (ok, depths_kept old ds es depths same)
  | inr grown ↦
      let grown_depths = depths_grown old k ds es d ok.grounded parts fresh depths same last noted in
      subst (λ (ks : List TypeKind). IsStored ks × AreDepths ks es) (sym grown)
      (grown_stored old k es ok parts fit fresh spelled (subst (λ (ks : List TypeKind). length ks ≤ length es) grown long) few grown_depths, grown_depths)
]

-- ---- the numbers of structs by their names

-- a name is not there where no number stands beside it
pub fresh_name : (ks : List TypeKind) (s : Numbered) (name : List ℕ) → HasNumbers ks s → ((t : TypeHandle) → ¬ IsNumberOf s name t) → IsFresh ks name
fresh_name ks s name numbers none t b at = none (record { 0 = t }) (numbers.each t name b at)

-- a number that stands beside a name is that of a struct
pub named_found : (o : Option TypeHandle) (ks : List TypeKind) (s : Numbered) (name : List ℕ) → HasNumbers ks s → IsGrounded ks → IfSome o (λ (t : TypeHandle). IsNumberOf s name t)
    → IfSome o (λ (t : TypeHandle). (t.0 < length ks) × (type_at (type_trees ks) t ≡ NamedType name))
named_found None ks s name numbers ok h = tt
named_found (Some t) ks s name numbers ok h =
    let there = numbers.only name t h in
    (slice_get_within ks t.0 (Named name there.0) there.1, tree_of_kind ks ok t (Named name there.0) there.1)

-- and there is none of a name that has none
pub named_none : (ks : List TypeKind) (s : Numbered) (name : List ℕ) → HasNumbers ks s → ((t : TypeHandle) → ¬ IsNumberOf s name t) → struct_in (structs_of ks) name ≡ None
named_none ks s name numbers none = absent (type_trees ks) ks name (fresh_name ks s name numbers none)

-- a type that is no struct with a name leaves the numbers of structs
plain_numbers : (ks : List TypeKind) (k : TypeKind) (s : Numbered) → is_named k ≡ false → HasNumbers ks s → HasNumbers (ks ++ k ∷ []) s
plain_numbers ks k s plain h = record {
  even = h.even;
  each = λ t n b at. elim (slice_get-push_cases ks k t (Named n b) at) [
    | inl old ↦ h.each t n b old
    | inr new ↦ let e = ap is_named new.1 in absurd (cc)
  ];
  only = λ n t at. let old = h.only n t at in (old.0, slice_get-kept ks (k ∷ []) t.0 (Named n old.0) old.1);
}

-- a new struct comes with its name and its number
named_numbers : (ks : List TypeKind) (name : List ℕ) (b : Option StructFields) (s : Numbered) (next : TypeHandle) → next.0 ≡ length ks → HasNumbers ks s
    → HasNumbers (ks ++ Named name b ∷ []) (record { names = s.names ++ name ∷ []; types = s.types ++ next ∷ [] })
named_numbers ks name b s next is h = record {
  even = length-append s.types (next ∷ []) ∙ ap (λ (n : ℕ). n + 1) h.even ∙ sym (length-append s.names (name ∷ []));
  each = λ t n c at. elim (slice_get-push_cases ks (Named name b) t (Named n c) at) [
    | inl old ↦
        let there = h.each t n c old in
        (there.0, slice_get-kept s.names (name ∷ []) there.0 n there.1, slice_get-kept s.types (next ∷ []) there.0 (record { 0 = t }) there.2)
    | inr new ↦
        let same : name ≡ n = cc in
        let number : next ≡ record { 0 = t } = same_handle next (record { 0 = t }) (is ∙ sym new.0) in
        (length s.names, slice_get-push s.names name (length s.names) refl ∙ ap Some same, slice_get-push s.types next (length s.names) (sym h.even) ∙ ap Some number)
  ];
  only = λ n t at. elim (slice_get-push_cases s.names name at.0 n at.1) [
    | inl old ↦
        let within = slice_get_within s.names at.0 n old in
        let type = sym (slice_get-before s.types (next ∷ []) at.0 (omega (arith, h.even))) ∙ at.2 in
        let there = h.only n t (at.0, old, type) in
        (there.0, slice_get-kept ks (Named name b ∷ []) t.0 (Named n there.0) there.1)
    | inr new ↦
        let type : next ≡ t = same_Some next t (sym (slice_get-push s.types next at.0 (new.0 ∙ sym h.even)) ∙ at.2) in
        let place : t.0 ≡ length ks = sym (ap (λ (u : TypeHandle). u.0) type) ∙ is in
        (b, slice_get-push ks (Named name b) t.0 place ∙ ap (λ (x : List ℕ). Some (Named x b)) (sym new.1))
  ];
}

-- ---- a store whole

-- what was noted of a kind
abbrev pub IsNoted : List TypeKind → TypeKind → (ds es : List ℕ) → Type 0
IsNoted old k ds es = (d : ℕ) × (slice_get es (length old) ≡ Some d) × IsDepthOf k (take (length old) ds) d

-- what is asked of a kind and of the depths that are kept
pub record IsAsked (old : List TypeKind) (k : TypeKind) (ds es : List ℕ) (new : List TypeKind) : Type 0 where
  pub parts : HasPartsBelow (length old) k
  pub fit : HasFitParts (type_trees old) k
  pub kept : take (length old) es ≡ take (length old) ds
  pub long : length new ≤ length es
  pub few : All (λ (d : ℕ). d ≤ deepest) es

-- where nothing changed but depths behind those of the types
pub whole_still : (old new : List TypeKind) (ds es : List ℕ) (s : Numbered) → IsWhole old ds s → new ≡ old → take (length old) es ≡ take (length old) ds → length new ≤ length es → All (λ (d : ℕ). d ≤ deepest) es → IsWhole new es s
whole_still old new ds es s ok same kept long few = record {
  stored = subst IsStored (sym same) ok.stored;
  depths = subst (λ (ks : List TypeKind). AreDepths ks es) (sym same) (depths_kept old ds es ok.depths kept);
  long = long;
  few = few;
  numbers = subst (λ (ks : List TypeKind). HasNumbers ks s) (sym same) ok.numbers;
}

-- a type without a name was asked for
pub whole_plain : {E : Type 0} (r : Result TypeHandle E) (old new : List TypeKind) (k : TypeKind) (ds es : List ℕ) (s : Numbered) → IsWhole old ds s → is_named k ≡ false → IsAsked old k ds es new
    → IfOk r (λ (t : TypeHandle). Interned old new k t.0) → OnErr r (new ≡ old) → OnOk r (IsNoted old k ds es) → IsWhole new es s
whole_plain (Err fault) old new k ds es s ok plain a interned err noted = whole_still old new ds es s ok err a.kept a.long a.few
whole_plain (Ok t) old new k ds es s ok plain a interned err noted =
    let both = still_stored old new k t.0 noted.0 ds es ok.stored ok.depths a.parts a.fit (plain_fresh old k plain) (plain_spelled k plain) a.kept a.long a.few noted.1 noted.2 interned in
    record {
      stored = both.0;
      depths = both.1;
      long = a.long;
      few = a.few;
      numbers = elim interned.only [
        | inl same ↦ subst (λ (ks : List TypeKind). HasNumbers ks s) (sym same) ok.numbers
        | inr grown ↦ subst (λ (ks : List TypeKind). HasNumbers ks s) (sym grown) (plain_numbers old k s plain ok.numbers)
      ];
    }

-- a struct with a new name was asked for
pub whole_named : (old new : List TypeKind) (name : List ℕ) (b : Option StructFields) (t next : TypeHandle) (ds es : List ℕ) (s : Numbered) → IsWhole old ds s → ((u : TypeHandle) → ¬ IsNumberOf s name u)
    → IsIdentifier name → next.0 ≡ length old → IsAsked old (Named name b) ds es new → Interned old new (Named name b) t.0 → IsNoted old (Named name b) ds es
    → IsWhole new es (record { names = s.names ++ name ∷ []; types = s.types ++ next ∷ [] })
whole_named old new name b t next ds es s ok none legal is a interned noted =
    let fresh = fresh_name old s name ok.numbers none in
    let both = still_stored old new (Named name b) t.0 noted.0 ds es ok.stored ok.depths a.parts a.fit (named_fresh old name b fresh) (named_spelled name b legal) a.kept a.long a.few noted.1 noted.2 interned in
    record {
      stored = both.0;
      depths = both.1;
      long = a.long;
      few = a.few;
      numbers = elim interned.only [
        | inl same ↦ absurd (fresh t.0 b (subst (λ (ks : List TypeKind). slice_get ks t.0 ≡ Some (Named name b)) same interned.here))
        | inr grown ↦ subst (λ (ks : List TypeKind). HasNumbers ks (record { names = s.names ++ name ∷ []; types = s.types ++ next ∷ [] })) (sym grown) (named_numbers old name b s next is ok.numbers)
      ];
    }

-- ---- a type of a store

-- it nests no deeper than is allowed
pub stored_shallow : (ks : List TypeKind) → IsStored ks → (t : TypeHandle) → t.0 < length ks → IsShallow (type_at (type_trees ks) t)
stored_shallow ks ok t within = ok.shallow t.0 VoidType (omega (arith, length-trees_after [] ks))

-- nor through the fields of structs
pub stored_nested : (ks : List TypeKind) → IsStored ks → (t : TypeHandle) → t.0 < length ks → IsNested (structs_of ks) (type_at (type_trees ks) t)
stored_nested ks ok t within = ok.nested t.0 VoidType (omega (arith, length-trees_after [] ks))

-- what may be a part is of first class
field_first_class : (s : Shape) → is_field s ≡ true → is_first_class s ≡ true
field_first_class s h = and_left (is_first_class s) _ h

array_field : (n : ℕ) (s : Shape) → is_array_of n s ≡ true → is_field s ≡ true
array_field n s h = grind arith

vector_array : (n : ℕ) (s : Shape) → is_vector_of n s ≡ true → is_array_of n s ≡ true
vector_array n s h = grind arith

-- each below n is translated all the way in, where its shape is that of a type of values
abbrev AreHeldBelow : List TypeTree → ℕ → Type 0
AreHeldBelow ts n = (j : ℕ) → j < n → is_first_class (shape (get_or ts j VoidType)) ≡ true → throughout is_held (get_or ts j VoidType) ≡ true

-- and so is one whose parts are below n: a line for each kind with parts that are asked for
fields_throughout : (ts : List TypeTree) (n : ℕ) → AreHeldBelow ts n → (xs : List TypeHandle) → AllBelow n xs → All (IsFieldOf ts) xs → each_throughout is_held (types_at ts xs) ≡ true
fields_throughout ts n below [] p h = refl
fields_throughout ts n below (x ∷ xs) p h =
    let first : IsFieldOf ts x = All-head (IsFieldOf ts) x xs h in
    let own = below x.0 p.0 (field_first_class (shape (type_at ts x)) first) in
    let rest = fields_throughout ts n below xs p.1 (All-tail (IsFieldOf ts) x xs h) in
    cc

kind_throughout : (ts : List TypeTree) (n : ℕ) → AreHeldBelow ts n → (k : TypeKind) → HasPartsBelow n k → HasFitParts ts k → is_first_class (shape (type_tree ts k)) ≡ true → throughout is_held (type_tree ts k) ≡ true
kind_throughout ts n below (Array t count) p fit h =
    let own = below t.0 p (field_first_class (shape (type_at ts t)) (array_field count (shape (type_at ts t)) fit)) in
    cc
kind_throughout ts n below (Vector t count kind) p fit h =
    let own = below t.0 p (field_first_class (shape (type_at ts t)) (array_field count (shape (type_at ts t)) (vector_array count (shape (type_at ts t)) fit))) in
    cc
kind_throughout ts n below (Struct fields layout) p fit h = fields_throughout ts n below fields p fit
kind_throughout ts n below k p fit h = h

-- by the larger numbers
by_size : (ks : List TypeKind) → IsStored ks → (size i : ℕ) → i < size → i < length ks → is_first_class (shape (get_or (type_trees ks) i VoidType)) ≡ true → throughout is_held (get_or (type_trees ks) i VoidType) ≡ true
by_size ks ok zero i small within h = absurd (omega arith)
by_size ks ok (suc size) i small within h =
    let at = slice_get-get_or ks i Void within in
    let parts = ok.grounded i (get_or ks i Void) at in
    let tree = at_number [] ks i i (get_or ks i Void) (omega arith) at parts in
    let own = subst (λ (t : TypeTree). is_first_class (shape t) ≡ true) tree h in
    subst (λ (t : TypeTree). throughout is_held t ≡ true) (sym tree)
    (kind_throughout (type_trees ks) i (λ j below. by_size ks ok size j (omega arith) (omega arith)) (get_or ks i Void) parts (ok.fit i Void within) own)

-- so are the fields of a struct with a name
pub stored_fields : (ks : List TypeKind) → IsStored ks → (t : ℕ) (name : List ℕ) (b : StructFields) → slice_get ks t ≡ Some (Named name (Some b)) → each_throughout is_held (types_at (type_trees ks) b.types) ≡ true
stored_fields ks ok t name b at =
    let within = slice_get_within ks t (Named name (Some b)) at in
    let fit = subst (HasFitParts (type_trees ks)) (get_or_from_slice_get ks t (Named name (Some b)) Void at) (ok.fit t Void within) in
    fields_throughout (type_trees ks) t (λ j below. by_size ks ok (suc j) j (omega arith) (omega (arith, within))) b.types (ok.grounded t (Named name (Some b)) at) fit

first_class_held : (ks : List TypeKind) → IsStored ks → (t : TypeHandle) → t.0 < length ks → is_first_class (shape (type_at (type_trees ks) t)) ≡ true → IsHeld (type_at (type_trees ks) t)
first_class_held ks ok t within h = held_by (type_at (type_trees ks) t) (by_size ks ok (suc t.0) t.0 (omega arith) within h) (stored_shallow ks ok t within)

pub stored_first_class : (ks : List TypeKind) → IsStored ks → (t : TypeHandle) → t.0 < length ks → is_first_class (shape (type_at (type_trees ks) t)) ≡ true → IsFirstClass (type_at (type_trees ks) t)
stored_first_class ks ok t within h = held_first_class (type_at (type_trees ks) t) (first_class_held ks ok t within h)

-- no kind is one that is not translated
kind_held : (ts : List TypeTree) (k : TypeKind) → is_held (shape (type_tree ts k)) ≡ is_first_class (shape (type_tree ts k))
kind_held ts Void = refl
kind_held ts k = refl

pub stored_held : (ks : List TypeKind) → IsStored ks → (t : TypeHandle) → t.0 < length ks → is_held (shape (type_at (type_trees ks) t)) ≡ true → IsHeld (type_at (type_trees ks) t)
stored_held ks ok t within h =
    let k = get_or ks t.0 Void in
    let tree = tree_of_kind ks ok.grounded t k (slice_get-get_or ks t.0 Void within) in
    let same = ap (λ (u : TypeTree). is_first_class (shape u)) tree ∙ sym (kind_held (type_trees ks) k) ∙ ap (λ (u : TypeTree). is_held (shape u)) (sym tree) in
    first_class_held ks ok t within (same ∙ h)

-- ---- from the tree to the parts

held_fields : (ts : List TypeTree) (xs : List TypeHandle) → each_throughout is_held (types_at ts xs) ≡ true → All (IsFieldOf ts) xs
held_fields ts [] h = All-nil (IsFieldOf ts)
held_fields ts (x ∷ xs) h =
    let t = type_at ts x in
    let first = and_left (is_field (shape t) && throughout is_held t) (each_throughout is_held (types_at ts xs)) h in
    All-cons (IsFieldOf ts) x xs (and_left (is_field (shape t)) (throughout is_held t) first) (held_fields ts xs (and_right (is_field (shape t) && throughout is_held t) (each_throughout is_held (types_at ts xs)) h))

fit_by : (ts : List TypeTree) (k : TypeKind) → is_named k ≡ false → throughout is_held (type_tree ts k) ≡ true → HasFitParts ts k
fit_by ts (Array t count) plain h = and_left (is_array_of count (shape (type_at ts t))) (throughout is_held (type_at ts t)) h
fit_by ts (Vector t count kind) plain h = and_left (is_vector_of count (shape (type_at ts t))) (throughout is_held (type_at ts t)) h
fit_by ts (Struct fields layout) plain h = held_fields ts fields h
fit_by ts (Named name body) plain h = cc
fit_by ts k plain h = tt

-- a kind without a name whose type is translated has fit parts, as `TypeStore::get` asks
pub held_fit : (ts : List TypeTree) (k : TypeKind) → is_named k ≡ false → IsHeld (type_tree ts k) → HasFitParts ts k
held_fit ts k plain h = fit_by ts k plain (held_throughout (type_tree ts k) h)

-- ---- after a type was asked for, with an answer or without

-- the earlier numbers keep their trees
pub kept_after : {E : Type 0} (r : Result TypeHandle E) (old new : List TypeKind) (k : TypeKind) → IfOk r (λ (t : TypeHandle). Interned old new k t.0) → OnErr r (new ≡ old)
    → (t : TypeHandle) → t.0 < length old → type_at (type_trees new) t ≡ type_at (type_trees old) t
kept_after (Ok n) old new k h e t within = still_trees old new k n.0 h t within
kept_after (Err fault) old new k h e t within = ap (λ (ks : List TypeKind). type_at (type_trees ks) t) e

-- so do the structs, where the type has no name
pub structs_after : {E : Type 0} (r : Result TypeHandle E) (old new : List TypeKind) (k : TypeKind) → IsGrounded old → is_named k ≡ false → IfOk r (λ (t : TypeHandle). Interned old new k t.0) → OnErr r (new ≡ old)
    → structs_of new ≡ structs_of old
structs_after (Ok n) old new k ok plain h e = still_structs old new k n.0 ok plain h
structs_after (Err fault) old new k ok plain h e = ap structs_of e

-- the number's tree is that of the kind that was asked for
pub tree_after : {E : Type 0} (r : Result TypeHandle E) (old new : List TypeKind) (k : TypeKind) → IsGrounded old → HasPartsBelow (length old) k → IfOk r (λ (t : TypeHandle). Interned old new k t.0)
    → IfOk r (λ (t : TypeHandle). type_at (type_trees new) t ≡ type_tree (type_trees old) k)
tree_after (Ok n) old new k ok parts h = asked_tree old new k n ok parts h
tree_after (Err fault) old new k ok parts h = tt

-- ---- after a struct with a name was asked for that the store holds

-- why another body is refused
pub found_refused : (r : Result TypeHandle StructErr) (ks : List TypeKind) (name : List ℕ) (body : Option StructFields) (t : TypeHandle) (b : Option StructFields) → slice_get ks t.0 ≡ Some (Named name b)
    → IfErr r (λ (e : StructErr). (e ≡ E.DifferentBody name) × ((b : Option StructFields) → slice_get ks t.0 ≡ Some (Named name b) → b ≢ body)) → IfErr r (IsStructErr ks name body)
found_refused (Ok n) ks name body t b at h = tt
found_refused (Err fault) ks name body t b at h = subst (IsStructErr ks name body) (sym h.0) (refl, t.0, b, at, h.1 b at)

-- its tree is its name
pub found_tree : (r : Result TypeHandle StructErr) (ks : List TypeKind) (name : List ℕ) (body : Option StructFields) (t : TypeHandle) → IsGrounded ks
    → IfOk r (λ (u : TypeHandle). (u ≡ t) × (slice_get ks t.0 ≡ Some (Named name body))) → IfOk r (λ (u : TypeHandle). type_at (type_trees ks) u ≡ NamedType name)
found_tree (Ok u) ks name body t ok h = ap (type_at (type_trees ks)) h.0 ∙ tree_of_kind ks ok t (Named name body) h.1
found_tree (Err fault) ks name body t ok h = tt

-- an answer that is none of those that are there
pub none_left : (o : Option TypeHandle) → ((t : TypeHandle) → ¬ (o ≡ Some t)) → o ≡ None
none_left None h = refl
none_left (Some t) h = absurd (h t refl)

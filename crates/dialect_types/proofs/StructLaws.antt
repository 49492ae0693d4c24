-- What is known of the types and the structs of a store: what a type holds is a type of the store, and each struct is one of the form.
use Rattle.std.proofs.Common.{◌≡◌, ◌<◌, ℕ, zero, suc, true, Option, Some, None, List, [], ◌∷◌, All, length, get_or, slice_get, ap, sym, ◌∙◌, refl, arith, subst, map}
use Rattle.std.specs.List.{filter_map, cons_option}
use Rattle.std.specs.Option.{option_map, option_map_or}
use Rattle.std.proofs.lemmas.Option.{slice_get-get_or, slice_get_within, same_Some}
use Rattle.std.proofs.lemmas.List.Elements.{All-nil, All-cons}
use Rattle.support.specs.Interned.{IsDistinctList}
use Rattle.support.proofs.ListLaws.{distinct_nil}
use Rattle.kinds.specs.declared.types.OtherType.{OtherType}
use Rattle.kinds.specs.Types.{types_list, parts_of, StructType}
use Rattle.kinds.specs.Structs.{StructBody, struct_in, Holds, Itself, InPart, InField, IsFormStruct}
use Rattle.kinds.specs.declared.fitting.Shape.{Shape}
use Rattle.kinds.specs.declared.fitting.Shape.TheVariants as S
use Rattle.kinds.specs.Names.{is_good_name}
use Rattle.kinds.specs.Fitting.{is_held, is_first_class}
use Rattle.kinds.specs.Held.{each_throughout}
use Rattle.kinds.proofs.NameLaws.{plain_good}
use Rattle.kinds.proofs.PartLaws.{throughout_weaker}
use Rattle.dialect_types.specs.declared.types.TypeHandle.{TypeHandle}
use Rattle.dialect_types.specs.declared.types.StructFields.{StructFields}
use Rattle.dialect_types.specs.declared.types.TypeKind.{TypeKind}
use Rattle.dialect_types.specs.declared.types.TypeKind.TheVariants.{Integer, Pointer, Floating, Array, Vector, Struct, Named, Func, Void}
use Rattle.dialect_types.specs.Trees.{TypeTree, RefusedType, NamedStruct, type_at, types_at, type_tree, type_trees, fields_of, struct_of, structs_of, AllBelow, HasPartsBelow, IsOnceNamed, IsStored}
use Rattle.dialect_types.specs.Names.{IsIdentifier}
use Rattle.dialect_types.proofs.TreeLemmas.{tree_of_kind}
use Rattle.dialect_types.proofs.StoredLaws.{stored_fields}
use Rattle.dialect_types.proofs.NamedLaws.{kind_found}

-- ---- what the types of a store hold

-- a type of the store
abbrev pub IsTypeOf : List TypeKind → TypeTree → Type 0
IsTypeOf ks u = (v : TypeHandle) × (v.0 < length ks) × (type_at (type_trees ks) v ≡ u)

-- one of the numbers below n
abbrev IsTypeBelow : List TypeTree → ℕ → TypeTree → Type 0
IsTypeBelow ts n u = (v : TypeHandle) × (v.0 < n) × (type_at ts v ≡ u)

listed_below : (ts : List TypeTree) (n : ℕ) (xs : List TypeHandle) → AllBelow n xs → (i : ℕ) (v : TypeTree) → slice_get (types_list (types_at ts xs)) i ≡ Some v → IsTypeBelow ts n v
listed_below ts n [] p i v at = cc
listed_below ts n (x ∷ xs) p zero v at = (x, p.0, same_Some (type_at ts x) v at)
listed_below ts n (x ∷ xs) p (suc i) v at = listed_below ts n xs p.1 i v at

-- the parts of a type are earlier ones: a line for each kind with parts
part_below : (ts : List TypeTree) (n : ℕ) (k : TypeKind) → HasPartsBelow n k → (i : ℕ) (v : TypeTree) → slice_get (parts_of (type_tree ts k)) i ≡ Some v → IsTypeBelow ts n v
part_below ts n (Array t count) p zero v at = (t, p, same_Some (type_at ts t) v at)
part_below ts n (Array t count) p (suc i) v at = cc
part_below ts n (Vector t count kind) p zero v at = (t, p, same_Some (type_at ts t) v at)
part_below ts n (Vector t count kind) p (suc i) v at = cc
part_below ts n (Struct fields layout) p i v at = listed_below ts n fields p i v at
part_below ts n (Func result params variadic) p zero v at = (result, p.0, same_Some (type_at ts result) v at)
part_below ts n (Func result params variadic) p (suc i) v at = listed_below ts n params p.1 i v at
part_below ts n k p i v at = cc

-- and so are the fields of a struct with a name
field_below : (ts : List TypeTree) (n : ℕ) (name : List ℕ) (body : Option StructFields) → HasPartsBelow n (Named name body) → (b : StructBody) → option_map (fields_of ts) body ≡ Some b
    → (i : ℕ) (v : TypeTree) → slice_get (types_list b.fields) i ≡ Some v → IsTypeBelow ts n v
field_below ts n name None p b is i v at = cc
field_below ts n name (Some fields) p b is i v at =
    listed_below ts n fields.types p i v (ap (λ (b : StructBody). slice_get (types_list b.fields) i) (same_Some (fields_of ts fields) b is) ∙ at)

module _ (ks : List TypeKind) (ok : IsStored ks) where
  part_stored : (t : TypeHandle) → t.0 < length ks → (w v : TypeTree) → type_at (type_trees ks) t ≡ w → (i : ℕ) → slice_get (parts_of w) i ≡ Some v → IsTypeOf ks v
  part_stored t within w v is i at =
      let k = get_or ks t.0 Void in
      let here = slice_get-get_or ks t.0 Void within in
      let tree = tree_of_kind ks ok.grounded t k here in
      let p = part_below (type_trees ks) t.0 k (ok.grounded t.0 k here) i v (ap (λ (u : TypeTree). slice_get (parts_of u) i) (sym tree ∙ is) ∙ at) in
      (p.0, omega (arith, p.1, within), p.2)

  field_stored : (name : List ℕ) (s : NamedStruct) (b : StructBody) (v : TypeTree) (i : ℕ) → struct_in (structs_of ks) name ≡ Some s → s.body ≡ Some b → slice_get (types_list b.fields) i ≡ Some v → IsTypeOf ks v
  field_stored name s b v i found body at =
      let there = kind_found (type_trees ks) ks name s found in
      let within = slice_get_within ks there.0 (Named name there.1) there.2 in
      let p = field_below (type_trees ks) there.0 name there.1 (ok.grounded there.0 (Named name there.1) there.2) b (sym (ap (λ (s : NamedStruct). s.body) there.3) ∙ body) i v at in
      (p.0, omega (arith, p.1, within), p.2)

  stored_within : (u w : TypeTree) → Holds (structs_of ks) u w → (t : TypeHandle) → t.0 < length ks → type_at (type_trees ks) t ≡ w → IsTypeOf ks u
  stored_within u _ Itself t within is = (t, within, is)
  stored_within u _ (InPart w v i at rest) t within is = let p = part_stored t within w v is i at in stored_within u v rest p.0 p.1 p.2
  stored_within u _ (InField name s b v i found body at rest) t within is = let p = field_stored name s b v i found body at in stored_within u v rest p.0 p.1 p.2

-- what a type of a store holds, through the fields of structs too, is a type of the store
pub held_in_store : (ks : List TypeKind) → IsStored ks → (u : TypeTree) (t : TypeHandle) → t.0 < length ks → Holds (structs_of ks) u (type_at (type_trees ks) t) → IsTypeOf ks u
held_in_store ks ok u t within h = stored_within ks ok u (type_at (type_trees ks) t) h t within refl

no_refused : (ts : List TypeTree) (k : TypeKind) (of : OtherType) → ¬ (type_tree ts k ≡ RefusedType of)
no_refused ts (Integer w) of e = cc
no_refused ts (Pointer space) of e = cc
no_refused ts (Floating f) of e = cc
no_refused ts (Array t count) of e = cc
no_refused ts (Vector t count kind) of e = cc
no_refused ts (Struct fields layout) of e = cc
no_refused ts (Named name body) of e = cc
no_refused ts (Func result params variadic) of e = cc
no_refused ts Void of e = cc

-- so no type of a store holds one for which the dialect has none
pub store_lacks_none : (ks : List TypeKind) → IsStored ks → (of : OtherType) (t : TypeHandle) → t.0 < length ks → ¬ Holds (structs_of ks) (RefusedType of) (type_at (type_trees ks) t)
store_lacks_none ks ok of t within h =
    let v = held_in_store ks ok (RefusedType of) t within h in
    let k = get_or ks v.0.0 Void in
    no_refused (type_trees ks) k of (sym (tree_of_kind ks ok.grounded v.0 k (slice_get-get_or ks v.0.0 Void v.1)) ∙ v.2)

-- ---- the structs of a store

-- what is made of items has what each has that is made of one
all_made : {X Y : Type 0} (P : Y → Type 0) (f : X → Option Y) (xs : List X) → ((i : ℕ) (x : X) (y : Y) → slice_get xs i ≡ Some x → f x ≡ Some y → P y) → All P (filter_map f xs)
all_made P f [] h = All-nil P
all_made {X} {Y} P f (x ∷ xs) h = by (f x) refl (all_made P f xs (λ i. h (suc i)))
  where
    by : (o : Option Y) → f x ≡ o → All P (filter_map f xs) → All P (cons_option o (filter_map f xs))
    by None e rest = rest
    by (Some y) e rest = All-cons P y (filter_map f xs) (h 0 x y refl e) rest

held_value : (s : Shape) → is_held s ≡ true → is_first_class s ≡ true
held_value S.Void e = cc
held_value (S.Int w) e = e
held_value (S.Pointer space) e = e
held_value S.Other e = refl
held_value (S.Refused of) e = cc
held_value S.Made e = refl
held_value S.Named e = refl
held_value S.Function e = cc

-- an identifier is a name that a text can say
identifier_good : (n : List ℕ) → IsIdentifier n → is_good_name n ≡ true
identifier_good [] h = absurd h
identifier_good (c ∷ cs) h = plain_good c cs (grind arith)

struct_kind : (ts : List TypeTree) (k : TypeKind) (s : NamedStruct) → struct_of ts k ≡ Some s → (b : Option StructFields) × (k ≡ Named s.name b) × (s.body ≡ option_map (fields_of ts) b)
struct_kind ts (Named name b) s h =
    let e = same_Some (record { name = name; body = option_map (fields_of ts) b }) s h in
    (b, ap (λ (s : NamedStruct). Named s.name b) e, sym (ap (λ (s : NamedStruct). s.body) e))
struct_kind ts (Integer w) s h = cc
struct_kind ts (Pointer space) s h = cc
struct_kind ts (Floating f) s h = cc
struct_kind ts (Array t count) s h = cc
struct_kind ts (Vector t count kind) s h = cc
struct_kind ts (Struct fields layout) s h = cc
struct_kind ts (Func result params variadic) s h = cc
struct_kind ts Void s h = cc

-- the fields of a struct of a store are of types of values
fields_first : (ks : List TypeKind) → IsStored ks → (t : ℕ) (name : List ℕ) (b : Option StructFields) → slice_get ks t ≡ Some (Named name b)
    → option_map_or (λ (b : StructBody). each_throughout is_first_class b.fields) (option_map (fields_of (type_trees ks)) b) true ≡ true
fields_first ks ok t name None at = refl
fields_first ks ok t name (Some b) at = throughout_weaker is_held is_first_class held_value (StructType b.layout (types_at (type_trees ks) b.types)) (stored_fields ks ok t name b at)

form_struct : (ks : List TypeKind) → IsStored ks → (t : ℕ) (k : TypeKind) (s : NamedStruct) → slice_get ks t ≡ Some k → struct_of (type_trees ks) k ≡ Some s → IsFormStruct s
form_struct ks ok t k s at made =
    let kind = struct_kind (type_trees ks) k s made in
    let here = at ∙ ap Some kind.1 in
    record {
      name = identifier_good s.name (ok.spelled t s.name kind.0 here);
      fields = subst (λ (o : Option StructBody). option_map_or (λ (b : StructBody). each_throughout is_first_class b.fields) o true ≡ true) (sym kind.2) (fields_first ks ok t s.name kind.0 here);
    }

-- each struct is one of the form
pub stored_structs : (ks : List TypeKind) → IsStored ks → All IsFormStruct (structs_of ks)
stored_structs ks ok = all_made IsFormStruct (struct_of (type_trees ks)) ks (form_struct ks ok)

-- and its name is an identifier
spelled_struct : (ks : List TypeKind) → IsStored ks → (t : ℕ) (k : TypeKind) (s : NamedStruct) → slice_get ks t ≡ Some k → struct_of (type_trees ks) k ≡ Some s → IsIdentifier s.name
spelled_struct ks ok t k s at made = let kind = struct_kind (type_trees ks) k s made in ok.spelled t s.name kind.0 (at ∙ ap Some kind.1)

pub stored_names : (ks : List TypeKind) → IsStored ks → All (λ (s : NamedStruct). IsIdentifier s.name) (structs_of ks)
stored_names ks ok = all_made (λ (s : NamedStruct). IsIdentifier s.name) (struct_of (type_trees ks)) ks (spelled_struct ks ok)

-- a name of them is that of a kind
name_kind : (ts : List TypeTree) (ks : List TypeKind) (i : ℕ) (n : List ℕ) → slice_get (map (λ (s : NamedStruct). s.name) (filter_map (struct_of ts) ks)) i ≡ Some n → (t : ℕ) × (b : Option StructFields) × (slice_get ks t ≡ Some (Named n b))
name_kind ts [] i n at = cc
name_kind ts (k ∷ ks) i n at = by k (filter_map (struct_of ts) ks) (λ j e. let r = name_kind ts ks j n e in (suc r.0, r.1, r.2)) i at
  where
    by : (l : TypeKind) (rest : List NamedStruct) → ((j : ℕ) → slice_get (map (λ (s : NamedStruct). s.name) rest) j ≡ Some n → (t : ℕ) × (b : Option StructFields) × (slice_get (l ∷ ks) t ≡ Some (Named n b)))
        → (i : ℕ) → slice_get (map (λ (s : NamedStruct). s.name) (cons_option (struct_of ts l) rest)) i ≡ Some n → (t : ℕ) × (b : Option StructFields) × (slice_get (l ∷ ks) t ≡ Some (Named n b))
    by (Named m b) rest later zero at = (0, b, ap (λ (m : List ℕ). Some (Named m b)) (same_Some m n at))
    by (Named m b) rest later (suc i) at = later i at
    by l rest later i at = later i at

distinct_first : {X : Type 0} (x : X) (xs : List X) → ((i : ℕ) → ¬ (slice_get xs i ≡ Some x)) → IsDistinctList xs → IsDistinctList (x ∷ xs)
distinct_first x xs fresh h zero zero y p q = refl
distinct_first x xs fresh h zero (suc j) y p q = absurd (fresh j (q ∙ sym p))
distinct_first x xs fresh h (suc i) zero y p q = absurd (fresh i (p ∙ sym q))
distinct_first x xs fresh h (suc i) (suc j) y p q = ap suc (h i j y p q)

-- no two have one name
names_apart : (ts : List TypeTree) (ks : List TypeKind) → IsOnceNamed ks → IsDistinctList (map (λ (s : NamedStruct). s.name) (filter_map (struct_of ts) ks))
names_apart ts [] once = distinct_nil
names_apart ts (k ∷ ks) once = by k once (names_apart ts ks (λ i j n c d p q. let e = once (suc i) (suc j) n c d p q in omega (arith, e)))
  where
    by : (l : TypeKind) → IsOnceNamed (l ∷ ks) → IsDistinctList (map (λ (s : NamedStruct). s.name) (filter_map (struct_of ts) ks)) → IsDistinctList (map (λ (s : NamedStruct). s.name) (cons_option (struct_of ts l) (filter_map (struct_of ts) ks)))
    by (Named m b) once rest = distinct_first m (map (λ (s : NamedStruct). s.name) (filter_map (struct_of ts) ks))
        (λ i at. let there = name_kind ts ks i m at in let wrong : 0 ≡ suc there.0 = once 0 (suc there.0) m b there.1 refl there.2 in absurd (omega (arith, wrong))) rest
    by l once rest = rest

pub stored_apart : (ks : List TypeKind) → IsStored ks → IsDistinctList (map (λ (s : NamedStruct). s.name) (structs_of ks))
stored_apart ks ok = names_apart (type_trees ks) ks ok.once

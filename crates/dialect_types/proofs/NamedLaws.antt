-- The structs with a name of a list of kinds: one that grows keeps them, and each is found by its name, also when it is asked for.
use Rattle.std.proofs.Common.{◌≡◌, ◌≢◌, ◌≤◌, ◌⊎◌, ℕ, zero, suc, Bool, true, false, Option, Some, None, List, [], ◌∷◌, ◌++◌, All, length, get_or, slice_get, if◌then◌else◌, ap, sym, ◌∙◌, refl, arith, inl, inr, subst}
use Rattle.std.specs.List.{filter_map, cons_option}
use Rattle.std.specs.Option.{option_map}
use Rattle.std.specs.Str.{bytes_eq}
use Rattle.std.specs.Prelude.{IfSome, Result, Ok, Err, IfOk, IfErr, OnOk}
use Rattle.std.proofs.lemmas.List.Elements.{All-head, All-tail, filter_map-append}
use Rattle.std.proofs.lemmas.Option.{slice_get-get_or, slice_get_within, same_Some}
use Rattle.std.proofs.lemmas.Slice.Eq.{bytes_eq-Decides}
use Rattle.support.proofs.ListLaws.{slice_get-push_cases}
use Rattle.support.specs.Interned.{Interned}
use Rattle.kinds.specs.declared.types.StructLayout.{StructLayout}
use Rattle.kinds.specs.Structs.{StructBody, struct_in}
use Rattle.kinds.proofs.NestLaws.{found_last}
use Rattle.dialect_types.specs.declared.types.TypeHandle.{TypeHandle}
use Rattle.dialect_types.specs.declared.types.StructFields.{StructFields}
use Rattle.dialect_types.specs.declared.types.TypeKind.{TypeKind}
use Rattle.dialect_types.specs.declared.types.TypeKind.TheVariants.{Array, Vector, Struct, Named, Func}
use Rattle.dialect_types.specs.declared.struct_err.StructErr.{StructErr}
use Rattle.dialect_types.specs.declared.struct_err.StructErr.TheVariants as E
use Rattle.dialect_types.specs.Names.{IsIdentifier}
use Rattle.dialect_types.specs.Trees.{HasIdentifiers, TypeTree, TypeTrees, NamedStruct, type_trees, fields_of, struct_of, structs_of, is_named, AllBelow, HasPartsBelow, IsGrounded, IsOnceNamed, IsDistinctAsTrees, IsStructPut, HasOtherBody}
use Rattle.dialect_types.proofs.TextLemmas.{AllBelow-more}
use Rattle.dialect_types.proofs.TreeLemmas.{AgreeBelow, kept_tree, same_parts, same_lists}

-- ---- structs of a list of kinds

-- trees that agree below n give the same struct of a kind with parts below n
same_struct : (ts us : List TypeTree) (n : ℕ) → AgreeBelow ts us n → (k : TypeKind) → HasPartsBelow n k → struct_of ts k ≡ struct_of us k
same_struct ts us n same (Named name None) h = refl
same_struct ts us n same (Named name (Some b)) h =
    ap (λ (fs : TypeTrees). let s : NamedStruct = record { name = name; body = Some (record { fields = fs; layout = b.layout }) } in Some s) (same_parts ts us n same b.types h)
same_struct ts us n same k h = refl

same_structs : (ts us : List TypeTree) (n : ℕ) → AgreeBelow ts us n → (ks : List TypeKind) → All (HasPartsBelow n) ks → filter_map (struct_of ts) ks ≡ filter_map (struct_of us) ks
same_structs ts us n same [] h = refl
same_structs ts us n same (k ∷ ks) h =
    let e = same_struct ts us n same k (All-head (HasPartsBelow n) k ks h) in
    let f = same_structs ts us n same ks (All-tail (HasPartsBelow n) k ks h) in
    cc

parts_more : (n m : ℕ) → n ≤ m → (k : TypeKind) → HasPartsBelow n k → HasPartsBelow m k
parts_more n m le (Array t count) h = omega arith
parts_more n m le (Vector t count kind) h = omega arith
parts_more n m le (Struct fields layout) h = AllBelow-more n m fields le h
parts_more n m le (Named name None) h = h
parts_more n m le (Named name (Some b)) h = AllBelow-more n m b.types le h
parts_more n m le (Func result params variadic) h = (omega (arith, h.0), AllBelow-more n m params le h.1)
parts_more n m le k h = h

all_parts : (ks : List TypeKind) → IsGrounded ks → All (HasPartsBelow (length ks)) ks
all_parts ks ok i d within = parts_more i (length ks) (omega arith) (get_or ks i d) (ok i (get_or ks i d) (slice_get-get_or ks i d within))

agree_old : (ks : List TypeKind) (k : TypeKind) → AgreeBelow (type_trees (ks ++ k ∷ [])) (type_trees ks) (length ks)
agree_old ks k j below = kept_tree ks (k ∷ []) (record { 0 = j }) below

-- a store with one more type has one more struct where it is one
pub structs_grown : (ks : List TypeKind) (k : TypeKind) → IsGrounded ks → structs_of (ks ++ k ∷ []) ≡ structs_of ks ++ cons_option (struct_of (type_trees (ks ++ k ∷ [])) k) []
structs_grown ks k ok =
    let longer = type_trees (ks ++ k ∷ []) in
    filter_map-append (struct_of longer) ks (k ∷ [])
    ∙ ap (λ (ss : List NamedStruct). ss ++ cons_option (struct_of longer k) []) (same_structs longer (type_trees ks) (length ks) (agree_old ks k) ks (all_parts ks ok))

plain_struct : (ts : List TypeTree) (k : TypeKind) → is_named k ≡ false → struct_of ts k ≡ None
plain_struct ts (Named name body) h = cc
plain_struct ts k h = refl

append_none : (ss : List NamedStruct) → ss ++ [] ≡ ss
append_none [] = refl
append_none (s ∷ ss) = ap (λ (r : List NamedStruct). s ∷ r) (append_none ss)

-- a type that is no struct with a name leaves them
pub still_structs : (old new : List TypeKind) (k : TypeKind) (n : ℕ) → IsGrounded old → is_named k ≡ false → Interned old new k n → structs_of new ≡ structs_of old
still_structs old new k n ok plain h = elim h.only [
  | inl same ↦ ap structs_of same
  | inr grown ↦ ap structs_of grown ∙ structs_grown old k ok
      ∙ ap (λ (o : Option NamedStruct). structs_of old ++ cons_option o []) (plain_struct (type_trees (old ++ k ∷ [])) k plain) ∙ append_none (structs_of old)
]

-- ---- a struct by its name

-- no struct of the kinds has the name
abbrev pub IsFresh : List TypeKind → List ℕ → Type 0
IsFresh ks name = (t : ℕ) (b : Option StructFields) → ¬ (slice_get ks t ≡ Some (Named name b))

-- a kind is no struct whose name is there
abbrev pub IsFreshKind : List TypeKind → TypeKind → Type 0
IsFreshKind ks k = (name : List ℕ) (b : Option StructFields) → k ≡ Named name b → IsFresh ks name

pub plain_fresh : (ks : List TypeKind) (k : TypeKind) → is_named k ≡ false → IsFreshKind ks k
plain_fresh ks k plain name b is = let e = ap is_named is in cc

pub named_fresh : (ks : List TypeKind) (name : List ℕ) (b : Option StructFields) → IsFresh ks name → IsFreshKind ks (Named name b)
named_fresh ks name b fresh n c is = let e : name ≡ n = cc in subst (IsFresh ks) e fresh

-- a kind has an identifier for its name, where it is a struct with one
abbrev pub IsSpelled : TypeKind → Type 0
IsSpelled k = (name : List ℕ) (b : Option StructFields) → k ≡ Named name b → IsIdentifier name

pub plain_spelled : (k : TypeKind) → is_named k ≡ false → IsSpelled k
plain_spelled k plain name b is = let e = ap is_named is in absurd (cc)

pub named_spelled : (name : List ℕ) (b : Option StructFields) → IsIdentifier name → IsSpelled (Named name b)
named_spelled name b legal n c is = let e : name ≡ n = cc in subst IsIdentifier e legal

pub spelled_grown : (ks : List TypeKind) (k : TypeKind) → HasIdentifiers ks → IsSpelled k → HasIdentifiers (ks ++ k ∷ [])
spelled_grown ks k ok own t n b at = elim (slice_get-push_cases ks k t (Named n b) at) [
  | inl old ↦ ok t n b old
  | inr new ↦ own n b (sym new.1)
]

-- a kind that is no struct of the name is passed over
passed : (ts : List TypeTree) (k : TypeKind) (name : List ℕ) (rest : List NamedStruct) → ((b : Option StructFields) → ¬ (k ≡ Named name b)) → struct_in (cons_option (struct_of ts k) rest) name ≡ struct_in rest name
passed ts (Named n b) name rest other = test (bytes_eq n name) refl (record { name = n; body = option_map (fields_of ts) b })
  where
    test : (x : Bool) → bytes_eq n name ≡ x → (s : NamedStruct) → (if x then Some s else struct_in rest name) ≡ struct_in rest name
    test true is s = absurd (other b (ap (λ (m : List ℕ). Named m b) ((bytes_eq-Decides n name).0 is)))
    test false is s = refl
passed ts k name rest other = refl

pub absent : (ts : List TypeTree) (ks : List TypeKind) (name : List ℕ) → IsFresh ks name → struct_in (filter_map (struct_of ts) ks) name ≡ None
absent ts [] name fresh = refl
absent ts (k ∷ ks) name fresh = passed ts k name (filter_map (struct_of ts) ks) (λ b is. fresh 0 b (ap Some is)) ∙ absent ts ks name (λ t. fresh (suc t))

-- a struct stands first under its name
first_there : (ts : List TypeTree) (k : TypeKind) (name : List ℕ) (b : Option StructFields) (rest : List NamedStruct) → k ≡ Named name b → struct_in (cons_option (struct_of ts k) rest) name ≡ Some (record { name = name; body = option_map (fields_of ts) b })
first_there ts k name b rest is =
    let s : NamedStruct = record { name = name; body = option_map (fields_of ts) b } in
    ap (λ (k : TypeKind). struct_in (cons_option (struct_of ts k) rest) name) is ∙ ap (λ (x : Bool). if x then Some s else struct_in rest name) ((bytes_eq-Decides name name).1 refl)

-- a struct of the kinds is found by its name
pub found_there : (ts : List TypeTree) (ks : List TypeKind) → IsOnceNamed ks → (t : ℕ) (name : List ℕ) (b : Option StructFields) → slice_get ks t ≡ Some (Named name b)
    → struct_in (filter_map (struct_of ts) ks) name ≡ Some (record { name = name; body = option_map (fields_of ts) b })
found_there ts [] once t name b at = cc
found_there ts (k ∷ ks) once zero name b at = first_there ts k name b (filter_map (struct_of ts) ks) (same_Some k (Named name b) at)
found_there ts (k ∷ ks) once (suc t) name b at =
    passed ts k name (filter_map (struct_of ts) ks) (λ c is. let wrong : 0 ≡ suc t = once 0 (suc t) name c b (ap Some is) at in absurd (omega (arith, wrong)))
    ∙ found_there ts ks (λ i j n c d p q. let e = once (suc i) (suc j) n c d p q in omega (arith, e)) t name b at

-- the struct is one of the kinds
abbrev pub IsKindOf : List TypeTree → List TypeKind → List ℕ → NamedStruct → Type 0
IsKindOf ts ks name s = (t : ℕ) × (b : Option StructFields) × (slice_get ks t ≡ Some (Named name b)) × (s ≡ record { name = name; body = option_map (fields_of ts) b })

-- what is found by a name is one of the kinds
pub kind_found : (ts : List TypeTree) (ks : List TypeKind) (name : List ℕ) (s : NamedStruct) → struct_in (filter_map (struct_of ts) ks) name ≡ Some s → IsKindOf ts ks name s
kind_found ts [] name s h = cc
kind_found ts (k ∷ ks) name s h = by k (filter_map (struct_of ts) ks) (λ e. let r = kind_found ts ks name s e in (suc r.0, r.1, r.2, r.3)) h
  where
    test : (n : List ℕ) (b : Option StructFields) (x : Bool) → bytes_eq n name ≡ x → (u : NamedStruct) → u ≡ record { name = n; body = option_map (fields_of ts) b } → (rest : List NamedStruct)
        → (struct_in rest name ≡ Some s → IsKindOf ts (Named n b ∷ ks) name s) → (if x then Some u else struct_in rest name) ≡ Some s → IsKindOf ts (Named n b ∷ ks) name s
    test n b true is u e rest later h =
        let same = (bytes_eq-Decides n name).0 is in (
          0,
          b,
          ap (λ (m : List ℕ). Some (Named m b)) same,
          sym (same_Some u s h) ∙ e ∙ ap (λ (m : List ℕ). let t : NamedStruct = record { name = m; body = option_map (fields_of ts) b } in t) same,
        )
    test n b false is u e rest later h = later h

    by : (l : TypeKind) (rest : List NamedStruct) → (struct_in rest name ≡ Some s → IsKindOf ts (l ∷ ks) name s) → struct_in (cons_option (struct_of ts l) rest) name ≡ Some s → IsKindOf ts (l ∷ ks) name s
    by (Named n b) rest later h = test n b (bytes_eq n name) refl (record { name = n; body = option_map (fields_of ts) b }) refl rest later h
    by l rest later h = later h

-- a struct that is new is found by its name
pub found_new : (ks : List TypeKind) (k : TypeKind) → IsGrounded ks → IsFreshKind ks k → (name : List ℕ) (b : Option StructFields) → k ≡ Named name b
    → struct_in (structs_of (ks ++ k ∷ [])) name ≡ Some (record { name = name; body = option_map (fields_of (type_trees (ks ++ k ∷ []))) b })
found_new ks k ok fresh name b is =
    let longer = type_trees (ks ++ k ∷ []) in
    let s : NamedStruct = record { name = name; body = option_map (fields_of longer) b } in
    let one : struct_of longer k ≡ Some s = ap (struct_of longer) is in
    ap (λ (ss : List NamedStruct). struct_in ss name) (structs_grown ks k ok ∙ ap (λ (o : Option NamedStruct). structs_of ks ++ cons_option o []) one)
    ∙ found_last (structs_of ks) s (absent (type_trees ks) ks name (fresh name b is))

-- a store keeps one struct of a name
pub once_grown : (ks : List TypeKind) (k : TypeKind) → IsOnceNamed ks → IsFreshKind ks k → IsOnceNamed (ks ++ k ∷ [])
once_grown ks k once fresh i j n b c at also = by (slice_get-push_cases ks k i (Named n b) at) (slice_get-push_cases ks k j (Named n c) also)
  where
    by : (slice_get ks i ≡ Some (Named n b)) ⊎ ((i ≡ length ks) × (Named n b ≡ k)) → (slice_get ks j ≡ Some (Named n c)) ⊎ ((j ≡ length ks) × (Named n c ≡ k)) → i ≡ j
    by (inl p) (inl q) = once i j n b c p q
    by (inl p) (inr q) = absurd (fresh n c (sym q.1) i b p)
    by (inr p) (inl q) = absurd (fresh n b (sym p.1) j c q)
    by (inr p) (inr q) = p.0 ∙ sym q.0

-- ---- after a struct with a name was asked for

-- one that is there
pub struct_kept : {E : Type 0} (r : Result TypeHandle E) (ks : List TypeKind) (name : List ℕ) (body : Option StructFields) (t : TypeHandle) → IsOnceNamed ks
    → IfOk r (λ (u : TypeHandle). (u ≡ t) × (slice_get ks t.0 ≡ Some (Named name body)))
    → OnOk r (IsStructPut (structs_of ks) (structs_of ks) (record { name = name; body = option_map (fields_of (type_trees ks)) body }))
struct_kept (Ok u) ks name body t once h = inl (refl, found_there (type_trees ks) ks once t.0 name body h.1)
struct_kept (Err fault) ks name body t once h = tt

-- one that is new
pub struct_new : (ks : List TypeKind) (name : List ℕ) (b : Option StructFields) → IsGrounded ks → HasPartsBelow (length ks) (Named name b) → IsFresh ks name
    → IsStructPut (structs_of ks) (structs_of (ks ++ Named name b ∷ [])) (record { name = name; body = option_map (fields_of (type_trees ks)) b })
struct_new ks name b ok parts fresh =
    let longer = type_trees (ks ++ Named name b ∷ []) in
    inr (
      structs_grown ks (Named name b) ok
          ∙ ap (λ (o : Option NamedStruct). structs_of ks ++ cons_option o []) (same_struct longer (type_trees ks) (length ks) (agree_old ks (Named name b)) (Named name b) parts),
      absent (type_trees ks) ks name fresh,
    )

pub struct_put : (old new : List TypeKind) (name : List ℕ) (b : Option StructFields) (n : ℕ) → IsGrounded old → HasPartsBelow (length old) (Named name b) → IsFresh old name → Interned old new (Named name b) n
    → IsStructPut (structs_of old) (structs_of new) (record { name = name; body = option_map (fields_of (type_trees old)) b })
struct_put old new name b n ok parts fresh h = elim h.only [
  | inl same ↦ absurd (fresh n b (subst (λ (ks : List TypeKind). slice_get ks n ≡ Some (Named name b)) same h.here))
  | inr grown ↦ subst (λ (ks : List TypeKind). IsStructPut (structs_of old) (structs_of ks) (record { name = name; body = option_map (fields_of (type_trees old)) b })) (sym grown) (struct_new old name b ok parts fresh)
]

-- a body is known by its fields, read as trees
same_fields : (ks : List TypeKind) → IsDistinctAsTrees ks → (b c : StructFields) → AllBelow (length ks) b.types → AllBelow (length ks) c.types → fields_of (type_trees ks) b ≡ fields_of (type_trees ks) c → b ≡ c
same_fields ks apart b c p q e =
    let types = same_lists (type_trees ks) (length ks) (length ks) (λ i j here there same. apart (record { 0 = i }) (record { 0 = j }) here there same) b.types c.types p q (ap (λ (x : StructBody). x.fields) e) in
    ap (λ (ts : List TypeHandle). let x : StructFields = record { types = ts; layout = b.layout } in x) types
    ∙ ap (λ (l : StructLayout). let x : StructFields = record { types = c.types; layout = l } in x) (ap (λ (x : StructBody). x.layout) e)

same_body : (ks : List TypeKind) → IsDistinctAsTrees ks → (b c : Option StructFields) → IfSome b (λ (b : StructFields). AllBelow (length ks) b.types) → IfSome c (λ (c : StructFields). AllBelow (length ks) c.types)
    → option_map (fields_of (type_trees ks)) b ≡ option_map (fields_of (type_trees ks)) c → b ≡ c
same_body ks apart None None p q e = refl
same_body ks apart None (Some c) p q e = cc
same_body ks apart (Some b) None p q e = cc
same_body ks apart (Some b) (Some c) p q e = ap Some (same_fields ks apart b c p q (same_Some (fields_of (type_trees ks) b) (fields_of (type_trees ks) c) e))

-- one of another body
pub struct_other : (ks : List TypeKind) (name : List ℕ) (b body : Option StructFields) (t : ℕ) → IsGrounded ks → IsOnceNamed ks → IsDistinctAsTrees ks → HasPartsBelow (length ks) (Named name body) → slice_get ks t ≡ Some (Named name b) → b ≢ body
    → HasOtherBody (structs_of ks) (record { name = name; body = option_map (fields_of (type_trees ks)) body })
struct_other ks name b body t ok once apart parts at other =
    let within = slice_get_within ks t (Named name b) at in (
      record { name = name; body = option_map (fields_of (type_trees ks)) b },
      found_there (type_trees ks) ks once t name b at,
      λ same. other (same_body ks apart b body (parts_more t (length ks) (omega arith) (Named name b) (ok t (Named name b) at)) parts (ap (λ (s : NamedStruct). s.body) same)),
    )

pub refused_other : (r : Result TypeHandle StructErr) (ks : List TypeKind) (name : List ℕ) (body : Option StructFields) (t : TypeHandle) (b : Option StructFields) → IsGrounded ks → IsOnceNamed ks → IsDistinctAsTrees ks
    → HasPartsBelow (length ks) (Named name body) → slice_get ks t.0 ≡ Some (Named name b)
    → IfErr r (λ (e : StructErr). (e ≡ E.DifferentBody name) × ((b : Option StructFields) → slice_get ks t.0 ≡ Some (Named name b) → b ≢ body))
    → IfErr r (λ (e : StructErr). (n : List ℕ) → e ≡ E.DifferentBody n → (n ≡ name) × HasOtherBody (structs_of ks) (record { name = name; body = option_map (fields_of (type_trees ks)) body }))
refused_other (Ok u) ks name body t b ok once apart parts at h = tt
refused_other (Err fault) ks name body t b ok once apart parts at h =
    λ n is. (let e : E.DifferentBody n ≡ E.DifferentBody name = sym is ∙ h.0 in cc, struct_other ks name b body t.0 ok once apart parts at (h.1 b at))

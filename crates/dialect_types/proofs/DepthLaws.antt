-- How deep the types of a store nest: what is enough for the parts of a type is enough for it.
use Rattle.std.proofs.Common.{◌≡◌, ◌<◌, ◌≤◌, ◌+◌, ◌⊎◌, max, below_more, ℕ, zero, suc, Bool, true, false, Option, Some, None, List, [], ◌∷◌, ◌++◌, All, length, take, get_or, slice_get, ap, sym, ◌∙◌, refl, arith, inl, inr, subst, length-append}
use Rattle.std.specs.List.{cons_option}
use Rattle.std.specs.Option.{option_map, option_map_or}
use Rattle.std.specs.Prelude.{IfSome}
use Rattle.std.proofs.lemmas.List.{take-append-le, length-take-le}
use Rattle.std.proofs.lemmas.List.Elements.{All-from_get_or, All-weaker}
use Rattle.std.proofs.lemmas.Option.{slice_get-get_or, slice_get_within, get_or_from_slice_get, same_Some}
use Rattle.support.proofs.ListLaws.{slice_get-push, slice_get-push_cases, slice_get-take}
use Rattle.support.specs.Interned.{Interned}
use Rattle.kinds.specs.declared.types.StructLayout.{StructLayout}
use Rattle.kinds.specs.Held.{deepest, too_deep, IsShallow}
use Rattle.kinds.specs.Structs.{each_type, each_field, nests, struct_in, IsNested}
use Rattle.kinds.proofs.NestLaws.{nests_from, nests_longer, nested_shallow}
use Rattle.dialect_types.specs.declared.types.TypeHandle.{TypeHandle}
use Rattle.dialect_types.specs.declared.types.StructFields.{StructFields}
use Rattle.dialect_types.specs.declared.types.TypeKind.{TypeKind}
use Rattle.dialect_types.specs.declared.types.TypeKind.TheVariants.{Struct, Named, Func}
use Rattle.dialect_types.specs.Trees.{TypeTree, VoidType, NamedType, NamedStruct, type_at, types_at, type_tree, type_trees, fields_of, struct_of, structs_of, AllBelow, HasPartsBelow, IsGrounded}
use Rattle.dialect_types.specs.Stored.{AreDepths, AreEnough, NestsAs, IsDepthOf}
use Rattle.dialect_types.proofs.TreeLemmas.{length-trees_after, kept_tree, still_grounded, tree_of_kind}
use Rattle.dialect_types.proofs.NamedLaws.{structs_grown, IsFreshKind, found_new}

-- ---- depths

-- what is enough for a type's parts is enough for it
as_nests : (ss : List NamedStruct) (ts : List TypeTree) (d : ℕ) (k : TypeKind)
    → ((name : List ℕ) (b : Option StructFields) → k ≡ Named name b → struct_in ss name ≡ Some (record { name = name; body = option_map (fields_of ts) b }))
    → NestsAs ss ts d k → nests ss d (type_tree ts k) ≡ true
as_nests ss ts d (Named name body) found h =
    let m = h.0 in
    subst (λ (n : ℕ). nests ss n (NamedType name) ≡ true) (sym h.1)
    (subst (λ (o : Option NamedStruct). option_map_or (each_field (nests ss m)) o false ≡ true) (sym (found name body refl)) (by body m h.2))
  where
    by : (b : Option StructFields) (m : ℕ) → IfSome b (λ (b : StructFields). each_type (nests ss m) (types_at ts b.types) ≡ true) → each_field (nests ss m) (record { name = name; body = option_map (fields_of ts) b }) ≡ true
    by None m h = refl
    by (Some b) m h = h
as_nests ss ts d k found h = h

-- a type that was there nests as deep, where there is one more
old_nests : (ks : List TypeKind) (k : TypeKind) → IsGrounded ks → (t : TypeHandle) (d : ℕ) → t.0 < length ks → nests (structs_of ks) d (type_at (type_trees ks) t) ≡ true
    → nests (structs_of (ks ++ k ∷ [])) d (type_at (type_trees (ks ++ k ∷ [])) t) ≡ true
old_nests ks k ok t d within h =
    let longer = type_trees (ks ++ k ∷ []) in
    let more = cons_option (struct_of longer k) [] in
    subst (λ (ss : List NamedStruct). nests ss d (type_at longer t) ≡ true) (sym (structs_grown ks k ok))
    (subst (λ (u : TypeTree). nests (structs_of ks ++ more) d u ≡ true) (sym (kept_tree ks (k ∷ []) t within)) (nests_longer (structs_of ks) more d (type_at (type_trees ks) t) h))

get_front : (n : ℕ) (xs ys : List ℕ) (i x : ℕ) → take n xs ≡ take n ys → i < n → slice_get xs i ≡ Some x → slice_get ys i ≡ Some x
get_front n xs ys i x same below at = (slice_get-take n ys i x (ap (λ (zs : List ℕ). slice_get zs i) (sym same) ∙ cut n xs i below ∙ at)).1
  where
    cut : (n : ℕ) (xs : List ℕ) (i : ℕ) → i < n → slice_get (take n xs) i ≡ slice_get xs i
    cut zero xs i h = absurd (omega arith)
    cut (suc n) [] i h = refl
    cut (suc n) (x ∷ xs) zero h = refl
    cut (suc n) (x ∷ xs) (suc i) h = cut n xs i (omega arith)

-- depths of which those of the types stay
pub depths_kept : (ks : List TypeKind) (ds es : List ℕ) → AreDepths ks ds → take (length ks) es ≡ take (length ks) ds → AreDepths ks es
depths_kept ks ds es ok same t d within at = ok t d within (get_front (length ks) es ds t.0 d same within at)

-- and one that is enough comes behind them
pub depths_grown : (ks : List TypeKind) (k : TypeKind) (ds es : List ℕ) (d : ℕ) → IsGrounded ks → HasPartsBelow (length ks) k → IsFreshKind ks k → AreDepths ks ds
    → take (length ks) es ≡ take (length ks) ds → slice_get es (length ks) ≡ Some d → IsDepthOf k (take (length ks) ds) d → AreDepths (ks ++ k ∷ []) es
depths_grown ks k ds es d ok parts fresh old same last new t e within at = by (slice_get-push_cases ks k t.0 (get_or (ks ++ k ∷ []) t.0 k) (slice_get-get_or (ks ++ k ∷ []) t.0 k within))
  where
    n : ℕ
    n = length ks

    longer : List TypeTree
    longer = type_trees (ks ++ k ∷ [])

    enough : AreEnough (structs_of (ks ++ k ∷ [])) (type_trees (ks ++ k ∷ [])) (take (length ks) ds)
    enough u x here =
        let there = slice_get-take (length ks) ds u.0 x here in
        old_nests ks k ok u x there.0 (old u x there.0 there.1)

    own : nests (structs_of (ks ++ k ∷ [])) d (type_tree (type_trees (ks ++ k ∷ [])) k) ≡ true
    own = as_nests (structs_of (ks ++ k ∷ [])) (type_trees (ks ++ k ∷ [])) d k (found_new ks k ok fresh) (new (structs_of (ks ++ k ∷ [])) (type_trees (ks ++ k ∷ [])) enough)

    by : {x : TypeKind} → (slice_get ks t.0 ≡ Some x) ⊎ ((t.0 ≡ length ks) × (x ≡ k)) → nests (structs_of (ks ++ k ∷ [])) e (type_at (type_trees (ks ++ k ∷ [])) t) ≡ true
    by {x} (inl p) =
        let below = slice_get_within ks t.0 x p in
        old_nests ks k ok t e below (old t e below (get_front (length ks) es ds t.0 e same below at))
    by (inr p) =
        let same_depth : d ≡ e = same_Some d e (sym last ∙ ap (slice_get es) (sym p.0) ∙ at) in
        let grown : Interned ks (ks ++ k ∷ []) k (length ks) = record { here = slice_get-push ks k (length ks) refl; only = inr refl } in
        let tree = tree_of_kind (ks ++ k ∷ []) (still_grounded ks (ks ++ k ∷ []) k (length ks) ok parts grown) t k (slice_get-push ks k t.0 p.0) in
        subst (λ (u : TypeTree). nests (structs_of (ks ++ k ∷ [])) e u ≡ true) (sym tree)
        (subst (λ (x : ℕ). nests (structs_of (ks ++ k ∷ [])) x (type_tree (type_trees (ks ++ k ∷ [])) k) ≡ true) same_depth own)

-- with a depth for each, none of which is too deep, each type nests
pub all_nested : (ks : List TypeKind) (ds : List ℕ) → AreDepths ks ds → length ks ≤ length ds → All (λ (d : ℕ). d ≤ deepest) ds → All (IsNested (structs_of ks)) (type_trees ks)
all_nested ks ds ok long few = All-from_get_or (IsNested (structs_of ks)) (type_trees ks) VoidType
    (λ (i : ℕ) (within : i < length (type_trees ks)).
    let here : i < length ks = omega (arith, length-trees_after [] ks) in
    let there : i < length ds = omega arith in
    nests_from (structs_of ks) (get_or ds i 0) deepest (get_or (type_trees ks) i VoidType) (few i 0 there) (ok (record { 0 = i }) (get_or ds i 0) here (slice_get-get_or ds i 0 there)))

pub all_shallow : (ks : List TypeKind) → All (IsNested (structs_of ks)) (type_trees ks) → All IsShallow (type_trees ks)
all_shallow ks h = All-weaker (IsNested (structs_of ks)) IsShallow (nested_shallow (structs_of ks)) (type_trees ks) h

-- ---- what is enough for a type, by what is for its parts

-- of the first i types each has a depth of at most n
abbrev pub AreCovered : List TypeHandle → List ℕ → ℕ → ℕ → Type 0
AreCovered types ds i n = (j : ℕ) → j < i → (t : TypeHandle) → slice_get types j ≡ Some t → (d : ℕ) → slice_get ds t.0 ≡ Some d → d ≤ n

pub covered_more : (types : List TypeHandle) (ds : List ℕ) (i n m : ℕ) → AreCovered types ds i n → m ≡ max n (get_or ds (get_or types i (record { 0 = 0 })).0 0) → AreCovered types ds (i + 1) m
covered_more types ds i n m h e = below_more (λ (j : ℕ). (t : TypeHandle) → slice_get types j ≡ Some t → (d : ℕ) → slice_get ds t.0 ≡ Some d → d ≤ m) i
    (λ j lt t at d there. omega (arith, h j lt t at d there, e))
    (λ t at d there.
    let own : get_or ds (get_or types i (record { 0 = 0 })).0 0 ≡ d = ap (λ (x : TypeHandle). get_or ds x.0 0) (get_or_from_slice_get types i t (record { 0 = 0 }) at) ∙ get_or_from_slice_get ds t.0 d 0 there in
    omega (arith, own, e))

each_enough : (ss : List NamedStruct) (ts : List TypeTree) (ds : List ℕ) → AreEnough ss ts ds → (types : List TypeHandle) (n : ℕ) → AllBelow (length ds) types
    → ((t : TypeHandle) (i : ℕ) → slice_get types i ≡ Some t → (d : ℕ) → slice_get ds t.0 ≡ Some d → d ≤ n) → each_type (nests ss n) (types_at ts types) ≡ true
each_enough ss ts ds enough [] n below covered = refl
each_enough ss ts ds enough (t ∷ types) n below covered =
    let at = slice_get-get_or ds t.0 0 below.0 in
    let a = nests_from ss (get_or ds t.0 0) n (type_at ts t) (covered t 0 refl (get_or ds t.0 0) at) (enough t (get_or ds t.0 0) at) in
    let b = each_enough ss ts ds enough types n below.1 (λ u i. covered u (suc i)) in
    cc

-- at most n is enough for each of the types
abbrev pub CoversAll : List TypeHandle → List ℕ → ℕ → Type 0
CoversAll types ds n = (t : TypeHandle) (i : ℕ) → slice_get types i ≡ Some t → (d : ℕ) → slice_get ds t.0 ≡ Some d → d ≤ n

pub struct_depth : (ds : List ℕ) (fields : List TypeHandle) (layout : StructLayout) (n d : ℕ) → AllBelow (length ds) fields → CoversAll fields ds n → d ≡ 1 + n → IsDepthOf (Struct fields layout) ds d
struct_depth ds fields layout n d below covered e ss ts enough =
    let s : d ≡ suc n = omega arith in
    subst (λ (n : ℕ). nests ss n (type_tree ts (Struct fields layout)) ≡ true) (sym s) (each_enough ss ts ds enough fields n below covered)

pub named_depth : (ds : List ℕ) (name : List ℕ) (b : StructFields) (n d : ℕ) → AllBelow (length ds) b.types → CoversAll b.types ds n → d ≡ 1 + n → IsDepthOf (Named name (Some b)) ds d
named_depth ds name b n d below covered e ss ts enough = (n, omega arith, each_enough ss ts ds enough b.types n below covered)

pub func_depth : (ds : List ℕ) (r : TypeHandle) (ps : List TypeHandle) (v : Bool) (n d : ℕ) → r.0 < length ds → AllBelow (length ds) ps → CoversAll ps ds n → d ≡ 1 + max (get_or ds r.0 0) n → IsDepthOf (Func r ps v) ds d
func_depth ds r ps v n d within below covered e ss ts enough =
    let m = max (get_or ds r.0 0) n in
    let s : d ≡ suc m = omega arith in
    let a = nests_from ss (get_or ds r.0 0) m (type_at ts r) (omega arith) (enough r (get_or ds r.0 0) (slice_get-get_or ds r.0 0 within)) in
    let b = each_enough ss ts ds enough ps m below (λ t i at x there. omega (arith, covered t i at x there)) in
    let both : nests ss (suc m) (type_tree ts (Func r ps v)) ≡ true = cc in
    subst (λ (n : ℕ). nests ss n (type_tree ts (Func r ps v)) ≡ true) (sym s) both

-- ---- depths that are noted

take_again : (n : ℕ) (xs : List ℕ) → take n (take n xs) ≡ take n xs
take_again zero xs = refl
take_again (suc n) [] = refl
take_again (suc n) (x ∷ xs) = ap (λ (ys : List ℕ). x ∷ ys) (take_again n xs)

-- a list that was cut at n is as it was below n, also with one more behind
pub cut_kept : (n : ℕ) (old new : List ℕ) → new ≡ take n old → take n new ≡ take n old
cut_kept n old new e = ap (take n) e ∙ take_again n old

pub cut_pushed : (n d : ℕ) (old new : List ℕ) → n ≤ length old → new ≡ take n old ++ d ∷ [] → take n new ≡ take n old
cut_pushed n d old new long e = ap (take n) e ∙ take-append-le n (take n old) (d ∷ []) (omega (arith, length-take-le n old long)) ∙ take_again n old

pub cut_last : (n d : ℕ) (old new : List ℕ) → n ≤ length old → new ≡ take n old ++ d ∷ [] → slice_get new n ≡ Some d
cut_last n d old new long e = ap (λ (xs : List ℕ). slice_get xs n) e ∙ slice_get-push (take n old) d n (sym (length-take-le n old long))

pub length_cut : (n d : ℕ) (old new : List ℕ) → n ≤ length old → new ≡ take n old ++ d ∷ [] → length new ≡ n + 1
length_cut n d old new long e = ap length e ∙ (omega (arith, length-append (take n old) (d ∷ []), length-take-le n old long))

pub not_deep : (d : ℕ) → too_deep d ≡ false → d ≤ deepest
unfolding too_deep
not_deep d h = grind arith

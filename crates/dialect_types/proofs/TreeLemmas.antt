-- Trees of types: a store that grows keeps them, a number's tree is that of its kind, and equal trees have equal numbers.
use Rattle.std.proofs.Common.{◌≡◌, ◌<◌, ◌+◌, ℕ, zero, suc, Option, List, [], ◌∷◌, ◌++◌, Some, length, slice_get, get_or, ap, sym, ◌∙◌, refl, arith, length-append, inl, inr, ◌⊎◌, subst}
use Rattle.std.proofs.lemmas.Option.{slice_get-get_or, same_Some}
use Rattle.std.proofs.Math.ListN.{get_or-append}
use Rattle.dialect_types.specs.declared.types.TypeHandle.{TypeHandle}
use Rattle.dialect_types.specs.declared.types.StructFields.{StructFields}
use Rattle.dialect_types.specs.declared.types.TypeKind.{TypeKind}
use Rattle.dialect_types.specs.declared.types.TypeKind.TheVariants.{Integer, Array, Vector, Struct, Named, Func, Void}
use Rattle.support.specs.Interned.{Interned, IsDistinctList}
use Rattle.dialect_types.specs.Trees.{TypeTree, VoidType, IntType, FunctionType, trees_after, type_at, types_at, type_tree, type_trees, AllBelow, HasPartsBelow, IsGrounded, IsOnceNamed, IsDistinctAsTrees}
use Rattle.dialect_types.proofs.KeyLemmas.{same_handle}

-- more types leave the trees of the earlier ones
pub trees_after-append : (done : List TypeTree) (ks ls : List TypeKind) → trees_after type_tree done (ks ++ ls) ≡ trees_after type_tree (trees_after type_tree done ks) ls
trees_after-append done [] ls = refl
trees_after-append done (k ∷ ks) ls = trees_after-append _ ks ls

pub length-trees_after : (done : List TypeTree) (ks : List TypeKind) → length (trees_after type_tree done ks) ≡ length done + length ks
length-trees_after done [] = omega arith
length-trees_after done (k ∷ ks) =
    let one = done ++ type_tree done k ∷ [] in
    omega (arith, length-trees_after one ks, length-append done (type_tree done k ∷ []))

kept : (done : List TypeTree) (ks : List TypeKind) (i : ℕ) → i < length done → get_or (trees_after type_tree done ks) i VoidType ≡ get_or done i VoidType
kept done [] i h = refl
kept done (k ∷ ks) i h =
    let one = done ++ type_tree done k ∷ [] in
    let longer : i < length one = omega (arith, length-append done (type_tree done k ∷ [])) in
    kept one ks i longer ∙ get_or-append done (type_tree done k ∷ []) VoidType i h

-- a longer store keeps the trees of the earlier numbers
pub kept_tree : (ks ls : List TypeKind) (t : TypeHandle) → t.0 < length ks → type_at (type_trees (ks ++ ls)) t ≡ type_at (type_trees ks) t
kept_tree ks ls t h =
    ap (λ ts. get_or ts t.0 VoidType) (trees_after-append [] ks ls)
    ∙ kept (type_trees ks) ls t.0 (omega (arith, length-trees_after [] ks))

pub kept_trees : (ks ls : List TypeKind) (xs : List TypeHandle) → AllBelow (length ks) xs → types_at (type_trees (ks ++ ls)) xs ≡ types_at (type_trees ks) xs
kept_trees ks ls [] h = refl
kept_trees ks ls (x ∷ xs) h = let e = kept_tree ks ls x h.0 in let f = kept_trees ks ls xs h.1 in cc

-- trees are the same below n
abbrev pub AgreeBelow : (ts us : List TypeTree) → ℕ → Type 0
AgreeBelow ts us n = (j : ℕ) → j < n → get_or ts j VoidType ≡ get_or us j VoidType

-- and so are those of the parts of a kind below n
pub same_parts : (ts us : List TypeTree) (n : ℕ) → AgreeBelow ts us n → (xs : List TypeHandle) → AllBelow n xs → types_at ts xs ≡ types_at us xs
same_parts ts us n same [] h = refl
same_parts ts us n same (x ∷ xs) h = let e = same_parts ts us n same xs h.1 in let f = same x.0 h.0 in cc

same_tree : (ts us : List TypeTree) (n : ℕ) → AgreeBelow ts us n → (k : TypeKind) → HasPartsBelow n k → type_tree ts k ≡ type_tree us k
same_tree ts us n same (Func result params variadic) h = let e = same_parts ts us n same params h.1 in let f = same result.0 h.0 in cc
same_tree ts us n same (Array t count) h = let e = same t.0 h in cc
same_tree ts us n same (Vector t count kind) h = let e = same t.0 h in cc
same_tree ts us n same (Struct fields layout) h = let e = same_parts ts us n same fields h in cc
same_tree ts us n same k h = refl

last_or : {X : Type 0} (xs : List X) (x d : X) (i : ℕ) → i ≡ length xs → get_or (xs ++ x ∷ []) i d ≡ x
last_or [] x d zero e = refl
last_or [] x d (suc i) e = absurd (omega arith)
last_or (y ∷ xs) x d zero e = absurd (omega arith)
last_or (y ∷ xs) x d (suc i) e = last_or xs x d i (omega arith)

pub at_number : (done : List TypeTree) (ks : List TypeKind) (j i : ℕ) (k : TypeKind) → i ≡ length done + j → slice_get ks j ≡ Some k → HasPartsBelow i k → get_or (trees_after type_tree done ks) i VoidType ≡ type_tree (trees_after type_tree done ks) k
at_number done [] j i k e h p = cc
at_number done (l ∷ ks) zero i k e h p =
    let one = done ++ type_tree done l ∷ [] in
    let at : i ≡ length done = omega arith in
    let longer : i < length one = omega (arith, length-append done (type_tree done l ∷ [])) in
    kept one ks i longer ∙ last_or done (type_tree done l) VoidType i at
    ∙ ap (type_tree done) (same_Some l k h)
    ∙ same_tree done (trees_after type_tree one ks) i (λ j below. sym (kept done (l ∷ ks) j (omega (arith, at)))) k p
at_number done (l ∷ ks) (suc j) i k e h p =
    at_number (done ++ type_tree done l ∷ []) ks j i k (omega (arith, length-append done (type_tree done l ∷ []))) h p

-- the tree of a number is that of its kind
pub tree_of_kind : (ks : List TypeKind) → IsGrounded ks → (t : TypeHandle) (k : TypeKind) → slice_get ks t.0 ≡ Some k → type_at (type_trees ks) t ≡ type_tree (type_trees ks) k
tree_of_kind ks ok t k h = at_number [] ks t.0 t.0 k (omega arith) h (ok t.0 k h)

-- of an integer type, a function type and the empty type, as a line each
pub integer_tree : (ks : List TypeKind) → IsGrounded ks → (t : TypeHandle) (w : ℕ) → slice_get ks t.0 ≡ Some (Integer w) → type_at (type_trees ks) t ≡ IntType w
integer_tree ks ok t w h = tree_of_kind ks ok t (Integer w) h

pub func_tree : (ks : List TypeKind) → IsGrounded ks → (t r : TypeHandle) (ps : List TypeHandle) (v : _) → slice_get ks t.0 ≡ Some (Func r ps v) → type_at (type_trees ks) t ≡ FunctionType (type_at (type_trees ks) r) (types_at (type_trees ks) ps) v
func_tree ks ok t r ps v h = tree_of_kind ks ok t (Func r ps v) h

pub void_tree : (ks : List TypeKind) → IsGrounded ks → (t : TypeHandle) → slice_get ks t.0 ≡ Some Void → type_at (type_trees ks) t ≡ VoidType
void_tree ks ok t h = tree_of_kind ks ok t Void h

-- a kind is known by its tree, where the trees of its parts are known
pub same_lists : (ts : List TypeTree) (n m : ℕ) → ((a b : ℕ) → a < n → b < m → get_or ts a VoidType ≡ get_or ts b VoidType → a ≡ b) → (xs ys : List TypeHandle) → AllBelow n xs → AllBelow m ys → types_at ts xs ≡ types_at ts ys → xs ≡ ys
same_lists ts n m known [] [] p q h = refl
same_lists ts n m known [] (y ∷ ys) p q h = cc
same_lists ts n m known (x ∷ xs) [] p q h = cc
same_lists ts n m known (x ∷ xs) (y ∷ ys) p q h =
    let first = same_handle x y (known x.0 y.0 p.0 q.0 (cc)) in
    let rest = same_lists ts n m known xs ys p.1 q.1 (cc) in
    cc

-- two kinds are one where they are structs of one name
abbrev IsOneStruct : TypeKind → TypeKind → Type 0
IsOneStruct k l = (n : List ℕ) (b c : Option StructFields) → k ≡ Named n b → l ≡ Named n c → k ≡ l

same_kinds : (ts : List TypeTree) (n m : ℕ) → ((a b : ℕ) → a < n → b < m → get_or ts a VoidType ≡ get_or ts b VoidType → a ≡ b) → (k l : TypeKind) → IsOneStruct k l → HasPartsBelow n k → HasPartsBelow m l → type_tree ts k ≡ type_tree ts l → k ≡ l
same_kinds ts n m known (Func r xs c) (Func s ys d) one p q h =
    let e = same_handle r s (known r.0 s.0 p.0 q.0 (cc)) in
    let f = same_lists ts n m known xs ys p.1 q.1 (cc) in
    cc
same_kinds ts n m known (Array t c) (Array u d) one p q h = let e = same_handle t u (known t.0 u.0 p q (cc)) in cc
same_kinds ts n m known (Vector t c k) (Vector u d l) one p q h = let e = same_handle t u (known t.0 u.0 p q (cc)) in cc
same_kinds ts n m known (Named a b) (Named c d) one p q h = let e : a ≡ c = cc in one a b d refl (ap (λ (x : List ℕ). Named x d) (sym e))
same_kinds ts n m known (Struct xs k) (Struct ys l) one p q h = let e = same_lists ts n m known xs ys p q (cc) in cc
same_kinds ts n m known k l one p q h = grind arith

-- equal trees have equal numbers, by the larger of the numbers
by_size : (ks : List TypeKind) → IsGrounded ks → IsOnceNamed ks → IsDistinctList ks → (size a b : ℕ) → a < size → b < size → a < length ks → b < length ks → get_or (type_trees ks) a VoidType ≡ get_or (type_trees ks) b VoidType → a ≡ b
by_size ks ok once apart zero a b p q within_a within_b h = absurd (omega arith)
by_size ks ok once apart (suc size) a b p q within_a within_b h =
    let k_at = slice_get-get_or ks a Void within_a in
    let l_at = slice_get-get_or ks b Void within_b in
    let k_parts = ok a (get_or ks a Void) k_at in
    let l_parts = ok b (get_or ks b Void) l_at in
    let k_tree = at_number [] ks a a (get_or ks a Void) (omega arith) k_at k_parts in
    let l_tree = at_number [] ks b b (get_or ks b Void) (omega arith) l_at l_parts in
    let one : IsOneStruct (get_or ks a Void) (get_or ks b Void) = λ n c d k_is l_is.
    let place = once a b n c d (k_at ∙ ap Some k_is) (l_at ∙ ap Some l_is) in
    same_Some (get_or ks a Void) (get_or ks b Void) (sym k_at ∙ ap (slice_get ks) place ∙ l_at) in
    let e = same_kinds (type_trees ks) a b (λ i j below_a below_b. by_size ks ok once apart size i j (omega arith) (omega arith) (omega arith) (omega arith)) (get_or ks a Void) (get_or ks b Void) one k_parts l_parts (sym k_tree ∙ h ∙ l_tree) in
    apart a b (get_or ks a Void) k_at (l_at ∙ ap Some (sym e))

pub trees_distinct : (ks : List TypeKind) → IsGrounded ks → IsOnceNamed ks → IsDistinctList ks → IsDistinctAsTrees ks
trees_distinct ks ok once apart a b within_a within_b h = by_size ks ok once apart (a.0 + b.0 + 1) a.0 b.0 (omega arith) (omega arith) within_a within_b h

-- ---- a store after a type was asked for

pub push_cases : {X : Type 0} (xs : List X) (x y : X) (i : ℕ) → slice_get (xs ++ x ∷ []) i ≡ Some y → (slice_get xs i ≡ Some y) ⊎ ((y ≡ x) × (i ≡ length xs))
push_cases [] x y zero h = inr (sym (same_Some x y h), refl)
push_cases [] x y (suc i) h = cc
push_cases (z ∷ xs) x y zero h = inl h
push_cases (z ∷ xs) x y (suc i) h = elim (push_cases xs x y i h) [ inl old ↦ inl old | inr new ↦ inr (new.0, ap suc new.1) ]

-- a grounded store stays grounded
pub still_grounded : (old new : List TypeKind) (k : TypeKind) (n : ℕ) → IsGrounded old → HasPartsBelow (length old) k → Interned old new k n → IsGrounded new
still_grounded old new k n ok parts h = elim h.only [
  | inl same ↦ subst IsGrounded (sym same) ok
  | inr grown ↦ subst IsGrounded (sym grown) (λ i l at. elim (push_cases old k l i at) [
    | inl old_at ↦ ok i l old_at
    | inr new_at ↦ rw (new_at.0, new_at.1) parts
  ])
]

-- the earlier numbers keep their trees
pub still_trees : (old new : List TypeKind) (k : TypeKind) (n : ℕ) → Interned old new k n → (t : TypeHandle) → t.0 < length old → type_at (type_trees new) t ≡ type_at (type_trees old) t
still_trees old new k n h t within = elim h.only [
  | inl same ↦ ap (λ ks. type_at (type_trees ks) t) same
  | inr grown ↦ ap (λ ks. type_at (type_trees ks) t) grown ∙ kept_tree old (k ∷ []) t within
]

-- the number's tree is that of the kind that was asked for
pub asked_tree : (old new : List TypeKind) (k : TypeKind) (t : TypeHandle) → IsGrounded old → HasPartsBelow (length old) k → Interned old new k t.0 → type_at (type_trees new) t ≡ type_tree (type_trees old) k
asked_tree old new k t ok parts h =
    tree_of_kind new (still_grounded old new k t.0 ok parts h) t k h.here
    ∙ same_tree (type_trees new) (type_trees old) (length old) (λ j below. still_trees old new k t.0 h (record { 0 = j }) below) k parts

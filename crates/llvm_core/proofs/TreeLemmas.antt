-- Trees by number: a list that grows keeps them, and the tree at a number is that of the kind there.
use Rattle.std.proofs.Common.{◌≡◌, ◌<◌, ◌+◌, ℕ, zero, suc, List, [], ◌∷◌, ◌++◌, Some, length, slice_get, get_or, ap, sym, ◌∙◌, refl, arith, length-append, All}
use Rattle.std.proofs.lemmas.List.Elements.{All-head, All-tail}
use Rattle.std.proofs.lemmas.Option.{same_Some}
use Rattle.std.proofs.Math.ListN.{get_or-append}
use Rattle.llvm_core.specs.declared.numbers.LLVMType.{LLVMType}
use Rattle.llvm_core.specs.declared.numbers.LLVMConst.{LLVMConst}
use Rattle.llvm_core.specs.declared.types.LLVMTypeKind.{LLVMTypeKind}
use Rattle.llvm_core.specs.declared.types.LLVMTypeKind.TheVariants as T
use Rattle.llvm_core.specs.declared.consts.LLVMConstKind.{LLVMConstKind}
use Rattle.llvm_core.specs.declared.consts.LLVMConstKind.TheVariants as C
use Rattle.kinds.specs.Held.{width_in}
use Rattle.llvm_core.specs.Consts.{IsMadeBelow}
use Rattle.llvm_core.specs.Parts.{IsTypeOver, const_type}
use Rattle.llvm_core.specs.Data.{TypeTree, VoidType, ArrayType, VectorType, StructType, ConstTree, IntConst, FilledConst, ListConst, SplatConst, PlaceholderConst, trees_after, const_at, consts_at, type_at, types_at, type_tree, type_trees, const_tree, const_trees}

-- ---- of any kind, whose tree is told by the trees of its parts

module _ {K T : Type 0} (tree_of : List T → K → T) (none : T) where
  abbrev after : List T → List K → List T
  after done ks = trees_after tree_of done ks

  pub after-append : (done : List T) (ks ls : List K) → after done (ks ++ ls) ≡ after (after done ks) ls
  after-append done [] ls = refl
  after-append done (k ∷ ks) ls = after-append (done ++ tree_of done k ∷ []) ks ls

  pub length-after : (done : List T) (ks : List K) → length (after done ks) ≡ length done + length ks
  length-after done [] = omega arith
  length-after done (k ∷ ks) = omega (arith, length-after (done ++ tree_of done k ∷ []) ks, length-append done (tree_of done k ∷ []))

  pub kept : (done : List T) (ks : List K) (i : ℕ) → i < length done → get_or (after done ks) i none ≡ get_or done i none
  kept done [] i h = refl
  kept done (k ∷ ks) i h =
      let one = done ++ tree_of done k ∷ [] in
      let longer : i < length one = omega (arith, length-append done (tree_of done k ∷ [])) in
      kept one ks i longer ∙ get_or-append done (tree_of done k ∷ []) none i h

  last_or : (xs : List T) (x : T) (i : ℕ) → i ≡ length xs → get_or (xs ++ x ∷ []) i none ≡ x
  last_or [] x zero e = refl
  last_or [] x (suc i) e = absurd (omega arith)
  last_or (y ∷ xs) x zero e = absurd (omega arith)
  last_or (y ∷ xs) x (suc i) e = last_or xs x i (omega arith)

  -- the tree at a number is that of the kind there, over all trees, where its parts are earlier ones
  pub at_number : (Over : ℕ → K → Type 0) (same : (ts us : List T) (n : ℕ) → ((j : ℕ) → j < n → get_or ts j none ≡ get_or us j none) → (k : K) → Over n k → tree_of ts k ≡ tree_of us k)
      (done : List T) (ks : List K) (j i : ℕ) (k : K) → i ≡ length done + j → slice_get ks j ≡ Some k → Over i k → get_or (after done ks) i none ≡ tree_of (after done ks) k
  at_number Over same done [] j i k e h p = cc
  at_number Over same done (l ∷ ks) zero i k e h p =
      let one = done ++ tree_of done l ∷ [] in
      let at : i ≡ length done = omega arith in
      let longer : i < length one = omega (arith, length-append done (tree_of done l ∷ [])) in
      kept one ks i longer ∙ last_or done (tree_of done l) i at ∙ ap (tree_of done) (same_Some l k h)
      ∙ same done (after one ks) i (λ j below. sym (kept done (l ∷ ks) j (omega (arith, at)))) k p
  at_number Over same done (l ∷ ks) (suc j) i k e h p =
      at_number Over same (done ++ tree_of done l ∷ []) ks j i k (omega (arith, length-append done (tree_of done l ∷ []))) h p

-- ---- types

same_types_at : (ts us : List TypeTree) (n : ℕ) → ((j : ℕ) → j < n → get_or ts j VoidType ≡ get_or us j VoidType) → (xs : List LLVMType) → All (λ (t : LLVMType). t.0 < n) xs → types_at ts xs ≡ types_at us xs
same_types_at ts us n same [] h = refl
same_types_at ts us n same (x ∷ xs) h =
    let e = same_types_at ts us n same xs (All-tail (λ (t : LLVMType). t.0 < n) x xs h) in
    let f = same x.0 (All-head (λ (t : LLVMType). t.0 < n) x xs h) in
    cc

-- trees that agree below n agree on a type over n
pub same_tree : (ts us : List TypeTree) (n : ℕ) → ((j : ℕ) → j < n → get_or ts j VoidType ≡ get_or us j VoidType) → (k : LLVMTypeKind) → IsTypeOver n k → type_tree ts k ≡ type_tree us k
same_tree ts us n same (T.Function result params variadic) h = let e = same_types_at ts us n same params h.1 in let f = same result.0 h.0 in cc
same_tree ts us n same (T.Array count t) h = ap (ArrayType count) (same t.0 h)
same_tree ts us n same (T.Vector kind count t) h = ap (VectorType kind count) (same t.0 h)
same_tree ts us n same (T.Literal fields layout) h = ap (StructType layout) (same_types_at ts us n same fields h)
same_tree ts us n same k h = refl

-- the tree of a number is that of the kind that stands there
pub type_at-kind : (ks : List LLVMTypeKind) (t : LLVMType) (k : LLVMTypeKind) → slice_get ks t.0 ≡ Some k → IsTypeOver t.0 k → type_at (type_trees ks) t ≡ type_tree (type_trees ks) k
type_at-kind ks t k at ok = at_number type_tree VoidType IsTypeOver same_tree [] ks t.0 t.0 k (omega arith) at ok

pub length-type_trees : (ks : List LLVMTypeKind) → length (type_trees ks) ≡ length ks
length-type_trees ks = length-after type_tree VoidType [] ks ∙ omega arith

-- more types leave the trees of the earlier ones
pub type_at-kept : (ks ls : List LLVMTypeKind) (t : LLVMType) → t.0 < length ks → type_at (type_trees (ks ++ ls)) t ≡ type_at (type_trees ks) t
type_at-kept ks ls t lt =
    ap (λ ts. get_or ts t.0 VoidType) (after-append type_tree VoidType [] ks ls)
    ∙ kept type_tree VoidType (type_trees ks) ls t.0 (omega (arith, length-type_trees ks))

-- ---- constants

same_const_tree : (types : List LLVMTypeKind) (ts us : List TypeTree) → ((t : LLVMType) → t.0 < length types → type_at ts t ≡ type_at us t) → (cs : List ConstTree) (k : LLVMConstKind) → (const_type k).0 < length types → const_tree ts cs k ≡ const_tree us cs k
same_const_tree types ts us same cs (C.Int t v) h = ap (λ (x : TypeTree). IntConst (width_in x) v) (same t h)
same_const_tree types ts us same cs (C.Filled fill t) h = ap (FilledConst fill) (same t h)
same_const_tree types ts us same cs (C.Bytes t bytes) h = refl
same_const_tree types ts us same cs (C.List t elements) h = ap (λ (x : TypeTree). ListConst x (consts_at cs elements)) (same t h)
same_const_tree types ts us same cs (C.Splat t element) h = ap (λ (x : TypeTree). SplatConst x (const_at cs element)) (same t h)
same_const_tree types ts us same cs (C.Placeholder number t) h = ap (PlaceholderConst number) (same t h)

consts_after : (types : List LLVMTypeKind) (ts us : List TypeTree) → ((t : LLVMType) → t.0 < length types → type_at ts t ≡ type_at us t) → (done : List ConstTree) (ks : List LLVMConstKind) → ((i : ℕ) (k : LLVMConstKind) → slice_get ks i ≡ Some k → (const_type k).0 < length types) → trees_after (const_tree ts) done ks ≡ trees_after (const_tree us) done ks
consts_after types ts us same done [] ok = refl
consts_after types ts us same done (k ∷ ks) ok =
    ap (λ x. trees_after (const_tree ts) (done ++ x ∷ []) ks) (same_const_tree types ts us same done k (ok 0 k refl))
    ∙ consts_after types ts us same (done ++ const_tree us done k ∷ []) ks (λ i l at. ok (suc i) l at)

-- more types leave the trees of constants
pub const_trees-retyped : (types more : List LLVMTypeKind) (ks : List LLVMConstKind) → ((i : ℕ) (k : LLVMConstKind) → slice_get ks i ≡ Some k → (const_type k).0 < length types) → const_trees (type_trees (types ++ more)) ks ≡ const_trees (type_trees types) ks
const_trees-retyped types more ks ok = consts_after types (type_trees (types ++ more)) (type_trees types) (type_at-kept types more) [] ks ok

pub const_at-kept : (ts : List TypeTree) (ks ls : List LLVMConstKind) (c : ℕ) → c < length ks → get_or (const_trees ts (ks ++ ls)) c (IntConst 0 0) ≡ get_or (const_trees ts ks) c (IntConst 0 0)
const_at-kept ts ks ls c lt =
    ap (λ cs. get_or cs c (IntConst 0 0)) (after-append (const_tree ts) (IntConst 0 0) [] ks ls)
    ∙ kept (const_tree ts) (IntConst 0 0) (const_trees ts ks) ls c (omega (arith, length-after (const_tree ts) (IntConst 0 0) [] ks))

same_consts_at : (cs ds : List ConstTree) (n : ℕ) → ((j : ℕ) → j < n → get_or cs j (IntConst 0 0) ≡ get_or ds j (IntConst 0 0)) → (xs : List LLVMConst) → All (λ (c : LLVMConst). c.0 < n) xs → consts_at cs xs ≡ consts_at ds xs
same_consts_at cs ds n same [] h = refl
same_consts_at cs ds n same (x ∷ xs) h =
    let e = same x.0 (All-head (λ (c : LLVMConst). c.0 < n) x xs h) in
    let f = same_consts_at cs ds n same xs (All-tail (λ (c : LLVMConst). c.0 < n) x xs h) in
    cc

-- trees that agree below n agree on a constant that is made below n
pub same_parts : (ts : List TypeTree) (cs ds : List ConstTree) (n : ℕ) → ((j : ℕ) → j < n → get_or cs j (IntConst 0 0) ≡ get_or ds j (IntConst 0 0)) → (k : LLVMConstKind) → IsMadeBelow n k → const_tree ts cs k ≡ const_tree ts ds k
same_parts ts cs ds n same (C.Int t v) h = refl
same_parts ts cs ds n same (C.Filled fill t) h = refl
same_parts ts cs ds n same (C.Bytes t bytes) h = refl
same_parts ts cs ds n same (C.List t elements) h = ap (ListConst (type_at ts t)) (same_consts_at cs ds n same elements h)
same_parts ts cs ds n same (C.Splat t element) h = ap (SplatConst (type_at ts t)) (same element.0 h)
same_parts ts cs ds n same (C.Placeholder number t) h = refl

pub const_at-kind : (ts : List TypeTree) (ks : List LLVMConstKind) (c : ℕ) (k : LLVMConstKind) → slice_get ks c ≡ Some k → IsMadeBelow c k → get_or (const_trees ts ks) c (IntConst 0 0) ≡ const_tree ts (const_trees ts ks) k
const_at-kind ts ks c k at below = at_number (const_tree ts) (IntConst 0 0) IsMadeBelow (same_parts ts) [] ks c c k (omega arith) at below

-- Equal trees have equal numbers, where types and constants stand once each.
use Rattle.std.proofs.Common.{◌≡◌, ◌<◌, ◌+◌, ℕ, zero, suc, List, [], ◌∷◌, Some, length, slice_get, get_or, ap, sym, ◌∙◌, arith, All}
use Rattle.std.proofs.lemmas.List.Elements.{All-head, All-tail}
use Rattle.support.proofs.ListLaws.{item_there}
use Rattle.llvm_core.specs.declared.numbers.LLVMType.{LLVMType}
use Rattle.llvm_core.specs.declared.numbers.LLVMConst.{LLVMConst}
use Rattle.llvm_core.specs.declared.types.LLVMTypeKind.{LLVMTypeKind}
use Rattle.llvm_core.specs.declared.types.LLVMTypeKind.TheVariants as T
use Rattle.llvm_core.specs.declared.consts.LLVMConstKind.{LLVMConstKind}
use Rattle.llvm_core.specs.declared.consts.LLVMConstKind.TheVariants as C
use Rattle.llvm_core.specs.Module.{Module}
use Rattle.llvm_core.specs.Consts.{IsConstIn, IsMadeBelow}
use Rattle.llvm_core.specs.Parts.{IsTypeOver, const_type}
use Rattle.llvm_core.specs.Sound.{IsModule}
use Rattle.llvm_core.specs.Data as d
use Rattle.llvm_core.specs.Data.{TypeTree, ConstTree, IntConst, type_at, types_at, type_tree, type_trees, const_at, consts_at, const_tree, const_trees, AreApart}
use Rattle.llvm_core.proofs.TreeLemmas.{type_at-kind, const_at-kind}
use Rattle.llvm_core.proofs.DataLemmas.{const_tree_typed}
use Rattle.llvm_core.proofs.WithinLemmas.{const_type_within}

pub same_type : (x y : LLVMType) → x.0 ≡ y.0 → x ≡ y
same_type x y e = ap (λ (n : ℕ). let t : LLVMType = record { 0 = n } in t) e

same_const : (x y : LLVMConst) → x.0 ≡ y.0 → x ≡ y
same_const x y e = ap (λ (n : ℕ). let t : LLVMConst = record { 0 = n } in t) e

-- a type is known by its tree, where the trees of its parts are known
same_lists : (ts : List TypeTree) (n m : ℕ) → ((a b : LLVMType) → a.0 < n → b.0 < m → type_at ts a ≡ type_at ts b → a ≡ b) → (xs ys : List LLVMType)
    → All (λ (t : LLVMType). t.0 < n) xs → All (λ (t : LLVMType). t.0 < m) ys → types_at ts xs ≡ types_at ts ys → xs ≡ ys
same_lists ts n m known [] [] p q h = cc
same_lists ts n m known [] (y ∷ ys) p q h = cc
same_lists ts n m known (x ∷ xs) [] p q h = cc
same_lists ts n m known (x ∷ xs) (y ∷ ys) p q h =
    let below_n = All-head (λ (t : LLVMType). t.0 < n) x xs p in
    let below_m = All-head (λ (t : LLVMType). t.0 < m) y ys q in
    let first = known x y below_n below_m (cc) in
    let rest = same_lists ts n m known xs ys (All-tail (λ (t : LLVMType). t.0 < n) x xs p) (All-tail (λ (t : LLVMType). t.0 < m) y ys q) (cc) in
    cc

same_kinds : (ts : List TypeTree) (n m : ℕ) → ((a b : LLVMType) → a.0 < n → b.0 < m → type_at ts a ≡ type_at ts b → a ≡ b) → (k l : LLVMTypeKind) → IsTypeOver n k → IsTypeOver m l → type_tree ts k ≡ type_tree ts l → k ≡ l
same_kinds ts n m known (T.Function r xs c) (T.Function s ys d) p q h =
    let e = known r s p.0 q.0 (cc) in
    let f = same_lists ts n m known xs ys p.1 q.1 (cc) in
    cc
same_kinds ts n m known (T.Array c t) (T.Array d u) p q h = let e = known t u p q (cc) in cc
same_kinds ts n m known (T.Vector j c t) (T.Vector k d u) p q h = let e = known t u p q (cc) in cc
same_kinds ts n m known (T.Literal xs c) (T.Literal ys d) p q h = let f = same_lists ts n m known xs ys p q (cc) in cc
same_kinds ts n m known k l p q h = grind arith

-- by the larger of the numbers
by_size : (m : Module) → IsModule m → (size : ℕ) (a b : LLVMType) → a.0 < size → b.0 < size → a.0 < length m.types → b.0 < length m.types → type_at (type_trees m.types) a ≡ type_at (type_trees m.types) b → a ≡ b
by_size m s zero a b p q within_a within_b h = absurd (omega arith)
by_size m s (suc size) a b p q within_a within_b h =
    let k = item_there m.types a.0 within_a in
    let l = item_there m.types b.0 within_b in
    let k_over = s.types a.0 k.0 k.1 in
    let l_over = s.types b.0 l.0 l.1 in
    let trees = sym (type_at-kind m.types a k.0 k.1 k_over) ∙ h ∙ type_at-kind m.types b l.0 l.1 l_over in
    let known : (x y : LLVMType) → x.0 < a.0 → y.0 < b.0 → type_at (type_trees m.types) x ≡ type_at (type_trees m.types) y → x ≡ y = λ x y below_a below_b e.
    by_size m s size x y (omega arith) (omega arith) (omega arith) (omega arith) e in
    let kinds = same_kinds (type_trees m.types) a.0 b.0 known k.0 l.0 k_over l_over trees in
    same_type a b (s.types_once a.0 b.0 k.0 k.1 (l.1 ∙ ap Some (sym kinds)))

types_apart : (m : Module) → IsModule m → (a b : LLVMType) → a.0 < length m.types → b.0 < length m.types → type_at (type_trees m.types) a ≡ type_at (type_trees m.types) b → a ≡ b
types_apart m s a b within_a within_b h = by_size m s (a.0 + b.0 + 1) a b (omega arith) (omega arith) within_a within_b h

-- the kind at a number is known by its tree
pub kind_apart : (m : Module) (t : LLVMType) (l : LLVMTypeKind) → IsModule m → t.0 < length m.types → IsTypeOver (length m.types) l → type_at (type_trees m.types) t ≡ type_tree (type_trees m.types) l → slice_get m.types t.0 ≡ Some l
kind_apart m t l s within over h =
    let k = item_there m.types t.0 within in
    let k_over = s.types t.0 k.0 k.1 in
    k.1 ∙ ap Some (same_kinds (type_trees m.types) t.0 (length m.types) (λ a b below p e. types_apart m s a b (omega (arith, below, within)) p e) k.0 l k_over over (sym (type_at-kind m.types t k.0 k.1 k_over) ∙ h))

-- a constant is known by its tree, where the trees of its parts are known
same_elements : (cs : List ConstTree) (n m : ℕ) → ((a b : LLVMConst) → a.0 < n → b.0 < m → const_at cs a ≡ const_at cs b → a ≡ b) → (xs ys : List LLVMConst)
    → All (λ (c : LLVMConst). c.0 < n) xs → All (λ (c : LLVMConst). c.0 < m) ys → consts_at cs xs ≡ consts_at cs ys → xs ≡ ys
same_elements cs n m known [] [] p q h = cc
same_elements cs n m known [] (y ∷ ys) p q h = cc
same_elements cs n m known (x ∷ xs) [] p q h = cc
same_elements cs n m known (x ∷ xs) (y ∷ ys) p q h =
    let below_n = All-head (λ (c : LLVMConst). c.0 < n) x xs p in
    let below_m = All-head (λ (c : LLVMConst). c.0 < m) y ys q in
    let first = known x y below_n below_m (cc) in
    let rest = same_elements cs n m known xs ys (All-tail (λ (c : LLVMConst). c.0 < n) x xs p) (All-tail (λ (c : LLVMConst). c.0 < m) y ys q) (cc) in
    cc

module _ (m : Module) (s : IsModule m) (cs : List ConstTree) (i j : ℕ) (known : (a b : LLVMConst) → a.0 < i → b.0 < j → const_at cs a ≡ const_at cs b → a ≡ b) where
  same_const_kinds : (k l : LLVMConstKind) → IsConstIn m k → IsConstIn m l → IsMadeBelow i k → IsMadeBelow j l → const_tree (type_trees m.types) cs k ≡ const_tree (type_trees m.types) cs l → k ≡ l
  same_const_kinds k l p q below_i below_j h =
      by k l below_i below_j h (types_apart m s (const_type k) (const_type l) (const_type_within m k p) (const_type_within m l q) (sym (const_tree_typed m cs k s p) ∙ ap d.const_type h ∙ const_tree_typed m cs l s q))
    where
      by : (k l : LLVMConstKind) → IsMadeBelow i k → IsMadeBelow j l → const_tree (type_trees m.types) cs k ≡ const_tree (type_trees m.types) cs l → const_type k ≡ const_type l → k ≡ l
      by (C.Int t v) (C.Int u w) below_i below_j h e = cc
      by (C.Filled f t) (C.Filled g u) below_i below_j h e = cc
      by (C.Bytes t xs) (C.Bytes u ys) below_i below_j h e = cc
      by (C.List t xs) (C.List u ys) below_i below_j h e = let f = same_elements cs i j known xs ys below_i below_j (cc) in cc
      by (C.Splat t x) (C.Splat u y) below_i below_j h e = let f = known x y below_i below_j (cc) in cc
      by (C.Placeholder n t) (C.Placeholder k u) below_i below_j h e = cc
      by k l below_i below_j h e = grind arith

-- by the larger of the numbers
const_by_size : (m : Module) → IsModule m → (size : ℕ) (a b : LLVMConst) → a.0 < size → b.0 < size → a.0 < length m.consts → b.0 < length m.consts
    → const_at (const_trees (type_trees m.types) m.consts) a ≡ const_at (const_trees (type_trees m.types) m.consts) b → a ≡ b
const_by_size m s zero a b p q within_a within_b h = absurd (omega arith)
const_by_size m s (suc size) a b p q within_a within_b h =
    let ts = type_trees m.types in
    let cs = const_trees ts m.consts in
    let k = item_there m.consts a.0 within_a in
    let l = item_there m.consts b.0 within_b in
    let below_a = s.consts_below a.0 k.0 k.1 in
    let below_b = s.consts_below b.0 l.0 l.1 in
    let trees = sym (const_at-kind ts m.consts a.0 k.0 k.1 below_a) ∙ h ∙ const_at-kind ts m.consts b.0 l.0 l.1 below_b in
    let known : (x y : LLVMConst) → x.0 < a.0 → y.0 < b.0 → const_at cs x ≡ const_at cs y → x ≡ y = λ x y below_a below_b e.
    const_by_size m s size x y (omega arith) (omega arith) (omega arith) (omega arith) e in
    let kinds = same_const_kinds m s cs a.0 b.0 known k.0 l.0 (s.consts a.0 k.0 k.1) (s.consts b.0 l.0 l.1) below_a below_b trees in
    same_const a b (s.consts_once a.0 b.0 k.0 k.1 (l.1 ∙ ap Some (sym kinds)))

consts_apart : (m : Module) → IsModule m → (a b : LLVMConst) → a.0 < length m.consts → b.0 < length m.consts
    → get_or (const_trees (type_trees m.types) m.consts) a.0 (IntConst 0 0) ≡ get_or (const_trees (type_trees m.types) m.consts) b.0 (IntConst 0 0) → a ≡ b
consts_apart m s a b within_a within_b h =
    const_by_size m s (a.0 + b.0 + 1) a b (omega arith) (omega arith) within_a within_b h

pub apart : (m : Module) → IsModule m → AreApart m
apart m s = record { types = types_apart m s; consts = consts_apart m s }

-- A table of terms that grows keeps its terms, and equal terms have one place.
use Rattle.std.proofs.Common.{◌≡◌, ◌<◌, ◌+◌, inl, inr, ℕ, zero, suc, Bool, true, false, if◌then◌else◌, List, [], ◌∷◌, ◌++◌, Some, length, slice_get, get_or, map, refl, sym, ap, subst, ◌∙◌, arith, All}
use Rattle.std.specs.List.{list_any, IsDistinct}
use Rattle.std.proofs.lemmas.List.{append-nil}
use Rattle.std.proofs.lemmas.List.Elements.{All-head, All-tail}
use Rattle.std.proofs.lemmas.Map.Made.{AllPairs-from_IsDistinct}
use Rattle.std.proofs.lemmas.Bool.{cases_order}
use Rattle.std.proofs.lemmas.Option.{slice_get_within, slice_get-get_or, get_or_from_slice_get}
use Rattle.llvm_core.specs.Data.{TypeTree, VoidType, trees_after, type_at}
use Rattle.support.specs.Interned.{InternedBy, IsDistinctList}
use Rattle.support.proofs.ListLaws.{slice_get-kept, slice_get-push_cases, item_there}
use Rattle.llvm_core.proofs.TreeLemmas.{after-append, length-after, kept, at_number}
use Rattle.llvm_core.proofs.ApartLemmas.{same_type}
use Rattle.meaning.specs.Terms.{Term, Unset, terms_of}
use Rattle.meaning.specs.Terms as M
use Rattle.llvm_core.specs.declared.numbers.LLVMType.{LLVMType}
use Rattle.tracing.specs.declared.table.TermNode.{TermNode}
use Rattle.tracing.specs.declared.table.TermNode.TheVariants as N
use Rattle.tracing.specs.contracts.table.TermNodePartialEq.TheImpl as nodes
use Rattle.tracing.specs.Table.{term_at, node_term, terms, HasPartsBelow, IsGrounded, HasTypeBelow, AreTyped, Gives}
use Rattle.tracing.proofs.NodeLaws.{same_node, node_decides}

-- ---- terms by place

same_parts : (ts us : List Term) (n : ℕ) → ((j : ℕ) → j < n → get_or ts j Unset ≡ get_or us j Unset) → (ks : List ℕ) → All (λ (k : ℕ). k < n) ks → map (term_at ts) ks ≡ map (term_at us) ks
same_parts ts us n same [] h = refl
same_parts ts us n same (k ∷ ks) h =
    let e = same k (All-head (λ (k : ℕ). k < n) k ks h) in
    let rest = same_parts ts us n same ks (All-tail (λ (k : ℕ). k < n) k ks h) in
    cc

module _ (trees : List TypeTree) where
  -- terms that agree below n agree on a node over n
  same_term : (ts us : List Term) (n : ℕ) → ((j : ℕ) → j < n → get_or ts j Unset ≡ get_or us j Unset) → (x : TermNode) → HasPartsBelow n x → node_term trees ts x ≡ node_term trees us x
  same_term ts us n same (N.Param i) h = refl
  same_term ts us n same (N.Answer i) h = refl
  same_term ts us n same N.Unset h = refl
  same_term ts us n same (N.Int w v) h = refl
  same_term ts us n same (N.Filled fill ty) h = refl
  same_term ts us n same (N.ListOf ty ks) h = ap (λ (l : List Term). M.ListOf (type_at trees ty) (terms_of l)) (same_parts ts us n same ks h)
  same_term ts us n same (N.SplatOf ty k) h = ap (M.SplatOf (type_at trees ty)) (same k h)
  same_term ts us n same (N.Expr o ty ks) h = ap (λ (l : List Term). M.Expr o (type_at trees ty) (terms_of l)) (same_parts ts us n same ks h)

  pub length-terms : (ns : List TermNode) → length (terms trees ns) ≡ length ns
  length-terms ns = length-after (node_term trees) Unset [] ns ∙ omega arith

  -- the term at a place is that of the node there
  pub node_at : (ns : List TermNode) (i : ℕ) (x : TermNode) → slice_get ns i ≡ Some x → HasPartsBelow i x → get_or (terms trees ns) i Unset ≡ node_term trees (terms trees ns) x
  node_at ns i x at below = at_number (node_term trees) Unset HasPartsBelow same_term [] ns i i x (omega arith) at below

  -- more nodes leave the earlier terms
  pub grows : (done : List Term) (ns : List TermNode) (k : ℕ) (t : Term) → slice_get done k ≡ Some t → slice_get (trees_after (node_term trees) done ns) k ≡ Some t
  grows done [] k t at = at
  grows done (x ∷ ns) k t at = grows (done ++ node_term trees done x ∷ []) ns k t (slice_get-kept done (node_term trees done x ∷ []) k t at)

  pub kept_term : (old more : List TermNode) (k : ℕ) (t : Term) → slice_get (terms trees old) k ≡ Some t → slice_get (terms trees (old ++ more)) k ≡ Some t
  kept_term old more k t at = ap (λ ts. slice_get ts k) (after-append (node_term trees) Unset [] old more) ∙ grows (terms trees old) more k t at

  -- a place that names a term is one of the table's
  pub named_below : (ns : List TermNode) (k : ℕ) (t : Term) → slice_get (terms trees ns) k ≡ Some t → k < length ns
  named_below ns k t at = omega (arith, length-terms ns, slice_get_within (terms trees ns) k t at)

-- ---- a term is put in

pushed : (old : List TermNode) (x : TermNode) → IsGrounded old → HasPartsBelow (length old) x → IsGrounded (old ++ x ∷ [])
pushed old x grounded below i y at = elim (slice_get-push_cases old x i y at) [
  | inl here ↦ grounded i y here
  | inr last ↦ subst (λ (n : ℕ). HasPartsBelow n y) (sym last.0) (subst (HasPartsBelow (length old)) (sym last.1) below)
]

pub interned_grounded : (old new : List TermNode) (x : TermNode) (k : ℕ) → IsGrounded old → HasPartsBelow (length old) x → InternedBy nodes.eq-value.it old new x k → IsGrounded new
interned_grounded old new x k grounded below h = by (list_any (nodes.eq-value.it x) old) h.grown
  where
    by : (b : Bool) → new ≡ (if b then old else old ++ x ∷ []) → IsGrounded new
    by true e = subst IsGrounded (sym e) grounded
    by false e = subst IsGrounded (sym e) (pushed old x grounded below)

pub interned_typed : (old new : List TermNode) (x : TermNode) (k n : ℕ) → AreTyped n old → HasTypeBelow n x → InternedBy nodes.eq-value.it old new x k → AreTyped n new
interned_typed old new x k n typed here h = by (list_any (nodes.eq-value.it x) old) h.grown
  where
    push : AreTyped n (old ++ x ∷ [])
    push i y at = elim (slice_get-push_cases old x i y at) [
      | inl there ↦ typed i y there
      | inr last ↦ subst (HasTypeBelow n) (sym last.1) here
    ]

    by : (b : Bool) → new ≡ (if b then old else old ++ x ∷ []) → AreTyped n new
    by true e = subst (AreTyped n) (sym e) typed
    by false e = subst (AreTyped n) (sym e) push

module _ (trees : List TypeTree) where
  gives_at : (old more : List TermNode) (x : TermNode) (k : ℕ) → IsGrounded (old ++ more) → HasPartsBelow (length old) x → slice_get (old ++ more) k ≡ Some x → Gives trees old (old ++ more) k (node_term trees (terms trees old) x)
  gives_at old more x k grounded below at =
      let new : List TermNode = old ++ more in
      let within : k < length (terms trees new) = omega (arith, length-terms trees new, slice_get_within new k x at) in
      let agree : (j : ℕ) → j < length old → get_or (terms trees new) j Unset ≡ get_or (terms trees old) j Unset = λ j lt.
      ap (λ ts. get_or ts j Unset) (after-append (node_term trees) Unset [] old more) ∙ kept (node_term trees) Unset (terms trees old) more j (omega (arith, length-terms trees old)) in
      let term = node_at trees new k x at (grounded k x at) ∙ same_term trees (terms trees new) (terms trees old) (length old) agree x below in
      record { more = more; grown = refl; here = slice_get-get_or (terms trees new) k Unset within ∙ ap Some term }

  pub interned_gives : (old new : List TermNode) (x : TermNode) (k : ℕ) → IsGrounded old → HasPartsBelow (length old) x → InternedBy nodes.eq-value.it old new x k → Gives trees old new k (node_term trees (terms trees old) x)
  interned_gives old new x k grounded below h = by (list_any (nodes.eq-value.it x) old) h.grown
    where
      here : slice_get new k ≡ Some x
      here = h.stored.1 ∙ ap Some (sym (same_node x h.stored.0 h.stored.2))

      by : (b : Bool) → new ≡ (if b then old else old ++ x ∷ []) → Gives trees old new k (node_term trees (terms trees old) x)
      by true e =
          let same : new ≡ old ++ [] = e ∙ sym (append-nil old) in
          subst (λ (l : List TermNode). Gives trees old l k (node_term trees (terms trees old) x)) (sym same)
          (gives_at old [] x k (subst IsGrounded (sym (append-nil old)) grounded) below (ap (λ l. slice_get l k) (sym same) ∙ here))
      by false e =
          subst (λ (l : List TermNode). Gives trees old l k (node_term trees (terms trees old) x)) (sym e)
          (gives_at old (x ∷ []) x k (pushed old x grounded below) below (ap (λ l. slice_get l k) (sym e) ∙ here))

-- ---- equal terms have one place

same_lists : (ts : List Term) (n m : ℕ) → ((i j : ℕ) → i < n → j < m → get_or ts i Unset ≡ get_or ts j Unset → i ≡ j) → (ks ls : List ℕ) → All (λ (k : ℕ). k < n) ks → All (λ (k : ℕ). k < m) ls → terms_of (map (term_at ts) ks) ≡ terms_of (map (term_at ts) ls) → ks ≡ ls
same_lists ts n m known [] [] p q h = refl
same_lists ts n m known [] (l ∷ ls) p q h = cc
same_lists ts n m known (k ∷ ks) [] p q h = cc
same_lists ts n m known (k ∷ ks) (l ∷ ls) p q h =
    let first = known k l (All-head (λ (k : ℕ). k < n) k ks p) (All-head (λ (k : ℕ). k < m) l ls q) (cc) in
    let rest = same_lists ts n m known ks ls (All-tail (λ (k : ℕ). k < n) k ks p) (All-tail (λ (k : ℕ). k < m) l ls q) (cc) in
    cc

module _ (trees : List TypeTree) (apart : IsDistinctList trees) where
  -- types that stand apart are known by their trees
  type_known : (t u : LLVMType) → t.0 < length trees → u.0 < length trees → type_at trees t ≡ type_at trees u → t ≡ u
  type_known t u below_t below_u e =
      same_type t u (apart t.0 u.0 (type_at trees t) (slice_get-get_or trees t.0 VoidType below_t) (slice_get-get_or trees u.0 VoidType below_u ∙ ap Some (sym e)))

  same_nodes : (ts : List Term) (n m : ℕ) → ((i j : ℕ) → i < n → j < m → get_or ts i Unset ≡ get_or ts j Unset → i ≡ j) → (x y : TermNode) → HasPartsBelow n x → HasPartsBelow m y → HasTypeBelow (length trees) x → HasTypeBelow (length trees) y → node_term trees ts x ≡ node_term trees ts y → x ≡ y
  same_nodes ts n m known (N.Expr o t ks) (N.Expr p u ls) a b below_t below_u h =
      let same : ks ≡ ls = same_lists ts n m known ks ls a b (cc) in
      let types : t ≡ u = type_known t u below_t below_u (cc) in
      cc
  same_nodes ts n m known (N.ListOf t ks) (N.ListOf u ls) a b below_t below_u h =
      let same : ks ≡ ls = same_lists ts n m known ks ls a b (cc) in
      let types : t ≡ u = type_known t u below_t below_u (cc) in
      cc
  same_nodes ts n m known (N.SplatOf t k) (N.SplatOf u l) a b below_t below_u h =
      let same : k ≡ l = known k l a b (cc) in
      let types : t ≡ u = type_known t u below_t below_u (cc) in
      cc
  same_nodes ts n m known (N.Filled f t) (N.Filled g u) a b below_t below_u h = let types : t ≡ u = type_known t u below_t below_u (cc) in cc
  same_nodes ts n m known x y p q c d h = grind arith

  -- by the larger of the places
  by_size : (ns : List TermNode) → IsGrounded ns → AreTyped (length trees) ns → IsDistinctList ns → (size i j : ℕ) → i < size → j < size → i < length ns → j < length ns → get_or (terms trees ns) i Unset ≡ get_or (terms trees ns) j Unset → i ≡ j
  by_size ns grounded typed once zero i j p q within_i within_j h = absurd (omega arith)
  by_size ns grounded typed once (suc size) i j p q within_i within_j h =
      let x = item_there ns i within_i in
      let y = item_there ns j within_j in
      let x_below = grounded i x.0 x.1 in
      let y_below = grounded j y.0 y.1 in
      let terms_same = sym (node_at trees ns i x.0 x.1 x_below) ∙ h ∙ node_at trees ns j y.0 y.1 y_below in
      let known : (a b : ℕ) → a < i → b < j → get_or (terms trees ns) a Unset ≡ get_or (terms trees ns) b Unset → a ≡ b = λ a b below_i below_j e.
      by_size ns grounded typed once size a b (omega arith) (omega arith) (omega arith) (omega arith) e in
      let same = same_nodes (terms trees ns) i j known x.0 y.0 x_below y_below (typed i x.0 x.1) (typed j y.0 y.1) terms_same in
      once i j x.0 x.1 (y.1 ∙ ap Some (sym same))

  terms_apart : (ns : List TermNode) → IsGrounded ns → AreTyped (length trees) ns → IsDistinctList ns → IsDistinctList (terms trees ns)
  terms_apart ns grounded typed once i j t at_i at_j =
      let within_i : i < length ns = named_below trees ns i t at_i in
      let within_j : j < length ns = named_below trees ns j t at_j in
      by_size ns grounded typed once (i + j + 1) i j (omega arith) (omega arith) within_i within_j (get_or_from_slice_get (terms trees ns) i t Unset at_i ∙ sym (get_or_from_slice_get (terms trees ns) j t Unset at_j))

distinct_nodes : (ns : List TermNode) → IsDistinct nodes.eq-value.it ns → IsDistinctList ns
distinct_nodes ns u i j x p q =
    let apart = AllPairs-from_IsDistinct node_decides ns u in
    let at_i = get_or_from_slice_get ns i x x p in
    let at_j = get_or_from_slice_get ns j x x q in
    elim (cases_order i j) [
      | inl same ↦ same
      | inr other ↦ elim other [
        | inl below ↦ absurd (apart i j x below (slice_get_within ns j x q) (at_i ∙ sym at_j))
        | inr above ↦ absurd (apart j i x above (slice_get_within ns i x p) (at_j ∙ sym at_i))
      ]
    ]

pub table_apart : (ns : List TermNode) → IsGrounded ns → IsDistinct nodes.eq-value.it ns → (trees : List TypeTree) → IsDistinctList trees → AreTyped (length trees) ns → IsDistinctList (terms trees ns)
table_apart ns grounded u trees apart typed = terms_apart trees apart ns grounded typed (distinct_nodes ns u)

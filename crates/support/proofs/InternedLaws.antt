-- Lists in which each value is kept once, and those that grow by a value that was asked for.
use Rattle.std.proofs.Common.{◌≡◌, ◌<◌, ◌≤◌, ◌⊎◌, inl, inr, ℕ, Bool, true, false, if◌then◌else◌, List, [], ◌∷◌, ◌++◌, Some, length, slice_get, ap, sym, ◌∙◌, arith, length-append}
use Rattle.std.specs.Bool.{Decides}
use Rattle.std.specs.List.{list_any, IsDistinct}
use Rattle.std.proofs.lemmas.Map.Made.{AllPairs-from_IsDistinct}
use Rattle.std.proofs.lemmas.List.{append-nil}
use Rattle.std.proofs.lemmas.Option.{get_or_from_slice_get, slice_get_within}
use Rattle.std.proofs.lemmas.Bool.{cases_order}
use Rattle.support.specs.Interned.{InternedBy, Interned, IsDistinctList}
use Rattle.support.proofs.ListLaws.{slice_get-kept, slice_get-push_cases}

pub interned_by : {X : Type 0} (eq : X → X → Bool) (same : (a b : X) → eq a b ≡ true → a ≡ b) (old new : List X) (k : X) (n : ℕ) → InternedBy eq old new k n → Interned old new k n
interned_by eq same old new k n h = record {
  here = h.stored.1 ∙ ap Some (sym (same k h.stored.0 h.stored.2));
  only = by (list_any (eq k) old) h.grown;
}
  where
    by : (b : Bool) → new ≡ (if b then old else old ++ k ∷ []) → (new ≡ old) ⊎ (new ≡ old ++ k ∷ [])
    by true e = inl e
    by false e = inr e

pub distinct_list : {X : Type 0} (eq : X → X → Bool) (same : (a b : X) → Decides (eq a b) (a ≡ b)) (xs : List X) → IsDistinct eq xs → IsDistinctList xs
distinct_list eq same xs u i j k p q =
    let apart = AllPairs-from_IsDistinct same xs u in
    let within_i = slice_get_within xs i k p in
    let within_j = slice_get_within xs j k q in
    let at_i = get_or_from_slice_get xs i k k p in
    let at_j = get_or_from_slice_get xs j k k q in
    elim (cases_order i j) [
      | inl same ↦ same
      | inr apart_ij ↦ elim apart_ij [ inl below ↦ absurd (apart i j k below within_j (at_i ∙ sym at_j)) | inr above ↦ absurd (apart j i k above within_i (at_j ∙ sym at_i)) ]
    ]

pub interned_more : {X : Type 0} (old new : List X) (k : X) (n : ℕ) → Interned old new k n → (more : List X) × (new ≡ old ++ more)
interned_more old new k n h = by h.only
  where
    by : (new ≡ old) ⊎ (new ≡ old ++ k ∷ []) → (more : List _) × (new ≡ old ++ more)
    by (inl same) = ([], same ∙ sym (append-nil old))
    by (inr longer) = (k ∷ [], longer)

pub interned_kept : {X : Type 0} (old new : List X) (k : X) (n : ℕ) → Interned old new k n → (i : ℕ) (x : X) → slice_get old i ≡ Some x → slice_get new i ≡ Some x
interned_kept old new k n h i x e = elim h.only [ inl same ↦ rw same e | inr more ↦ rw more (slice_get-kept old (k ∷ []) i x e) ]

pub interned_longer : {X : Type 0} (old new : List X) (k : X) (n : ℕ) → Interned old new k n → length old ≤ length new
interned_longer old new k n h = elim h.only [ inl same ↦ omega (arith, ap length same) | inr more ↦ omega (arith, ap length more ∙ length-append old (k ∷ [])) ]

-- each of the new list is of the old one or the new one last
pub interned_cases : {X : Type 0} (old new : List X) (k : X) (n : ℕ) → Interned old new k n → (i : ℕ) (x : X) → slice_get new i ≡ Some x → (slice_get old i ≡ Some x) ⊎ ((i ≡ length old) × (x ≡ k))
interned_cases old new k n h i x e = elim h.only [ inl same ↦ inl (ap (λ xs. slice_get xs i) (sym same) ∙ e) | inr more ↦ slice_get-push_cases old k i x (ap (λ xs. slice_get xs i) (sym more) ∙ e) ]

-- the number of the type is one of them
pub interned_within : {X : Type 0} (old new : List X) (k : X) (n : ℕ) → Interned old new k n → n < length new
interned_within old new k n h = slice_get_within new n k h.here

-- Items that own lists: their lists stay, or go on, as the items' own list grows or changes.
use Rattle.std.proofs.Common.{◌≡◌, ◌<◌, ◌⊎◌, inl, inr, ℕ, zero, suc, List, [], ◌∷◌, ◌++◌, Some, length, slice_get, refl, ap, ◌∙◌, arith}
use Rattle.std.specs.Option.{option_map}
use Rattle.std.proofs.lemmas.Option.{same_Some}
use Rattle.support.specs.Changes.{with_change}
use Rattle.support.proofs.ListLaws.{slice_get-kept}
use Rattle.llvm_core.proofs.ChangeLemmas.{with_change-cons, slice_get-changed}

-- each owner of xs is in ys too, perhaps with a longer list
abbrev pub KeepsLists : {X Y : Type 0} → (X → List Y) → List X → List X → Type 0
KeepsLists {X} {Y} list xs ys = (i : ℕ) (x : X) → slice_get xs i ≡ Some x → (z : X) × (slice_get ys i ≡ Some z) × ((place : ℕ) (y : Y) → slice_get (list x) place ≡ Some y → slice_get (list z) place ≡ Some y)

pub same_keeps : {X Y : Type 0} (list : X → List Y) (xs : List X) → KeepsLists list xs xs
same_keeps list xs i x e = (x, e, λ place y h. h)

pub push_keeps : {X Y : Type 0} (list : X → List Y) (xs : List X) (w : X) → KeepsLists list xs (xs ++ w ∷ [])
push_keeps list xs w i x e = (x, slice_get-kept xs (w ∷ []) i x e, λ place y h. h)

-- an item stays, or is the changed one
pub kept_or_changed : {X : Type 0} (c : X → X) (i : ℕ) (xs : List X) (j : ℕ) (x : X) → slice_get xs j ≡ Some x → (slice_get (with_change c i xs) j ≡ Some x) ⊎ (slice_get (with_change c i xs) j ≡ Some (c x))
kept_or_changed c i [] j x e = inl e
kept_or_changed c zero (w ∷ xs) zero x e = inr (ap (λ y. Some (c y)) (same_Some w x e))
kept_or_changed c zero (w ∷ xs) (suc j) x e = inl e
kept_or_changed c (suc i) (w ∷ xs) zero x e = inl (ap (λ ys. slice_get ys 0) (with_change-cons c i w xs) ∙ e)
kept_or_changed c (suc i) (w ∷ xs) (suc j) x e =
    let step = ap (λ ys. slice_get ys (suc j)) (with_change-cons c i w xs) in
    elim (kept_or_changed c i xs j x e) [ inl same ↦ inl (step ∙ same) | inr new ↦ inr (step ∙ new) ]

-- a change that keeps what its owner lists
pub change_keeps : {X Y : Type 0} (list : X → List Y) (c : X → X) → ((x : X) (place : ℕ) (y : Y) → slice_get (list x) place ≡ Some y → slice_get (list (c x)) place ≡ Some y) → (i : ℕ) (xs : List X) → KeepsLists list xs (with_change c i xs)
change_keeps list c keeps i xs j x e = elim (kept_or_changed c i xs j x e) [
  | inl same ↦ (x, same, λ place y h. h)
  | inr new ↦ (c x, new, keeps x)
]

-- an owner that is there, after its change
pub changed_there : {X : Type 0} (c : X → X) (i : ℕ) (xs : List X) → i < length xs → (x : X) × (slice_get (with_change c i xs) i ≡ Some (c x))
changed_there c i xs lt = let h = there xs i lt in (h.0, slice_get-changed c i xs ∙ ap (option_map c) h.1)
  where
    there : {X : Type 0} (xs : List X) (i : ℕ) → i < length xs → (x : X) × (slice_get xs i ≡ Some x)
    there [] i lt = absurd (omega arith)
    there (x ∷ xs) zero lt = (x, refl)
    there (x ∷ xs) (suc i) lt = there xs i (omega arith)

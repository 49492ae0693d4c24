-- Lists that are matched item by item.
use Rattle.std.proofs.Common.{◌≡◌, ℕ, zero, suc, List, [], ◌∷◌, ◌++◌, Some, length, slice_get, ap, refl, subst}
use Rattle.std.proofs.lemmas.Option.{same_Some}
use Rattle.meaning.specs.Pairs.{Matched, BothOrNone}

pub matched_get : {A B : Type 0} (P : A → B → Type 0) (xs : List A) (ys : List B) (i : ℕ) → Matched P xs ys → BothOrNone P (slice_get xs i) (slice_get ys i)
matched_get P [] [] i h = tt
matched_get P [] (y ∷ ys) i h = absurd h
matched_get P (x ∷ xs) [] i h = absurd h
matched_get P (x ∷ xs) (y ∷ ys) zero h = h.0
matched_get P (x ∷ xs) (y ∷ ys) (suc i) h = matched_get P xs ys i h.1

pub matched_length : {X Y : Type 0} (P : X → Y → Type 0) (xs : List X) (ys : List Y) → Matched P xs ys → length ys ≡ length xs
matched_length P [] [] h = refl
matched_length P [] (y ∷ ys) h = elim h [ ]
matched_length P (x ∷ xs) [] h = elim h [ ]
matched_length P (x ∷ xs) (y ∷ ys) h = ap suc (matched_length P xs ys h.1)

pub matched_push : {X Y : Type 0} (P : X → Y → Type 0) (xs : List X) (ys : List Y) (x : X) (y : Y) → Matched P xs ys → P x y → Matched P (xs ++ x ∷ []) (ys ++ y ∷ [])
matched_push P [] [] x y h p = (p, tt)
matched_push P (a ∷ xs) (b ∷ ys) x y h p = (h.0, matched_push P xs ys x y h.1 p)
matched_push P [] (b ∷ ys) x y h p = elim h [ ]
matched_push P (a ∷ xs) [] x y h p = elim h [ ]

pub matched_at : {X Y : Type 0} (P : X → Y → Type 0) (xs : List X) (ys : List Y) → Matched P xs ys → (i : ℕ) (x : X) (y : Y) → slice_get xs i ≡ Some x → slice_get ys i ≡ Some y → P x y
matched_at P [] ys h i x y a b = cc
matched_at P (u ∷ xs) [] h i x y a b = elim h [ ]
matched_at {X = X} P (u ∷ xs) (v ∷ ys) h zero x y a b = subst (λ (z : X). P z y) (same_Some u x a) (subst (P u) (same_Some v y b) h.0)
matched_at P (u ∷ xs) (v ∷ ys) h (suc i) x y a b = matched_at P xs ys h.1 i x y a b

-- lists joined end to end, matched part by part
pub matched_append : {X Y : Type 0} (P : X → Y → Type 0) (xs xs' : List X) (ys ys' : List Y) → Matched P xs ys → Matched P xs' ys' → Matched P (xs ++ xs') (ys ++ ys')
matched_append P [] xs' [] ys' h h' = h'
matched_append P [] xs' (y ∷ ys) ys' h h' = elim h [ ]
matched_append P (x ∷ xs) xs' [] ys' h h' = elim h [ ]
matched_append P (x ∷ xs) xs' (y ∷ ys) ys' h h' = (h.0, matched_append P xs xs' ys ys' h.1 h')

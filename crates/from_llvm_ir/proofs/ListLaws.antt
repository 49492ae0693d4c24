-- Lists item by item: matched lists, and first uses.
use Rattle.std.proofs.Common.{ℕ, ◌≡◌, ◌+◌, inl, inr, refl, sym, subst, List, [], ◌∷◌, ◌++◌, Some, length, take, map, slice_get, get_or, arith}
use Rattle.std.proofs.lemmas.Option.{slice_get_within}
use Rattle.dialect_types.proofs.TreeLemmas.{push_cases}
use Rattle.meaning.proofs.MatchedLaws.{matched_push}
use Rattle.support.proofs.ListLaws.{slice_get-kept, take_next}
use Rattle.dialect_core.proofs.ListLemmas.{slice_get-last}
use Rattle.meaning.specs.Pairs.{Matched}
use Rattle.from_llvm_ir.specs.Imported.{IsIn, FirstUses, NoUses, UsedAgain, UsedFirst}

-- ---- matched lists

-- matched place by place
pub matched_from : {X Y : Type 0} (P : X → Y → Type 0) (xs : List X) (ys : List Y) → length ys ≡ length xs → ((i : ℕ) (x : X) (y : Y) → slice_get xs i ≡ Some x → slice_get ys i ≡ Some y → P x y) → Matched P xs ys
matched_from P [] [] n h = tt
matched_from P [] (y ∷ ys) n h = absurd (omega (arith, n))
matched_from P (x ∷ xs) [] n h = absurd (omega (arith, n))
matched_from P (x ∷ xs) (y ∷ ys) n h = (h 0 x y refl refl, matched_from P xs ys (omega (arith, n)) (λ i a b at_a at_b. h (ℕ.suc i) a b at_a at_b))

pub matched_map : {X Y X' Y' : Type 0} (P : X → Y → Type 0) (Q : X' → Y' → Type 0) (f : X → X') (g : Y → Y') (xs : List X) (ys : List Y) → ((x : X) (y : Y) → P x y → Q (f x) (g y)) → Matched P xs ys → Matched Q (map f xs) (map g ys)
matched_map P Q f g [] [] k h = tt
matched_map P Q f g [] (y ∷ ys) k h = elim h [ ]
matched_map P Q f g (x ∷ xs) [] k h = elim h [ ]
matched_map P Q f g (x ∷ xs) (y ∷ ys) k h = (k x y h.0, matched_map P Q f g xs ys k h.1)

-- an item of the one list has its item of the other
pub other_there : {X Y : Type 0} (xs : List X) (ys : List Y) (i : ℕ) (x : X) → length ys ≡ length xs → slice_get xs i ≡ Some x → (y : Y) × (slice_get ys i ≡ Some y)
other_there xs [] i x n h = absurd (omega (arith, n, slice_get_within xs i x h))
other_there [] (y ∷ ys) i x n h = absurd (omega (arith, n))
other_there (u ∷ xs) (y ∷ ys) ℕ.zero x n h = (y, refl)
other_there (u ∷ xs) (y ∷ ys) (ℕ.suc i) x n h = other_there xs ys i x (omega (arith, n)) h

-- two lists of one item, or of two
pub matched_one : {X Y : Type 0} (P : X → Y → Type 0) (xs : List X) (d : X) (ys : List Y) (y : Y) → length xs ≡ 1 → ys ≡ y ∷ [] → P (get_or xs 0 d) y → Matched P xs ys
matched_one P [] d ys y one is p = absurd (omega (arith, one))
matched_one P (x ∷ []) d ys y one is p = rw is (p, tt)
matched_one P (x ∷ w ∷ xs) d ys y one is p = absurd (omega (arith, one))

pub matched_two : {X Y : Type 0} (P : X → Y → Type 0) (xs : List X) (d e : X) (ys : List Y) (y z : Y) → length xs ≡ 2 → ys ≡ y ∷ z ∷ [] → P (get_or xs 0 d) y → P (get_or xs 1 e) z → Matched P xs ys
matched_two P [] d e ys y z two is p q = absurd (omega (arith, two))
matched_two P (x ∷ []) d e ys y z two is p q = absurd (omega (arith, two))
matched_two P (x ∷ w ∷ []) d e ys y z two is p q = rw is (p, (q, tt))
matched_two P (x ∷ w ∷ v ∷ xs) d e ys y z two is p q = absurd (omega (arith, two))

-- ---- first uses

in_more : {A : Type 0} (xs : List A) (y x : A) → IsIn xs x → IsIn (xs ++ y ∷ []) x
in_more xs y x h = (h.0, slice_get-kept xs (y ∷ []) h.0 x h.1)

pub in_last : {A : Type 0} (xs : List A) (x : A) → IsIn (xs ++ x ∷ []) x
in_last xs x = (length xs, slice_get-last xs x)

-- each use stands among the first uses
pub first_in : {A : Type 0} (uses firsts : List A) → FirstUses uses firsts → (x : A) → IsIn uses x → IsIn firsts x
first_in uses firsts NoUses x h = let none = h.1 in cc
first_in {A = A} uses firsts (UsedAgain us fs y more there) x h = elim (push_cases us y x h.0 h.1) [
  | inl old ↦ first_in us fs more x (h.0, old)
  | inr new ↦ subst (IsIn fs) (sym new.0) there
]
first_in uses firsts (UsedFirst us fs y more fresh) x h = elim (push_cases us y x h.0 h.1) [
  | inl old ↦ in_more fs y x (first_in us fs more x (h.0, old))
  | inr new ↦ subst (IsIn (fs ++ y ∷ [])) (sym new.0) (in_last fs y)
]

-- and is one
pub first_used : {A : Type 0} (uses firsts : List A) → FirstUses uses firsts → (x : A) → IsIn firsts x → IsIn uses x
first_used uses firsts NoUses x h = h
first_used uses firsts (UsedAgain us fs y more there) x h = in_more us y x (first_used us fs more x h)
first_used uses firsts (UsedFirst us fs y more fresh) x h = elim (push_cases fs y x h.0 h.1) [
  | inl old ↦ in_more us y x (first_used us fs more x (h.0, old))
  | inr new ↦ subst (IsIn (us ++ y ∷ [])) (sym new.0) (in_last us y)
]

pub matched_weaker : {X Y : Type 0} (P Q : X → Y → Type 0) → ((x : X) (y : Y) → P x y → Q x y) → (xs : List X) (ys : List Y) → Matched P xs ys → Matched Q xs ys
matched_weaker P Q k [] [] h = tt
matched_weaker P Q k [] (y ∷ ys) h = elim h [ ]
matched_weaker P Q k (x ∷ xs) [] h = elim h [ ]
matched_weaker P Q k (x ∷ xs) (y ∷ ys) h = (k x y h.0, matched_weaker P Q k xs ys h.1)

-- one item more of the one list, and one of the other
pub matched_next : {X Y : Type 0} (P : X → Y → Type 0) (xs : List X) (i : ℕ) (x : X) (ys zs : List Y) (y : Y) → slice_get xs i ≡ Some x → Matched P (take i xs) ys → P x y → zs ≡ ys ++ y ∷ [] → Matched P (take (i + 1) xs) zs
matched_next {X = X} {Y = Y} P xs i x ys zs y at h p is = subst (λ (ws : List Y). Matched P (take (i + 1) xs) ws) (sym is) (subst (λ (us : List X). Matched P us (ys ++ y ∷ [])) (sym (take_next xs i x at)) (matched_push P (take i xs) ys x y h p))

-- Tests of all items of a list, item by item.
use Rattle.std.proofs.Common.{◌≡◌, ◌+◌, ℕ, zero, suc, Bool, true, false, ◌&&◌, List, [], ◌∷◌, Some, map, take, slice_get, refl, sym, ap, ◌∙◌, All}
use Rattle.std.specs.Bool.{Decides}
use Rattle.std.specs.List.{list_all}
use Rattle.std.proofs.lemmas.List.Folds.{list_all_at, list_all_more, list_all-map}
use Rattle.std.proofs.lemmas.Bool.{and_from, and_parts}
use Rattle.std.proofs.lemmas.Bool.Decides.{Decides-and, Decides-like}
use Rattle.std.proofs.lemmas.List.Elements.{All-nil, All-cons, All-head, All-tail}
use Rattle.std.proofs.lemmas.Option.{slice_get_within, get_or_from_slice_get, same_Some}

module _ {X : Type 0} (p : X → Bool) (xs : List X) (i : ℕ) (x : X) (at : slice_get xs i ≡ Some x) where
  -- where one fails the test, not all pass
  pub one_fails : p x ≡ false → list_all p xs ≡ false
  one_fails fails = list_all_at p xs i x (slice_get_within xs i x at) (ap p (get_or_from_slice_get xs i x x at) ∙ fails)

  -- one more passes
  pub one_more : list_all p (take i xs) ≡ true → p x ≡ true → list_all p (take (i + 1) xs) ≡ true
  one_more before passes =
      let here = ap p (get_or_from_slice_get xs i x x at) ∙ passes in
      list_all_more p xs i x (slice_get_within xs i x at) ∙ rw (before, here) refl

pub all_mapped : {X Y : Type 0} (p : X → Bool) (h : Y → X) (ys : List Y) → list_all p (map h ys) ≡ list_all (λ (y : Y). p (h y)) ys
all_mapped p h ys = list_all-map p h ys

-- where all pass, each does
pub each_passes : {X : Type 0} (p : X → Bool) (xs : List X) (i : ℕ) (x : X) → list_all p xs ≡ true → slice_get xs i ≡ Some x → p x ≡ true
each_passes p [] i x all at = cc
each_passes p (y ∷ ys) zero x all at = ap p (sym (same_Some y x at)) ∙ (and_parts (p y) (list_all p ys) all).0
each_passes p (y ∷ ys) (suc i) x all at = each_passes p ys i x (and_parts (p y) (list_all p ys) all).1 at

-- all pass where each does
pub all_pass : {X : Type 0} (p : X → Bool) (xs : List X) → ((i : ℕ) (x : X) → slice_get xs i ≡ Some x → p x ≡ true) → list_all p xs ≡ true
all_pass p [] each = refl
all_pass p (x ∷ xs) each = and_from (p x) (list_all p xs) (each 0 x refl) (all_pass p xs (λ i y at. each (suc i) y at))

-- where the test of each item decides what is said of what it is mapped to, the test of all does
pub mapped_decided : {X Y : Type 0} (p : X → Bool) (P : Y → Type 0) (h : X → Y) (xs : List X) → ((i : ℕ) (x : X) → slice_get xs i ≡ Some x → Decides (p x) (P (h x))) → Decides (list_all p xs) (All P (map h xs))
mapped_decided p P h [] each = (λ e. All-nil P, λ all. refl)
mapped_decided p P h (x ∷ xs) each =
    Decides-like (p x && list_all p xs) (λ both. All-cons P (h x) (map h xs) both.0 both.1) (λ all. (All-head P (h x) (map h xs) all, All-tail P (h x) (map h xs) all))
    (Decides-and (p x) (list_all p xs) (each 0 x refl) (mapped_decided p P h xs (λ i y at. each (suc i) y at)))

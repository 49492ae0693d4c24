-- Where items stand in lists that are made of others: of what each item gives, or picked by number.
use Rattle.std.proofs.Common.{◌≡◌, ◌≢◌, ◌⊎◌, inl, inr, ℕ, zero, suc, Bool, true, false, nat_eq, if◌then◌else◌, List, [], ◌∷◌, ◌++◌, Option, None, Some, slice_get, refl, sym, ap, ◌∙◌, arith, eq-eqb}
use Rattle.std.specs.List.{list_any, filter, filter_map, flat_map, cons_option}
use Rattle.std.specs.Option.{option_map_or}
use Rattle.std.proofs.lemmas.Bool.{eqb-true, ne_eqb, or_from, or_parts}
use Rattle.std.proofs.lemmas.Option.{same_Some}

-- ---- what holds at each place

pub none_any : {X : Type 0} (p : X → Bool) (xs : List X) → ((i : ℕ) (x : X) → slice_get xs i ≡ Some x → p x ≡ false) → list_any p xs ≡ false
none_any p [] each = refl
none_any p (x ∷ xs) each = or_from (p x) (list_any p xs) (each 0 x refl) (none_any p xs (λ i y at. each (suc i) y at))

pub none_any_at : {X : Type 0} (p : X → Bool) (xs : List X) (i : ℕ) (x : X) → list_any p xs ≡ false → slice_get xs i ≡ Some x → p x ≡ false
none_any_at p [] i x none at = cc
none_any_at p (y ∷ xs) zero x none at = let same : y ≡ x = same_Some y x at in ap p (sym same) ∙ (or_parts (p y) (list_any p xs) none).0
none_any_at p (y ∷ xs) (suc i) x none at = none_any_at p xs i x (or_parts (p y) (list_any p xs) none).1 at

-- ---- what each item gives

-- where each item of a list gives one, what stands at a place is given by what stands there
pub given_at : {X Y : Type 0} (h : X → Option Y) (xs : List X) → ((i : ℕ) (x : X) → slice_get xs i ≡ Some x → (y : Y) × (h x ≡ Some y))
    → (i : ℕ) (y : Y) → slice_get (filter_map h xs) i ≡ Some y → (x : X) × (slice_get xs i ≡ Some x) × (h x ≡ Some y)
given_at h [] all i y at = absurd cc
given_at h (x ∷ xs) all zero y at =
    let here = all 0 x refl in
    (x, refl, here.1 ∙ (sym (ap (λ o. slice_get (cons_option o (filter_map h xs)) 0) here.1) ∙ at))
given_at h (x ∷ xs) all (suc i) y at =
    let here = all 0 x refl in
    given_at h xs (λ j w is. all (suc j) w is) i y (sym (ap (λ o. slice_get (cons_option o (filter_map h xs)) (suc i)) here.1) ∙ at)

pub flat_map-filter_map : {X Y A : Type 0} (f : X → List A) (g : Y → List A) (h : X → Option Y) → ((x : X) → f x ≡ option_map_or g (h x) []) → (xs : List X) → flat_map f xs ≡ flat_map g (filter_map h xs)
flat_map-filter_map f g h same [] = refl
flat_map-filter_map {X} {Y} {A} f g h same (x ∷ xs) = ap (λ ys. ys ++ flat_map f xs) (same x) ∙ by (h x) (flat_map-filter_map f g h same xs)
  where
    by : (o : Option Y) → flat_map f xs ≡ flat_map g (filter_map h xs) → option_map_or g o [] ++ flat_map f xs ≡ flat_map g (cons_option o (filter_map h xs))
    by None rest = rest
    by (Some y) rest = ap (λ ys. g y ++ ys) rest

-- ---- items picked by number

module _ {X : Type 0} (number : X → ℕ) (n : ℕ) where
  abbrev pub picked : List X → List X
  picked xs = filter (λ (x : X). nat_eq (number x) n) xs

  pub picked_none : (xs : List X) → ((i : ℕ) (x : X) → slice_get xs i ≡ Some x → number x ≢ n) → picked xs ≡ []
  picked_none [] none = refl
  picked_none (x ∷ xs) none = rw (ne_eqb (number x) n (none 0 x refl)) (picked_none xs (λ i y at. none (suc i) y at))

  -- the one item of a number is all that is picked
  pub picked_one : (xs : List X) (i : ℕ) (x : X) → ((i j : ℕ) (x y : X) → slice_get xs i ≡ Some x → slice_get xs j ≡ Some y → number x ≡ number y → i ≡ j) → slice_get xs i ≡ Some x → number x ≡ n → picked xs ≡ x ∷ []
  picked_one [] i x once at is = cc
  picked_one (w ∷ xs) zero x once at is =
      let same : w ≡ x = same_Some w x at in
      let here : number w ≡ n = ap number same ∙ is in
      let none = picked_none xs (λ j y there e. absurd (let apart : 0 ≡ suc j = once 0 (suc j) w y refl there (here ∙ sym e) in omega (arith, apart))) in
      rw (eq-eqb (number w) n here) (ap (λ ys. w ∷ ys) none ∙ ap (λ y. y ∷ []) same)
  picked_one (w ∷ xs) (suc i) x once at is =
      let other : number w ≢ n = λ e. absurd (let apart : 0 ≡ suc i = once 0 (suc i) w x refl at (e ∙ sym is) in omega (arith, apart)) in
      let rest = picked_one xs i x (λ j k y z at_j at_k e. (let same : suc j ≡ suc k = once (suc j) (suc k) y z at_j at_k e in omega (arith, same))) at is in
      rw (ne_eqb (number w) n other) rest

  pub picked_cases : (xs : List X) → ((i : ℕ) × (x : X) × (slice_get xs i ≡ Some x) × (number x ≡ n)) ⊎ (picked xs ≡ [])
  picked_cases [] = inr refl
  picked_cases (x ∷ xs) = by (nat_eq (number x) n) refl (picked_cases xs)
    where
      by : (b : Bool) → nat_eq (number x) n ≡ b → ((i : ℕ) × (y : X) × (slice_get xs i ≡ Some y) × (number y ≡ n)) ⊎ (picked xs ≡ [])
          → ((i : ℕ) × (y : X) × (slice_get (x ∷ xs) i ≡ Some y) × (number y ≡ n)) ⊎ ((if b then x ∷ picked xs else picked xs) ≡ [])
      by true e rest = inl (0, x, refl, eqb-true (number x) n e)
      by false e (inl r) = inl (suc r.0, r.1, r.2, r.3)
      by false e (inr none) = inr none

-- Two lists side by side: what holds of each pair of items at one place.
use Rattle.std.proofs.Common.{◌≡◌, ℕ, zero, suc, Bool, true, false, cond, List, [], ◌∷◌, ◌++◌, length, map, slice_get, Some, refl, ap, subst}
use Rattle.std.specs.List.{AllZip, flat_map, filter}

-- the numbers stand at one place of the two lists
pub record SamePlace (xs ys : List ℕ) (m n : ℕ) : Type 0 where
  pub place : ℕ
  pub left : slice_get xs place ≡ Some m
  pub right : slice_get ys place ≡ Some n

module _ {X Y : Type 0} where
  abbrev pub SameLength : List X → List Y → Type 0
  SameLength xs ys = length xs ≡ length ys

  pub zip_length : (R : X → Y → Type 0) (xs : List X) (ys : List Y) → AllZip R xs ys → SameLength xs ys
  zip_length R [] [] h = refl
  zip_length R [] (y ∷ ys) h = elim h [ ]
  zip_length R (x ∷ xs) [] h = elim h [ ]
  zip_length R (x ∷ xs) (y ∷ ys) h = ap suc (zip_length R xs ys h.1)

  pub zip_weaker : (R S : X → Y → Type 0) (xs : List X) (ys : List Y) → ((x : X) (y : Y) → R x y → S x y) → AllZip R xs ys → AllZip S xs ys
  zip_weaker R S [] [] weaker h = tt
  zip_weaker R S [] (y ∷ ys) weaker h = elim h [ ]
  zip_weaker R S (x ∷ xs) [] weaker h = elim h [ ]
  zip_weaker R S (x ∷ xs) (y ∷ ys) weaker h = (weaker x y h.0, zip_weaker R S xs ys weaker h.1)

  pub zip_both : (R : X → Y → Type 0) (xs more : List X) (ys rest : List Y) → AllZip R xs ys → AllZip R more rest → AllZip R (xs ++ more) (ys ++ rest)
  zip_both R [] more [] rest h k = k
  zip_both R [] more (y ∷ ys) rest h k = elim h [ ]
  zip_both R (x ∷ xs) more [] rest h k = elim h [ ]
  zip_both R (x ∷ xs) more (y ∷ ys) rest h k = (h.0, zip_both R xs more ys rest h.1 k)

  -- the item of the other list at the place of an item
  pub zip_right : (R : X → Y → Type 0) (xs : List X) (ys : List Y) → AllZip R xs ys → (i : ℕ) (y : Y) → slice_get ys i ≡ Some y → (x : X) × (slice_get xs i ≡ Some x) × R x y
  zip_right R [] [] h i y at = absurd cc
  zip_right R [] (z ∷ ys) h i y at = elim h [ ]
  zip_right R (x ∷ xs) [] h i y at = elim h [ ]
  zip_right R (x ∷ xs) (z ∷ ys) h zero y at = (x, refl, subst (R x) (let same : z ≡ y = cc in same) h.0)
  zip_right R (x ∷ xs) (z ∷ ys) h (suc i) y at = zip_right R xs ys h.1 i y at

  pub zip_left : (R : X → Y → Type 0) (xs : List X) (ys : List Y) → AllZip R xs ys → (i : ℕ) (x : X) → slice_get xs i ≡ Some x → (y : Y) × (slice_get ys i ≡ Some y) × R x y
  zip_left R [] [] h i x at = absurd cc
  zip_left R [] (y ∷ ys) h i x at = elim h [ ]
  zip_left R (z ∷ xs) [] h i x at = elim h [ ]
  zip_left R (z ∷ xs) (y ∷ ys) h zero x at = (y, refl, subst (λ (x : X). R x y) (let same : z ≡ x = cc in same) h.0)
  zip_left R (z ∷ xs) (y ∷ ys) h (suc i) x at = zip_left R xs ys h.1 i x at

  pub zip_filtered : (R : X → Y → Type 0) (p : X → Bool) (q : Y → Bool) → ((x : X) (y : Y) → R x y → p x ≡ q y) → (xs : List X) (ys : List Y) → AllZip R xs ys → AllZip R (filter p xs) (filter q ys)
  zip_filtered R p q same [] [] h = tt
  zip_filtered R p q same [] (y ∷ ys) h = elim h [ ]
  zip_filtered R p q same (x ∷ xs) [] h = elim h [ ]
  zip_filtered R p q same (x ∷ xs) (y ∷ ys) h = subst (λ (c : Bool). AllZip R (cond (p x) (x ∷ filter p xs) (filter p xs)) (cond c (y ∷ filter q ys) (filter q ys))) (same x y h.0) (by (p x) (zip_filtered R p q same xs ys h.1))
    where
      by : (c : Bool) → AllZip R (filter p xs) (filter q ys) → AllZip R (cond c (x ∷ filter p xs) (filter p xs)) (cond c (y ∷ filter q ys) (filter q ys))
      by true rest = (h.0, rest)
      by false rest = rest

module _ {X Y A B : Type 0} where
  pub zip_mapped : (R : A → B → Type 0) (f : X → A) (g : Y → B) (xs : List X) (ys : List Y) → AllZip (λ (x : X) (y : Y). R (f x) (g y)) xs ys → AllZip R (map f xs) (map g ys)
  zip_mapped R f g [] [] h = tt
  zip_mapped R f g [] (y ∷ ys) h = elim h [ ]
  zip_mapped R f g (x ∷ xs) [] h = elim h [ ]
  zip_mapped R f g (x ∷ xs) (y ∷ ys) h = (h.0, zip_mapped R f g xs ys h.1)

  pub zip_flat : (R : A → B → Type 0) (f : X → List A) (g : Y → List B) (xs : List X) (ys : List Y) → AllZip (λ (x : X) (y : Y). AllZip R (f x) (g y)) xs ys → AllZip R (flat_map f xs) (flat_map g ys)
  zip_flat R f g [] [] h = tt
  zip_flat R f g [] (y ∷ ys) h = elim h [ ]
  zip_flat R f g (x ∷ xs) [] h = elim h [ ]
  zip_flat R f g (x ∷ xs) (y ∷ ys) h = zip_both R (f x) (flat_map f xs) (g y) (flat_map g ys) h.0 (zip_flat R f g xs ys h.1)

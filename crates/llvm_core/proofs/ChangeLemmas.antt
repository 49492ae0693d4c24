-- Lists of numbered items whose store grows or changes.
use Rattle.std.proofs.Common.{◌≡◌, ◌≢◌, ◌+◌, ℕ, zero, suc, List, [], ◌∷◌, ◌++◌, Option, None, Some, length, slice_get, slice_set, map, ap, sym, ◌∙◌, refl, arith, All}
use Rattle.std.specs.List.{filter_map, cons_option, enumerate_from}
use Rattle.std.specs.Option.{option_map, option_map_or}
use Rattle.std.proofs.lemmas.List.Elements.{All-head, All-tail}
use Rattle.support.specs.Changes.{with_change}

pub mapped_same : {X Y : Type 0} (f g : ℕ × X → Y) (n : ℕ) (xs : List X) → ((k i : ℕ) (x : X) → k ≡ n + i → slice_get xs i ≡ Some x → f (k, x) ≡ g (k, x)) → map f (enumerate_from n xs) ≡ map g (enumerate_from n xs)
mapped_same f g n [] same = refl
mapped_same f g n (x ∷ xs) same =
    let e = same n 0 x (omega arith) refl in
    let d = mapped_same f g (n + 1) xs (λ k i y at is. same k (suc i) y (omega arith) is) in
    cc

-- one more item
pub mapped_push : {X Y : Type 0} (f : ℕ × X → Y) (n : ℕ) (xs : List X) (x : X) → map f (enumerate_from n (xs ++ x ∷ [])) ≡ map f (enumerate_from n xs) ++ f (n + length xs, x) ∷ []
mapped_push f n [] x = let e : n + 0 ≡ n = omega arith in ap (λ (k : ℕ). f (k, x) ∷ []) (sym e)
mapped_push f n (y ∷ xs) x =
    let e : n + 1 + length xs ≡ n + suc (length xs) = omega arith in
    ap (λ ys. f (n, y) ∷ ys) (mapped_push f (n + 1) xs x ∙ ap (λ (k : ℕ). map f (enumerate_from (n + 1) xs) ++ f (k, x) ∷ []) e)

pub with_change-cons : {X : Type 0} (c : X → X) (i : ℕ) (x : X) (xs : List X) → with_change c (suc i) (x ∷ xs) ≡ x ∷ with_change c i xs
with_change-cons {X} c i x xs = by (slice_get xs i)
  where
    by : (o : Option X) → option_map_or (λ y. slice_set (x ∷ xs) (suc i) (c y)) o (x ∷ xs) ≡ x ∷ option_map_or (λ y. slice_set xs i (c y)) o xs
    by None = refl
    by (Some y) = refl

-- each item changed
pub mapped_then : {X Y : Type 0} (f g : ℕ × X → Y) (h : Y → Y) (n : ℕ) (xs : List X) → ((k i : ℕ) (x : X) → k ≡ n + i → slice_get xs i ≡ Some x → f (k, x) ≡ h (g (k, x))) → map f (enumerate_from n xs) ≡ map h (map g (enumerate_from n xs))
mapped_then f g h n [] same = refl
mapped_then f g h n (x ∷ xs) same =
    let e = same n 0 x (omega arith) refl in
    let d = mapped_then f g h (n + 1) xs (λ k i y at is. same k (suc i) y (omega arith) is) in
    cc

-- one changed item
pub mapped_change : {X Y : Type 0} (f g : ℕ × X → Y) (h : Y → Y) (c : X → X) (i n : ℕ) (xs : List X)
    → ((k j : ℕ) (x : X) → k ≡ n + j → j ≢ i → slice_get xs j ≡ Some x → f (k, x) ≡ h (g (k, x)))
    → ((k : ℕ) (x : X) → k ≡ n + i → slice_get xs i ≡ Some x → f (k, c x) ≡ h (g (k, x)))
    → map f (enumerate_from n (with_change c i xs)) ≡ map h (map g (enumerate_from n xs))
mapped_change f g h c i n [] other here = refl
mapped_change f g h c zero n (x ∷ xs) other here =
    let e = here n x (omega arith) refl in
    let d = mapped_then f g h (n + 1) xs (λ k j y at is. other k (suc j) y (omega arith) (omega arith) is) in
    cc
mapped_change f g h c (suc i) n (x ∷ xs) other here =
    let e = other n 0 x (omega arith) (omega arith) refl in
    let d = mapped_change f g h c i (n + 1) xs (λ k j y at ne is. other k (suc j) y (omega arith) (omega arith) is) (λ k y at is. here k y (omega arith) is) in
    ap (λ ys. map f (enumerate_from n ys)) (with_change-cons c i x xs) ∙ (cc)

pub filter_map-same : {X Y : Type 0} (f g : X → Option Y) (xs : List X) → All (λ x. f x ≡ g x) xs → filter_map f xs ≡ filter_map g xs
filter_map-same f g [] all = refl
filter_map-same f g (x ∷ xs) all =
    let e = All-head (λ x. f x ≡ g x) x xs all in
    let d = filter_map-same f g xs (All-tail (λ x. f x ≡ g x) x xs all) in
    ap (λ o. cons_option o (filter_map f xs)) e ∙ ap (cons_option (g x)) d

pub filter_map-mapped : {X Y : Type 0} (f g : X → Option Y) (h : Y → Y) (xs : List X) → All (λ x. f x ≡ option_map h (g x)) xs → filter_map f xs ≡ map h (filter_map g xs)
filter_map-mapped f g h [] all = refl
filter_map-mapped {X} {Y} f g h (x ∷ xs) all =
    let e = All-head (λ x. f x ≡ option_map h (g x)) x xs all in
    let d = filter_map-mapped f g h xs (All-tail (λ x. f x ≡ option_map h (g x)) x xs all) in
    ap (λ o. cons_option o (filter_map f xs)) e ∙ ap (cons_option (option_map h (g x))) d ∙ by (g x)
  where
    by : (o : Option Y) → cons_option (option_map h o) (map h (filter_map g xs)) ≡ map h (cons_option o (filter_map g xs))
    by None = refl
    by (Some y) = refl

pub slice_get-changed : {X : Type 0} (c : X → X) (i : ℕ) (xs : List X) → slice_get (with_change c i xs) i ≡ option_map c (slice_get xs i)
slice_get-changed c i [] = refl
slice_get-changed c zero (x ∷ xs) = refl
slice_get-changed c (suc i) (x ∷ xs) = ap (λ ys. slice_get ys (suc i)) (with_change-cons c i x xs) ∙ slice_get-changed c i xs

pub slice_get-unchanged : {X : Type 0} (c : X → X) (i j : ℕ) (xs : List X) → j ≢ i → slice_get (with_change c i xs) j ≡ slice_get xs j
slice_get-unchanged c i j [] ne = refl
slice_get-unchanged c zero zero (x ∷ xs) ne = absurd (ne refl)
slice_get-unchanged c zero (suc j) (x ∷ xs) ne = refl
slice_get-unchanged c (suc i) zero (x ∷ xs) ne = ap (λ ys. slice_get ys 0) (with_change-cons c i x xs)
slice_get-unchanged c (suc i) (suc j) (x ∷ xs) ne = ap (λ ys. slice_get ys (suc j)) (with_change-cons c i x xs) ∙ slice_get-unchanged c i j xs (λ e. ne (ap suc e))

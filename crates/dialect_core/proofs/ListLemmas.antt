-- Lists after one item was appended or replaced.
use Rattle.std.proofs.Common.{◌≡◌, ◌<◌, ℕ, zero, suc, List, [], ◌∷◌, ◌++◌, Option, Some, None, length, map, slice_get, slice_set, ap, refl, arith}
use Rattle.std.specs.Option.{option_and_then}

-- an item of which f says nothing changes nothing that f says
pub push_silent : {X Y : Type 0} (f : X → Option Y) (xs : List X) (x : X) (i : ℕ) → f x ≡ None → option_and_then f (slice_get (xs ++ x ∷ []) i) ≡ option_and_then f (slice_get xs i)
push_silent f [] x zero h = h
push_silent f [] x (suc i) h = refl
push_silent f (y ∷ xs) x zero h = refl
push_silent f (y ∷ xs) x (suc i) h = push_silent f xs x i h

pub slice_get-last : {X : Type 0} (xs : List X) (x : X) → slice_get (xs ++ x ∷ []) (length xs) ≡ Some x
slice_get-last [] x = refl
slice_get-last (y ∷ xs) x = slice_get-last xs x

pub slice_get-set_same : {X : Type 0} (xs : List X) (i : ℕ) (x : X) → i < length xs → slice_get (slice_set xs i x) i ≡ Some x
slice_get-set_same [] i x h = absurd (omega arith)
slice_get-set_same (y ∷ xs) zero x h = refl
slice_get-set_same (y ∷ xs) (suc i) x h = slice_get-set_same xs i x (omega arith)

pub slice_get-set_other : {X : Type 0} (xs : List X) (i j : ℕ) (x : X) → ¬ (j ≡ i) → slice_get (slice_set xs i x) j ≡ slice_get xs j
slice_get-set_other [] i j x h = refl
slice_get-set_other (y ∷ xs) zero zero x h = absurd (h refl)
slice_get-set_other (y ∷ xs) zero (suc j) x h = refl
slice_get-set_other (y ∷ xs) (suc i) zero x h = refl
slice_get-set_other (y ∷ xs) (suc i) (suc j) x h = slice_get-set_other xs i j x (λ e. h (ap suc e))

-- functions that agree on the items of a list
pub map_same : {X Y : Type 0} (f g : X → Y) (xs : List X) → ((i : ℕ) (x : X) → slice_get xs i ≡ Some x → f x ≡ g x) → map f xs ≡ map g xs
map_same f g [] h = refl
map_same f g (x ∷ xs) h = let e = h 0 x refl in let rest = map_same f g xs (λ i y at. h (suc i) y at) in cc

-- functions that agree on all items but the one that is replaced
pub map_set_same : {X Y : Type 0} (f g : X → Y) (xs : List X) (i : ℕ) (y : Y) → ((j : ℕ) (x : X) → ¬ (j ≡ i) → slice_get xs j ≡ Some x → f x ≡ g x) → slice_set (map f xs) i y ≡ slice_set (map g xs) i y
map_set_same f g [] i y h = refl
map_set_same f g (x ∷ xs) zero y h = ap (λ (ys : List _). y ∷ ys) (map_same f g xs (λ j z at. h (suc j) z (λ e. cc) at))
map_set_same f g (x ∷ xs) (suc i) y h =
    let e = h 0 x (λ e. cc) refl in
    let rest = map_set_same f g xs i y (λ j z apart at. h (suc j) z (λ e. apart (omega arith)) at) in
    cc

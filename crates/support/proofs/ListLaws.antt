-- Lists by what stands at their places: lists that grow, change at one place, are joined, cut or filtered.
use Rattle.std.proofs.Common.{◌≡◌, ◌≢◌, ◌<◌, ◌+◌, ◌⊎◌, ℕ, zero, suc, Bool, true, false, if◌then◌else◌, List, [], ◌∷◌, ◌++◌, Option, Some, None, All, Contains, length, map, filter, take, drop, get_or, slice_get, slice_set, sym, ap, ◌∙◌, refl, inl, inr, arith}
use Rattle.std.specs.List.{flat_map}
use Rattle.std.specs.Option.{option_map_or}
use Rattle.std.proofs.lemmas.List.{append_assoc, append-nil, flat_map_more, map-append, take-append-le, take_all, take_more}
use Rattle.std.proofs.lemmas.List.Elements.{All-nil, All-cons}
use Rattle.std.proofs.lemmas.Grind.{flat_map-append}
use Rattle.std.proofs.lemmas.Option.{none-some, same_Some, slice_get_within, get_or_from_slice_get}
use Rattle.std.proofs.lemmas.Bool.{cond-true}
use Rattle.support.specs.Changes.{with_change}
use Rattle.support.specs.Interned.{IsDistinctList}

pub slice_get-kept : {X : Type 0} (xs ys : List X) (i : ℕ) (x : X) → slice_get xs i ≡ Some x → slice_get (xs ++ ys) i ≡ Some x
slice_get-kept [] ys i x h = cc
slice_get-kept (z ∷ xs) ys zero x h = h
slice_get-kept (z ∷ xs) ys (suc i) x h = slice_get-kept xs ys i x h

-- an item of a list that grew by one is an old one or the new one
pub slice_get-push_cases : {X : Type 0} (xs : List X) (y : X) (i : ℕ) (x : X) → slice_get (xs ++ y ∷ []) i ≡ Some x → (slice_get xs i ≡ Some x) ⊎ ((i ≡ length xs) × (x ≡ y))
slice_get-push_cases [] y zero x h = inr (refl, sym (same_Some y x h))
slice_get-push_cases [] y (suc i) x h = cc
slice_get-push_cases (z ∷ xs) y zero x h = inl h
slice_get-push_cases (z ∷ xs) y (suc i) x h = elim (slice_get-push_cases xs y i x h) [ inl old ↦ inl old | inr new ↦ inr (ap suc new.0, new.1) ]

pub slice_get-push : {X : Type 0} (xs : List X) (y : X) (i : ℕ) → i ≡ length xs → slice_get (xs ++ y ∷ []) i ≡ Some y
slice_get-push [] y zero h = refl
slice_get-push [] y (suc i) h = absurd (omega arith)
slice_get-push (z ∷ xs) y zero h = absurd (omega arith)
slice_get-push (z ∷ xs) y (suc i) h = slice_get-push xs y i (omega arith)

pub slice_get-set_cases : {X : Type 0} (xs : List X) (i j : ℕ) (x y : X) → slice_get (slice_set xs i x) j ≡ Some y → ((j ≡ i) × (y ≡ x)) ⊎ (slice_get xs j ≡ Some y)
slice_get-set_cases [] i j x y h = inr h
slice_get-set_cases (z ∷ xs) zero zero x y h = inl (refl, sym (same_Some x y h))
slice_get-set_cases (z ∷ xs) zero (suc j) x y h = inr h
slice_get-set_cases (z ∷ xs) (suc i) zero x y h = inr h
slice_get-set_cases (z ∷ xs) (suc i) (suc j) x y h = elim (slice_get-set_cases xs i j x y h) [ inl new ↦ inl (ap suc new.0, new.1) | inr old ↦ inr old ]

pub length-slice_set : {X : Type 0} (xs : List X) (i : ℕ) (x : X) → length (slice_set xs i x) ≡ length xs
length-slice_set [] i x = refl
length-slice_set (z ∷ xs) zero x = refl
length-slice_set (z ∷ xs) (suc i) x = ap suc (length-slice_set xs i x)

-- an item of a list of which one item changed is an old one or the changed one
pub change_cases : {X : Type 0} (f : X → X) (i : ℕ) (xs : List X) (j : ℕ) (y : X) → slice_get (with_change f i xs) j ≡ Some y
    → ((x : X) × (slice_get xs j ≡ Some x) × (j ≡ i) × (y ≡ f x)) ⊎ (slice_get xs j ≡ Some y)
change_cases {X} f i xs j y h = by (slice_get xs i) refl h
  where
    by : (o : Option X) → slice_get xs i ≡ o → slice_get (option_map_or (λ x. slice_set xs i (f x)) o xs) j ≡ Some y
        → ((x : X) × (slice_get xs j ≡ Some x) × (j ≡ i) × (y ≡ f x)) ⊎ (slice_get xs j ≡ Some y)
    by None e h = inr h
    by (Some x) e h = elim (slice_get-set_cases xs i j (f x) y h) [ inl new ↦ inl (x, ap (slice_get xs) new.0 ∙ e, new.0, new.1) | inr old ↦ inr old ]

pub length-with_change : {X : Type 0} (f : X → X) (i : ℕ) (xs : List X) → length (with_change f i xs) ≡ length xs
length-with_change {X} f i xs = by (slice_get xs i)
  where
    by : (o : Option X) → length (option_map_or (λ x. slice_set xs i (f x)) o xs) ≡ length xs
    by None = refl
    by (Some x) = length-slice_set xs i (f x)

pub slice_get-set_same : {X : Type 0} (xs : List X) (i : ℕ) (w x : X) → slice_get xs i ≡ Some w → slice_get (slice_set xs i x) i ≡ Some x
slice_get-set_same [] i w x h = cc
slice_get-set_same (z ∷ xs) zero w x h = refl
slice_get-set_same (z ∷ xs) (suc i) w x h = slice_get-set_same xs i w x h

pub slice_get-set_other : {X : Type 0} (xs : List X) (i j : ℕ) (x : X) → j ≢ i → slice_get (slice_set xs i x) j ≡ slice_get xs j
slice_get-set_other [] i j x ne = refl
slice_get-set_other (z ∷ xs) zero zero x ne = absurd (ne refl)
slice_get-set_other (z ∷ xs) zero (suc j) x ne = refl
slice_get-set_other (z ∷ xs) (suc i) zero x ne = refl
slice_get-set_other (z ∷ xs) (suc i) (suc j) x ne = slice_get-set_other xs i j x (λ e. ne (ap suc e))

-- ---- lists in which nothing stands twice

pub distinct_nil : {X : Type 0} → IsDistinctList {X = X} []
distinct_nil i j x at also = cc

pub distinct_push : {X : Type 0} (xs : List X) (y : X) → IsDistinctList xs → ((i : ℕ) → ¬ (slice_get xs i ≡ Some y)) → IsDistinctList (xs ++ y ∷ [])
distinct_push {X} xs y h fresh i j x at also = by (slice_get-push_cases xs y i x at) (slice_get-push_cases xs y j x also)
  where
    by : (slice_get xs i ≡ Some x) ⊎ ((i ≡ length xs) × (x ≡ y)) → (slice_get xs j ≡ Some x) ⊎ ((j ≡ length xs) × (x ≡ y)) → i ≡ j
    by (inl a) (inl b) = h i j x a b
    by (inr a) (inr b) = a.0 ∙ sym b.0
    by (inl a) (inr b) = absurd (fresh i (a ∙ ap Some b.1))
    by (inr a) (inl b) = absurd (fresh j (b ∙ ap Some a.1))

-- ---- lists made item by item

-- one more item, for one more of the list that it is made from
pub mapped_next : {X Y : Type 0} (f : X → Y) (xs : List X) (i : ℕ) (d : X) (made new : List Y) → i < length xs → made ≡ map f (take i xs) → new ≡ made ++ f (get_or xs i d) ∷ [] → new ≡ map f (take (i + 1) xs)
mapped_next f xs i d made new lt before pushed = pushed ∙ ap (λ ys. ys ++ f (get_or xs i d) ∷ []) before ∙ sym (ap (map f) (take_more xs i d lt) ∙ map-append f (take i xs) _)

-- more items, for one more of the list that they are made from
pub gathered_next : {X Y : Type 0} (f : X → List Y) (xs : List X) (i : ℕ) (d : X) (first made new : List Y) → i < length xs → made ≡ first ++ flat_map f (take i xs) → new ≡ made ++ f (get_or xs i d) → new ≡ first ++ flat_map f (take (i + 1) xs)
gathered_next f xs i d first made new lt before pushed =
    pushed ∙ ap (λ ys. ys ++ f (get_or xs i d)) before ∙ flat_map_more f first (take i xs) (get_or xs i d) ∙ ap (λ ys. first ++ flat_map f ys) (sym (take_more xs i d lt))

-- a list in place of the first items of another, as many as are kept
pub written_back : {X : Type 0} (n : ℕ) (xs ys : List X) → length ys ≡ n → take n (ys ++ drop (length ys) xs) ≡ ys
written_back n xs ys e = take-append-le n ys (drop (length ys) xs) (omega (arith, e)) ∙ take_all n ys (omega (arith, e))

-- ---- what holds of each item

pub all_from : {X : Type 0} (P : X → Type 0) (xs : List X) → ((i : ℕ) (x : X) → slice_get xs i ≡ Some x → P x) → All P xs
all_from P [] h = All-nil P
all_from P (x ∷ xs) h = All-cons P x xs (h 0 x refl) (all_from P xs (λ i y at. h (suc i) y at))

pub contains_at : {X : Type 0} (xs : List X) (i : ℕ) (x : X) → slice_get xs i ≡ Some x → Contains xs x
contains_at xs i x at = (i, slice_get_within xs i x at, get_or_from_slice_get xs i x x at)

-- ---- places of a part of a list

pub item_there : {X : Type 0} (xs : List X) (i : ℕ) → i < length xs → (x : X) × (slice_get xs i ≡ Some x)
item_there [] i lt = absurd (omega (arith, lt))
item_there (x ∷ xs) zero lt = (x, refl)
item_there (x ∷ xs) (suc i) lt = item_there xs i (omega (arith, lt))

pub slice_get-before : {X : Type 0} (xs ys : List X) (i : ℕ) → i < length xs → slice_get (xs ++ ys) i ≡ slice_get xs i
slice_get-before [] ys i lt = absurd (omega arith)
slice_get-before (x ∷ xs) ys zero lt = refl
slice_get-before (x ∷ xs) ys (suc i) lt = slice_get-before xs ys i (omega arith)

pub slice_get-behind : {X : Type 0} (xs ys : List X) (i : ℕ) → slice_get (xs ++ ys) (length xs + i) ≡ slice_get ys i
slice_get-behind [] ys i = ap (slice_get ys) (let e : 0 + i ≡ i = omega arith in e)
slice_get-behind (x ∷ xs) ys i = ap (slice_get (x ∷ (xs ++ ys))) (let e : suc (length xs) + i ≡ suc (length xs + i) = omega arith in e) ∙ slice_get-behind xs ys i

-- an item of two lists is one of the first, or one of the second
pub slice_get-behind_cases : {X : Type 0} (xs ys : List X) (i : ℕ) (x : X) → slice_get (xs ++ ys) i ≡ Some x → (slice_get xs i ≡ Some x) ⊎ ((j : ℕ) × (i ≡ length xs + j) × (slice_get ys j ≡ Some x))
slice_get-behind_cases [] ys i x h = inr (i, omega arith, h)
slice_get-behind_cases (z ∷ xs) ys zero x h = inl h
slice_get-behind_cases (z ∷ xs) ys (suc i) x h = elim (slice_get-behind_cases xs ys i x h) [ inl old ↦ inl old | inr new ↦ inr (new.0, (let e = new.1 in omega (arith, e)), new.2) ]

pub slice_get-take : {X : Type 0} (i : ℕ) (xs : List X) (j : ℕ) (x : X) → slice_get (take i xs) j ≡ Some x → (j < i) × (slice_get xs j ≡ Some x)
slice_get-take zero xs j x h = cc
slice_get-take (suc i) [] j x h = cc
slice_get-take (suc i) (y ∷ xs) zero x h = (omega arith, h)
slice_get-take (suc i) (y ∷ xs) (suc j) x h = let r = slice_get-take i xs j x h in (omega (arith, r.0), r.1)

pub take_next : {X : Type 0} (xs : List X) (k : ℕ) (x : X) → slice_get xs k ≡ Some x → take (k + 1) xs ≡ take k xs ++ x ∷ []
take_next xs k x h = take_more xs k x (slice_get_within xs k x h) ∙ ap (λ (y : _). take k xs ++ y ∷ []) (get_or_from_slice_get xs k x x h)

-- ---- lists joined end to end

pub slice_get-append_right : {X : Type 0} (xs ys : List X) (i : ℕ) (x : X) → slice_get ys i ≡ Some x → (k : ℕ) × (slice_get (xs ++ ys) k ≡ Some x)
slice_get-append_right [] ys i x at = (i, at)
slice_get-append_right (w ∷ xs) ys i x at = let r = slice_get-append_right xs ys i x at in (suc r.0, r.1)

pub slice_get-append_cases : {X : Type 0} (xs ys : List X) (i : ℕ) (x : X) → slice_get (xs ++ ys) i ≡ Some x → (slice_get xs i ≡ Some x) ⊎ ((k : ℕ) × (slice_get ys k ≡ Some x))
slice_get-append_cases [] ys i x at = inr (i, at)
slice_get-append_cases (w ∷ xs) ys zero x at = inl at
slice_get-append_cases (w ∷ xs) ys (suc i) x at = slice_get-append_cases xs ys i x at

-- an item of a part stands in the whole
pub in_joined : {X A : Type 0} (f : X → List A) (xs : List X) (i j : ℕ) (x : X) (a : A) → slice_get xs i ≡ Some x → slice_get (f x) j ≡ Some a → (k : ℕ) × (slice_get (flat_map f xs) k ≡ Some a)
in_joined f [] i j x a at is = cc
in_joined f (w ∷ xs) zero j x a at is = (j, slice_get-kept (f w) (flat_map f xs) j a (ap (λ y. slice_get (f y) j) (same_Some w x at) ∙ is))
in_joined f (w ∷ xs) (suc i) j x a at is = let r = in_joined f xs i j x a at is in slice_get-append_right (f w) (flat_map f xs) r.0 a r.1

-- an item of the whole stands in a part
pub from_joined : {X A : Type 0} (f : X → List A) (xs : List X) (k : ℕ) (a : A) → slice_get (flat_map f xs) k ≡ Some a → (i : ℕ) × (j : ℕ) × (x : X) × (slice_get xs i ≡ Some x) × (slice_get (f x) j ≡ Some a)
from_joined f [] k a at = cc
from_joined f (x ∷ xs) k a at = elim (slice_get-append_cases (f x) (flat_map f xs) k a at) [
  | inl here ↦ (0, k, x, refl, here)
  | inr later ↦ (let r = from_joined f xs later.0 a later.1 in (suc r.0, r.1, r.2, r.3, r.4))
]

-- one more item of a list
pub flat_map-take_more : {X Y : Type 0} (g : X → List Y) (xs : List X) (i : ℕ) (d : X) → i < length xs → flat_map g (take (i + 1) xs) ≡ flat_map g (take i xs) ++ g (get_or xs i d)
flat_map-take_more g xs i d h =
    ap (flat_map g) (take_more xs i d h) ∙ flat_map-append g (take i xs) (get_or xs i d ∷ []) ∙ ap (λ ys. flat_map g (take i xs) ++ ys) (append-nil (g (get_or xs i d)))

-- two texts one after the other
pub appended_twice : (start mid end a b : List ℕ) → mid ≡ start ++ a → end ≡ mid ++ b → end ≡ start ++ (a ++ b)
appended_twice start mid end a b e f = f ∙ ap (λ (x : List ℕ). x ++ b) e ∙ append_assoc start a b

-- ---- what a filter keeps

abbrev IsKept : {X : Type 0} → (X → Bool) → X → List X → Type 0
IsKept p x xs = (i : ℕ) → slice_get (filter p xs) i ≡ Some x → (j : ℕ) × (slice_get xs j ≡ Some x) × (p x ≡ true)

-- what a test keeps is in the list, each at a place of its own
pub filter_from : {X : Type 0} (p : X → Bool) (xs : List X) (i : ℕ) (x : X) → slice_get (filter p xs) i ≡ Some x → (j : ℕ) × (slice_get xs j ≡ Some x) × (p x ≡ true)
filter_from p [] i x h = absurd (none-some x h)
filter_from {X} p (y ∷ xs) i x h = by (p y) refl h (λ j k. filter_from p xs j x k)
  where
    later : IsKept p x xs → (i : ℕ) → slice_get (filter p xs) i ≡ Some x → (j : ℕ) × (slice_get (y ∷ xs) j ≡ Some x) × (p x ≡ true)
    later rest i k = let r = rest i k in (suc r.0, r.1, r.2)

    first : IsKept p x xs → (i : ℕ) → p y ≡ true → slice_get (y ∷ filter p xs) i ≡ Some x → (j : ℕ) × (slice_get (y ∷ xs) j ≡ Some x) × (p x ≡ true)
    first rest zero e k = (0, k, ap p (sym (same_Some y x k)) ∙ e)
    first rest (suc i) e k = later rest i k

    by : (t : Bool) → p y ≡ t → slice_get (if t then y ∷ filter p xs else filter p xs) i ≡ Some x → IsKept p x xs → (j : ℕ) × (slice_get (y ∷ xs) j ≡ Some x) × (p x ≡ true)
    by true e k rest = first rest i e k
    by false e k rest = later rest i k

-- and what it passes is kept
pub filter_at : {X : Type 0} (p : X → Bool) (xs : List X) (k : ℕ) (x : X) → slice_get xs k ≡ Some x → p x ≡ true → (i : ℕ) × (slice_get (filter p xs) i ≡ Some x)
filter_at p [] k x at keeps = absurd (none-some x at)
filter_at p (y ∷ xs) zero x at keeps =
    let same : y ≡ x = same_Some y x at in
    (0, ap (λ ys. slice_get ys 0) (cond-true (p y) (y ∷ filter p xs) (filter p xs) (ap p same ∙ keeps)) ∙ ap Some same)
filter_at {X} p (y ∷ xs) (suc k) x at keeps = by (p y) (filter_at p xs k x at keeps)
  where
    by : (t : Bool) → (i : ℕ) × (slice_get (filter p xs) i ≡ Some x) → (i : ℕ) × (slice_get (if t then y ∷ filter p xs else filter p xs) i ≡ Some x)
    by true r = (suc r.0, r.1)
    by false r = r

-- ---- lists in which nothing stands twice, from their first item on

pub distinct_rest : {X : Type 0} (x : X) (xs : List X) → IsDistinctList (x ∷ xs) → IsDistinctList xs
distinct_rest x xs h i j y at at' = let k : suc i ≡ suc j = h (suc i) (suc j) y at at' in omega (arith, k)

-- Items of lists by their places.
use Rattle.std.proofs.Common.{◌≡◌, ◌<◌, ◌+◌, ℕ, zero, suc, Bool, true, false, nat_eq, if◌then◌else◌, List, [], ◌∷◌, ◌++◌, Option, Some, None, All, length, map, take, drop, slice_get, get_or, filter, refl, sym, ap, subst, ◌∙◌, arith, eq-eqb, ne_eqb, eqb-true, ⊎_elim}
use Rattle.std.specs.List.{Contains, filter_map, cons_option, find, position_from}
use Rattle.std.proofs.lemmas.Option.{same_Some, none-some, slice_get_within, get_or_from_slice_get, slice_get-get_or}
use Rattle.std.proofs.lemmas.Bool.{cond-true, cond-false}
use Rattle.std.proofs.lemmas.List.{take_more}
use Rattle.std.proofs.lemmas.List.Elements.{filter_map-append, All-head, All-tail, All-get_or}
use Rattle.support.specs.Interned.{IsDistinctList}
use Rattle.support.proofs.ListLaws.{slice_get-kept, all_from, slice_get-behind, slice_get-behind_cases, filter_from}
use Rattle.meaning.specs.Pairs.{Matched}
use Rattle.meaning.proofs.MatchedLaws.{matched_push}

-- ---- items that hold a property

pub all_at : {X : Type 0} (P : X → Type 0) (xs : List X) (i : ℕ) (x : X) → All P xs → slice_get xs i ≡ Some x → P x
all_at P xs i x all at = subst P (get_or_from_slice_get xs i x x at) (All-get_or P xs i x (slice_get_within xs i x at) all)

pub all_weaker_at : {X : Type 0} (P Q : X → Type 0) (xs : List X) → All P xs → ((i : ℕ) (x : X) → slice_get xs i ≡ Some x → P x → Q x) → All Q xs
all_weaker_at P Q xs all h = all_from Q xs (λ i x at. h i x at (all_at P xs i x all at))

-- ---- members

pub at_contains : {X : Type 0} (xs : List X) (x : X) → Contains xs x → (i : ℕ) × (slice_get xs i ≡ Some x)
at_contains xs x h = (h.0, slice_get-get_or xs h.0 x h.1 ∙ ap Some h.2)

-- ---- parts

pub at_middle : {X : Type 0} (xs : List X) (y : X) (ys : List X) → slice_get (xs ++ y ∷ ys) (length xs) ≡ Some y
at_middle [] y ys = refl
at_middle (x ∷ xs) y ys = at_middle xs y ys

-- an item splits its list
pub split_at : {X : Type 0} (xs : List X) (i : ℕ) (x : X) → slice_get xs i ≡ Some x → (xs ≡ take i xs ++ x ∷ drop (suc i) xs) × (length (take i xs) ≡ i)
split_at [] i x h = absurd (none-some x h)
split_at (y ∷ xs) zero x h = (ap (λ z. z ∷ xs) (same_Some y x h), refl)
split_at (y ∷ xs) (suc i) x h = let r = split_at xs i x h in (ap (λ zs. y ∷ zs) r.0, ap suc r.1)

pub take_suc : {X : Type 0} (xs : List X) (i : ℕ) (x : X) → slice_get xs i ≡ Some x → take (suc i) xs ≡ take i xs ++ x ∷ []
take_suc [] i x h = absurd (none-some x h)
take_suc (y ∷ xs) zero x h = ap (λ z. z ∷ []) (same_Some y x h)
take_suc (y ∷ xs) (suc i) x h = ap (λ zs. y ∷ zs) (take_suc xs i x h)

pub drop_at : {X : Type 0} (xs : List X) (i : ℕ) (x : X) → slice_get xs i ≡ Some x → drop i xs ≡ x ∷ drop (suc i) xs
drop_at [] i x h = absurd (none-some x h)
drop_at (y ∷ xs) zero x h = ap (λ z. z ∷ xs) (same_Some y x h)
drop_at (y ∷ xs) (suc i) x h = drop_at xs i x h

-- ---- no item twice

-- no two items have one number
abbrev pub AreNumbered : {X : Type 0} → (X → ℕ) → List X → Type 0
AreNumbered {X} number xs = (i j : ℕ) (a b : X) → slice_get xs i ≡ Some a → slice_get xs j ≡ Some b → number a ≡ number b → i ≡ j

pub numbered_rest : {X : Type 0} (number : X → ℕ) (x : X) (xs : List X) → AreNumbered number (x ∷ xs) → AreNumbered number xs
numbered_rest number x xs h i j a b p q e = let k : suc i ≡ suc j = h (suc i) (suc j) a b p q e in omega (arith, k)

pub numbered_front : {X : Type 0} (number : X → ℕ) (xs ys : List X) → AreNumbered number (xs ++ ys) → AreNumbered number xs
numbered_front number xs ys h i j a b p q e = h i j a b (slice_get-kept xs ys i a p) (slice_get-kept xs ys j b q) e

pub numbered_back : {X : Type 0} (number : X → ℕ) (xs ys : List X) → AreNumbered number (xs ++ ys) → AreNumbered number ys
numbered_back number xs ys h i j a b p q e =
    let k = h (length xs + i) (length xs + j) a b (slice_get-behind xs ys i ∙ p) (slice_get-behind xs ys j ∙ q) e in omega (arith, k)

-- an item of the first list has another number than one of the second
pub numbered_apart : {X : Type 0} (number : X → ℕ) (xs ys : List X) → AreNumbered number (xs ++ ys) → (i j : ℕ) (a b : X) → slice_get xs i ≡ Some a → slice_get ys j ≡ Some b → number a ≡ number b → ⊥
numbered_apart number xs ys h i j a b p q e =
    let k = h i (length xs + j) a b (slice_get-kept xs ys i a p) (slice_get-behind xs ys j ∙ q) e in
    let lt = slice_get_within xs i a p in
    omega (arith, k, lt)

pub filter_numbered : {X : Type 0} (number : X → ℕ) (p : X → Bool) (xs : List X) → AreNumbered number xs → AreNumbered number (filter p xs)
filter_numbered number p [] h = λ i j a b at at' e. absurd (none-some a at)
filter_numbered {X} number p (y ∷ xs) h = by (p y) (filter_numbered number p xs (numbered_rest number y xs h))
  where
    other : (i : ℕ) (b : X) → slice_get (filter p xs) i ≡ Some b → number y ≡ number b → ⊥
    other i b at e = let r = filter_from p xs i b at in let k : 0 ≡ suc r.0 = h 0 (suc r.0) y b refl r.1 e in omega (arith, k)

    with_first : AreNumbered number (filter p xs) → AreNumbered number (y ∷ filter p xs)
    with_first k zero zero a b at at' e = refl
    with_first k zero (suc j) a b at at' e = absurd (other j b at' (ap number (same_Some y a at) ∙ e))
    with_first k (suc i) zero a b at at' e = absurd (other i a at (ap number (same_Some y b at') ∙ sym e))
    with_first k (suc i) (suc j) a b at at' e = ap suc (k i j a b at at' e)

    by : (t : Bool) → AreNumbered number (filter p xs) → AreNumbered number (if t then y ∷ filter p xs else filter p xs)
    by true k = with_first k
    by false k = k

pub distinct_cons : {X : Type 0} (x : X) (xs : List X) → ((j : ℕ) → slice_get xs j ≡ Some x → ⊥) → IsDistinctList xs → IsDistinctList (x ∷ xs)
distinct_cons x xs apart h zero zero y at at' = refl
distinct_cons x xs apart h zero (suc j) y at at' = absurd (apart j (at' ∙ ap Some (sym (same_Some x y at))))
distinct_cons x xs apart h (suc i) zero y at at' = absurd (apart i (at ∙ ap Some (sym (same_Some x y at'))))
distinct_cons x xs apart h (suc i) (suc j) y at at' = ap suc (h i j y at at')

pub distinct_append : {X : Type 0} (xs ys : List X) → IsDistinctList xs → IsDistinctList ys → ((i j : ℕ) (x : X) → slice_get xs i ≡ Some x → slice_get ys j ≡ Some x → ⊥) → IsDistinctList (xs ++ ys)
distinct_append xs ys h k apart i j x at at' = ⊎_elim
    (λ a. ⊎_elim (λ b. h i j x a b) (λ b. absurd (apart i b.0 x a b.2)) (slice_get-behind_cases xs ys j x at'))
    (λ a. ⊎_elim (λ b. absurd (apart j a.0 x b a.2)) (λ b. let same = k a.0 b.0 x a.2 b.2 in let p = a.1 in let q = b.1 in omega (arith, p, q, same)) (slice_get-behind_cases xs ys j x at'))
    (slice_get-behind_cases xs ys i x at)

-- ---- found items

-- an item is found by its number
pub find_numbered : {X : Type 0} (number : X → ℕ) (xs : List X) (i n : ℕ) (x : X) → AreNumbered number xs → slice_get xs i ≡ Some x → number x ≡ n → find (λ y. nat_eq (number y) n) xs ≡ Some x
find_numbered number [] i n x h at is = cc
find_numbered number (y ∷ xs) zero n x h at is =
    let same : y ≡ x = same_Some y x at in
    cond-true (nat_eq (number y) n) (Some y) (find (λ z. nat_eq (number z) n) xs) (eq-eqb (number y) n (ap number same ∙ is)) ∙ ap Some same
find_numbered number (y ∷ xs) (suc i) n x h at is =
    let ne : number y ≡ n → ⊥ = λ e. let k : 0 ≡ suc i = h 0 (suc i) y x refl at (e ∙ sym is) in omega (arith, k) in
    cond-false (nat_eq (number y) n) (Some y) (find (λ z. nat_eq (number z) n) xs) (ne_eqb (number y) n ne) ∙ find_numbered number xs i n x (numbered_rest number y xs h) at is

-- what is found has the number
pub found_numbered : {X : Type 0} (number : X → ℕ) (xs : List X) (n : ℕ) (x : X) → find (λ y. nat_eq (number y) n) xs ≡ Some x → (i : ℕ) × (slice_get xs i ≡ Some x) × (number x ≡ n)
found_numbered number [] n x h = absurd (none-some x h)
found_numbered {X} number (y ∷ xs) n x h = by (nat_eq (number y) n) refl h (λ k. found_numbered number xs n x k)
  where
    by : (t : Bool) → nat_eq (number y) n ≡ t → (if t then Some y else find (λ z. nat_eq (number z) n) xs) ≡ Some x → (find (λ z. nat_eq (number z) n) xs ≡ Some x → (i : ℕ) × (slice_get xs i ≡ Some x) × (number x ≡ n))
        → (i : ℕ) × (slice_get (y ∷ xs) i ≡ Some x) × (number x ≡ n)
    by true e k rest = (0, k, ap number (sym (same_Some y x k)) ∙ eqb-true (number y) n e)
    by false e k rest = let r = rest k in (suc r.0, r.1, r.2)

-- the place of an item by its number
pub position_numbered : {X : Type 0} (number : X → ℕ) (xs : List X) (i n k : ℕ) (x : X) → AreNumbered number xs → slice_get xs i ≡ Some x → number x ≡ n → position_from (λ y. nat_eq (number y) n) k xs ≡ Some (k + i)
position_numbered number [] i n k x h at is = absurd (none-some x at)
position_numbered number (y ∷ xs) zero n k x h at is =
    let same : y ≡ x = same_Some y x at in
    cond-true (nat_eq (number y) n) (Some k) (position_from (λ z. nat_eq (number z) n) (k + 1) xs) (eq-eqb (number y) n (ap number same ∙ is)) ∙ ap Some (let e : k ≡ k + 0 = omega arith in e)
position_numbered number (y ∷ xs) (suc i) n k x h at is =
    let ne : number y ≡ n → ⊥ = λ e. let k : 0 ≡ suc i = h 0 (suc i) y x refl at (e ∙ sym is) in omega (arith, k) in
    cond-false (nat_eq (number y) n) (Some k) (position_from (λ z. nat_eq (number z) n) (k + 1) xs) (ne_eqb (number y) n ne)
    ∙ position_numbered number xs i n (k + 1) x (numbered_rest number y xs h) at is ∙ ap Some (let e : k + 1 + i ≡ k + suc i = omega arith in e)

-- ---- what a list gives

pub filter_map_more : {X Y : Type 0} (h : X → Option Y) (xs : List X) (i : ℕ) (d : X) → i < length xs → filter_map h (take (i + 1) xs) ≡ filter_map h (take i xs) ++ filter_map h (get_or xs i d ∷ [])
filter_map_more h xs i d lt = rw (take_more xs i d lt) (filter_map-append h (take i xs) (get_or xs i d ∷ []))

cons_append : {Y : Type 0} (o : Option Y) (ys zs : List Y) → cons_option o (ys ++ zs) ≡ cons_option o ys ++ zs
cons_append None ys zs = refl
cons_append (Some y) ys zs = refl

-- what an item gives stands behind what those before it give
pub filter_map_at : {X Y : Type 0} (h : X → Option Y) (xs : List X) (i : ℕ) (d : X) (y : Y) → i < length xs → h (get_or xs i d) ≡ Some y → (rest : List Y) × (filter_map h xs ≡ filter_map h (take i xs) ++ y ∷ rest)
filter_map_at h [] i d y lt e = absurd (omega (arith, lt))
filter_map_at h (x ∷ xs) zero d y lt e = (filter_map h xs, ap (λ o. cons_option o (filter_map h xs)) e)
filter_map_at h (x ∷ xs) (suc i) d y lt e =
    let r = filter_map_at h xs i d y (omega (arith, lt)) e in
    (r.0, ap (cons_option (h x)) r.1 ∙ cons_append (h x) (filter_map h (take i xs)) (y ∷ r.0))

-- ---- filters that keep all or nothing

pub filter_all : {X : Type 0} (p : X → Bool) (xs : List X) → All (λ x. p x ≡ true) xs → filter p xs ≡ xs
filter_all p [] h = refl
filter_all p (x ∷ xs) h =
    cond-true (p x) (x ∷ filter p xs) (filter p xs) (All-head (λ y. p y ≡ true) x xs h) ∙ ap (λ ys. x ∷ ys) (filter_all p xs (All-tail (λ y. p y ≡ true) x xs h))

pub filter_none : {X : Type 0} (p : X → Bool) (xs : List X) → All (λ x. p x ≡ false) xs → filter p xs ≡ []
filter_none p [] h = refl
filter_none p (x ∷ xs) h =
    cond-false (p x) (x ∷ filter p xs) (filter p xs) (All-head (λ y. p y ≡ false) x xs h) ∙ filter_none p xs (All-tail (λ y. p y ≡ false) x xs h)

-- ---- lists of one length, item by item

pub matched_map : {A B X Y : Type 0} (P : A → B → Type 0) (f : X → A) (h : Y → B) (xs : List X) (ys : List Y) → length xs ≡ length ys → ((i : ℕ) (x : X) (y : Y) → slice_get xs i ≡ Some x → slice_get ys i ≡ Some y → P (f x) (h y)) → Matched P (map f xs) (map h ys)
matched_map P f h [] [] e same = tt
matched_map P f h [] (y ∷ ys) e same = absurd (omega (arith, e))
matched_map P f h (x ∷ xs) [] e same = absurd (omega (arith, e))
matched_map P f h (x ∷ xs) (y ∷ ys) e same = (same 0 x y refl refl, matched_map P f h xs ys (omega (arith, e)) (λ i a b p q. same (suc i) a b p q))

-- a choice by what an option is
pub by_option : {X : Type 0} (P : Type 0) (o : Option X) → (o ≡ None → P) → ((x : X) → o ≡ Some x → P) → P
by_option P None h k = h refl
by_option P (Some x) h k = k x refl

-- one item more of two lists that are matched item by item
pub matched_more : {X Y : Type 0} (P : X → Y → Type 0) (xs : List X) (i : ℕ) (x : X) (ys zs : List Y) (y : Y) → slice_get xs i ≡ Some x → zs ≡ ys ++ y ∷ [] → Matched P (take i xs) ys → P x y → Matched P (take (i + 1) xs) zs
matched_more P xs i x ys zs y at is h p =
    let more : take (i + 1) xs ≡ take i xs ++ x ∷ [] = ap (λ (j : ℕ). take j xs) (let e : i + 1 ≡ suc i = omega arith in e) ∙ take_suc xs i x at in
    rw (more, is) (matched_push P (take i xs) ys x y h p)

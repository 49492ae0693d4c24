-- Lists: what stands at a place, what a list contains, what stands before what.
use Rattle.std.proofs.Common.{◌≡◌, ◌≢◌, ◌<◌, ◌≤◌, ◌+◌, ◌-◌, ℕ, zero, suc, List, [], ◌∷◌, ◌++◌, Some, length, slice_get, get_or, sym, ap, ◌∙◌, refl, subst, arith, inl, inr, ◌⊎◌, All, AllPairs, Contains, length-append}
use Rattle.std.proofs.lemmas.List.{get_or_append_left, get_or-append_right, get_or-append-add, get_or_push, length_push}
use Rattle.std.proofs.lemmas.Grind.{get_or_default_zero}
use Rattle.std.proofs.lemmas.List.Elements.{Contains-get_or}
use Rattle.std.proofs.lemmas.Option.{slice_get_within, get_or_from_slice_get, slice_get-get_or}
use Rattle.std.proofs.lemmas.Bool.{cases_lt, cases_order}
use Rattle.block_order.specs.Order.{IsBefore}

-- ---- places

-- what stands at a place of the first of two lists end to end
pub get-left : {X : Type 0} (xs ys : List X) (i : ℕ) (a : X) → slice_get xs i ≡ Some a → slice_get (xs ++ ys) i ≡ Some a
get-left [] ys i a e = cc
get-left (x ∷ xs) ys zero a e = e
get-left (x ∷ xs) ys (suc i) a e = get-left xs ys i a e

-- and of the second
pub get-right : {X : Type 0} (xs ys : List X) (i : ℕ) (a : X) → slice_get ys i ≡ Some a → slice_get (xs ++ ys) (length xs + i) ≡ Some a
get-right xs ys i a e =
    slice_get-get_or (xs ++ ys) (length xs + i) a (omega (arith, slice_get_within ys i a e, length-append xs ys))
    ∙ ap Some (get_or-append-add xs ys i a ∙ get_or_from_slice_get ys i a a e)

-- the last place
pub get-push : {X : Type 0} (xs : List X) (y : X) → slice_get (xs ++ y ∷ []) (length xs) ≡ Some y
get-push [] y = refl
get-push (x ∷ xs) y = get-push xs y

-- a place of a list with one more is a place of the list, or the last one
pub get-push_cases : {X : Type 0} (xs : List X) (y : X) (i : ℕ) (a : X) → slice_get (xs ++ y ∷ []) i ≡ Some a → (slice_get xs i ≡ Some a) ⊎ ((i ≡ length xs) × (y ≡ a))
get-push_cases [] y zero a e = inr (refl, cc)
get-push_cases [] y (suc i) a e = cc
get-push_cases (x ∷ xs) y zero a e = inl e
get-push_cases (x ∷ xs) y (suc i) a e =
    elim (get-push_cases xs y i a e) [ inl h ↦ inl h | inr h ↦ inr (ap suc h.0, h.1) ]

-- ---- what a list contains

-- an element is at a place, and the other way round
pub contains_at : {X : Type 0} (xs : List X) (i : ℕ) (a : X) → slice_get xs i ≡ Some a → Contains xs a
contains_at xs i a e = (i, slice_get_within xs i a e, get_or_from_slice_get xs i a a e)

pub found_at : {X : Type 0} (xs : List X) (a : X) (h : Contains xs a) → slice_get xs h.0 ≡ Some a
found_at xs a h = slice_get-get_or xs h.0 a h.1 ∙ ap Some h.2

-- a number of a list stands at its place
pub place_of : (xs : List ℕ) (a : ℕ) (h : Contains xs a) → get_or xs h.0 0 ≡ a
place_of xs a h = sym (get_or_default_zero xs h.0 a h.1) ∙ h.2

pub contains_none : {X : Type 0} (a : X) → Contains [] a → ⊥
contains_none a h = omega (arith, h.1)

-- of a list with an element in front
pub contains_first : {X : Type 0} (x : X) (xs : List X) → Contains (x ∷ xs) x
contains_first x xs = (0, omega arith, refl)

pub contains_behind : {X : Type 0} (x : X) (xs : List X) (a : X) → Contains xs a → Contains (x ∷ xs) a
contains_behind x xs a h = (suc h.0, omega (arith, h.1), h.2)

pub contains_cons_cases : {X : Type 0} (x : X) (xs : List X) (a : X) → Contains (x ∷ xs) a → (x ≡ a) ⊎ Contains xs a
contains_cons_cases x xs a h = at h.0 h.1 h.2
  where
    at : (k : ℕ) → k < length (x ∷ xs) → get_or (x ∷ xs) k a ≡ a → (x ≡ a) ⊎ Contains xs a
    at zero within e = inl e
    at (suc k) within e = inr (k, omega arith, e)

-- the one element of a list
pub contains_one : {X : Type 0} (x : X) (a : X) → Contains (x ∷ []) a → x ≡ a
contains_one x a h = elim (contains_cons_cases x [] a h) [ inl e ↦ e | inr none ↦ absurd (contains_none a none) ]

-- ---- each element, each pair

-- of a front of the list
pub all-left : {X : Type 0} (P : X → Type 0) (xs ys : List X) → All P (xs ++ ys) → All P xs
all-left P xs ys h = λ k d within. subst P (get_or_append_left xs ys d k within) (h k d (omega (arith, length-append xs ys)))

-- of the last element
pub all_last : {X : Type 0} (P : X → Type 0) (xs : List X) (y : X) → All P (xs ++ y ∷ []) → P y
all_last P xs y h = subst P (get_or_push xs y y (length xs) refl) (h (length xs) y (omega (arith, length_push xs y)))

pub all_pairs-left : {X : Type 0} (R : X → X → Type 0) (xs ys : List X) → AllPairs R (xs ++ ys) → AllPairs R xs
all_pairs-left R xs ys h = λ i j d lt within.
    let first = get_or_append_left xs ys d i (omega (arith, lt, within)) in
    let second = get_or_append_left xs ys d j within in
    subst (λ v. R v (get_or xs j d)) first (subst (λ v. R (get_or (xs ++ ys) i d) v) second (h i j d lt (omega (arith, length-append xs ys))))

-- ---- lists in which nothing stands twice

-- two places of one element are one
pub same_place : (xs : List ℕ) (i j a : ℕ) → AllPairs (λ x y. x ≢ y) xs → slice_get xs i ≡ Some a → slice_get xs j ≡ Some a → i ≡ j
same_place xs i j a once e f =
    elim (cases_order i j) [
      | inl eq ↦ eq
      | inr ne ↦ elim ne [
        | inl lt ↦ absurd (once i j 0 lt (slice_get_within xs j a f) (get_or_from_slice_get xs i a 0 e ∙ sym (get_or_from_slice_get xs j a 0 f)))
        | inr gt ↦ absurd (once j i 0 gt (slice_get_within xs i a e) (get_or_from_slice_get xs j a 0 f ∙ sym (get_or_from_slice_get xs i a 0 e)))
      ]
    ]

pub once_none : AllPairs (λ (a b : ℕ). a ≢ b) []
once_none = λ i j d lt within. absurd (omega arith)

-- two lists end to end, where nothing stands in both
pub once_append : (xs ys : List ℕ) → AllPairs (λ a b. a ≢ b) xs → AllPairs (λ a b. a ≢ b) ys → ((a : ℕ) → Contains xs a → ¬ Contains ys a) → AllPairs (λ a b. a ≢ b) (xs ++ ys)
once_append xs ys first second apart = λ i j d lt within. λ e.
    let left = λ (k : ℕ) (in' : k < length xs). get_or_append_left xs ys d k in' in
    let right = λ (k : ℕ) (out : length xs ≤ k). get_or-append_right xs ys (length xs) k d refl out in
    let total = length-append xs ys in
    elim (cases_lt j (length xs)) [
      | inl j_left ↦
          let i_left : i < length xs = omega arith in
          first i j d lt j_left (sym (left i i_left) ∙ (e ∙ left j j_left))
      | inr j_right ↦ elim (cases_lt i (length xs)) [
        | inl i_left ↦
            let same : get_or xs i d ≡ get_or ys (j - length xs) d = sym (left i i_left) ∙ (e ∙ right j j_right) in
            apart (get_or xs i d) (Contains-get_or xs i d i_left) (subst (Contains ys) (sym same) (Contains-get_or ys (j - length xs) d (omega arith)))
        | inr i_right ↦
            second (i - length xs) (j - length xs) d (omega arith) (omega arith) (sym (right i i_right) ∙ (e ∙ right j j_right))
      ]
    ]

-- one more element in front, which is none of the others
pub once_cons : (x : ℕ) (xs : List ℕ) → AllPairs (λ a b. a ≢ b) xs → ¬ Contains xs x → AllPairs (λ a b. a ≢ b) (x ∷ xs)
once_cons x xs once new =
    once_append (x ∷ []) xs (λ i j d lt within. absurd (omega arith)) once (λ a h. λ k. new (subst (Contains xs) (sym (contains_one x a h)) k))

-- what stands in the first of two lists end to end does not stand in the second
pub once_apart : (xs ys : List ℕ) (a : ℕ) → AllPairs (λ x y. x ≢ y) (xs ++ ys) → Contains xs a → ¬ Contains ys a
once_apart xs ys a once h k =
    once h.0 (length xs + k.0) a (omega (arith, h.1)) (omega (arith, k.1, length-append xs ys))
    ((get_or_append_left xs ys a h.0 h.1 ∙ h.2) ∙ sym (get_or-append-add xs ys k.0 a ∙ k.2))

-- ---- what stands before what

pub before-left : (xs ys : List ℕ) (a b : ℕ) → IsBefore xs a b → IsBefore (xs ++ ys) a b
before-left xs ys a b h = record {
  place = h.place;
  later = h.later;
  in_order = h.in_order;
  is_first = get-left xs ys h.place a h.is_first;
  is_second = get-left xs ys h.later b h.is_second;
}

pub before-right : (xs ys : List ℕ) (a b : ℕ) → IsBefore ys a b → IsBefore (xs ++ ys) a b
before-right xs ys a b h = record {
  place = length xs + h.place;
  later = length xs + h.later;
  in_order = omega (arith, h.in_order);
  is_first = get-right xs ys h.place a h.is_first;
  is_second = get-right xs ys h.later b h.is_second;
}

-- what stands in the first of two lists end to end stands before what stands in the second
pub before_across : (xs ys : List ℕ) (a b : ℕ) → Contains xs a → Contains ys b → IsBefore (xs ++ ys) a b
before_across xs ys a b h k = record {
  place = h.0;
  later = length xs + k.0;
  in_order = omega (arith, h.1);
  is_first = get-left xs ys h.0 a (found_at xs a h);
  is_second = get-right xs ys k.0 b (found_at ys b k);
}

-- over three elements
pub before_trans : (xs : List ℕ) (a b c : ℕ) → AllPairs (λ x y. x ≢ y) xs → IsBefore xs a b → IsBefore xs b c → IsBefore xs a c
before_trans xs a b c once h k = record {
  place = h.place;
  later = k.later;
  in_order = omega (arith, h.in_order, k.in_order, same_place xs h.later k.place b once h.is_second k.is_first);
  is_first = h.is_first;
  is_second = k.is_second;
}

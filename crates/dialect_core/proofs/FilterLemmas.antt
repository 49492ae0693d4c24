-- `filter_map`, `map` and `flat_map` by functions that agree on the items of a list.
use Rattle.std.proofs.Common.{◌≡◌, ℕ, suc, Bool, true, false, nat_eq, if◌then◌else◌, List, [], ◌∷◌, ◌++◌, Option, Some, None, map, slice_get, slice_set, ap, sym, ◌∙◌, refl, inl, inr, arith}
use Rattle.std.specs.List.{filter_map, flat_map, cons_option}
use Rattle.std.specs.Option.{option_map, option_map_or}
use Rattle.std.proofs.lemmas.List.Elements.{filter_map-append}
use Rattle.std.proofs.lemmas.Option.{slice_get_within}
use Rattle.support.proofs.ListLaws.{slice_get-append_cases}
use Rattle.support.specs.Changes.{with_change}
use Rattle.dialect_core.proofs.ListLemmas.{slice_get-set_same, slice_get-set_other}

-- x is an item of the list
abbrev pub Member : {X : Type 0} → X → List X → Type 0
Member {X} x xs = (i : ℕ) × (slice_get xs i ≡ Some x)

pub filter_map_same : {X Y : Type 0} (f g : X → Option Y) (xs : List X) → ((i : ℕ) (x : X) → slice_get xs i ≡ Some x → g x ≡ f x) → filter_map g xs ≡ filter_map f xs
filter_map_same f g [] h = refl
filter_map_same f g (x ∷ xs) h = let e = h 0 x refl in let rest = filter_map_same f g xs (λ i y at. h (suc i) y at) in cc

pub filter_map_then : {X Y Z : Type 0} (f : X → Option Y) (g : X → Option Z) (k : Y → Z) (xs : List X) → ((i : ℕ) (x : X) → slice_get xs i ≡ Some x → g x ≡ option_map k (f x)) → filter_map g xs ≡ map k (filter_map f xs)
filter_map_then f g k [] h = refl
filter_map_then {Y = Y} {Z = Z} f g k (x ∷ xs) h =
    let rest = filter_map_then f g k xs (λ i y at. h (suc i) y at) in
    ap (λ (o : Option _). cons_option o (filter_map g xs)) (h 0 x refl) ∙ by (f x) rest
  where
    by : (o : Option Y) → filter_map g xs ≡ map k (filter_map f xs) → cons_option (option_map k o) (filter_map g xs) ≡ map k (cons_option o (filter_map f xs))
    by None rest = rest
    by (Some y) rest = ap (λ (zs : List Z). k y ∷ zs) rest

pub filter_map-push : {X Y : Type 0} (f : X → Option Y) (xs : List X) (x : X) → filter_map f (xs ++ x ∷ []) ≡ filter_map f xs ++ cons_option (f x) []
filter_map-push f [] x = refl
filter_map-push {Y = Y} f (y ∷ xs) x = by (f y) (filter_map-push f xs x)
  where
    by : (o : Option Y) → filter_map f (xs ++ x ∷ []) ≡ filter_map f xs ++ cons_option (f x) [] → cons_option o (filter_map f (xs ++ x ∷ [])) ≡ cons_option o (filter_map f xs) ++ cons_option (f x) []
    by None rest = rest
    by (Some z) rest = ap (λ (zs : List Y). z ∷ zs) rest

pub flat_map_same : {X Y : Type 0} (f g : X → List Y) (xs : List X) → ((i : ℕ) (x : X) → slice_get xs i ≡ Some x → g x ≡ f x) → flat_map g xs ≡ flat_map f xs
flat_map_same f g [] h = refl
flat_map_same f g (x ∷ xs) h = let e = h 0 x refl in let rest = flat_map_same f g xs (λ i y at. h (suc i) y at) in cc

pub flat_map-push : {X Y : Type 0} (f : X → List Y) (xs : List X) (x : X) → f x ≡ [] → flat_map f (xs ++ x ∷ []) ≡ flat_map f xs
flat_map-push f [] x h = ap (λ ys. ys ++ []) h
flat_map-push f (y ∷ xs) x h = ap (λ ys. f y ++ ys) (flat_map-push f xs x h)

-- an item that f leaves out adds nothing to the list of a block
pub flat_filter_same : {X Y Z : Type 0} (f : Y → Option Z) (a b : X → List Y) (xs : List X) → ((i : ℕ) (x : X) → slice_get xs i ≡ Some x → filter_map f (b x) ≡ filter_map f (a x)) → filter_map f (flat_map b xs) ≡ filter_map f (flat_map a xs)
flat_filter_same f a b [] h = refl
flat_filter_same f a b (x ∷ xs) h =
    let rest = flat_filter_same f a b xs (λ i y at. h (suc i) y at) in
    filter_map-append f (b x) (flat_map b xs) ∙ ap (λ zs. zs ++ filter_map f (flat_map b xs)) (h 0 x refl) ∙ ap (λ zs. filter_map f (a x) ++ zs) rest ∙ sym (filter_map-append f (a x) (flat_map a xs))

-- ---- a change at one place

-- what stands at a place after a change
pub change_get : {X : Type 0} (g : X → X) (i : ℕ) (xs : List X) (j : ℕ) → slice_get (with_change g i xs) j ≡ (if nat_eq j i then option_map g (slice_get xs j) else slice_get xs j)
change_get {X} g i xs j = by (slice_get xs i) refl
  where
    after : (x : X) → slice_get xs i ≡ Some x → (t : Bool) → nat_eq j i ≡ t → slice_get (slice_set xs i (g x)) j ≡ (if t then option_map g (slice_get xs j) else slice_get xs j)
    after x at true same =
        let e : j ≡ i = grind (arith, same) in
        ap (slice_get (slice_set xs i (g x))) e ∙ slice_get-set_same xs i (g x) (slice_get_within xs i x at) ∙ sym (ap (λ (n : ℕ). option_map g (slice_get xs n)) e ∙ ap (option_map g) at)
    after x at false differs = slice_get-set_other xs i j (g x) (λ same. grind (arith, differs, same))

    past : slice_get xs i ≡ None → (t : Bool) → nat_eq j i ≡ t → slice_get xs j ≡ (if t then option_map g (slice_get xs j) else slice_get xs j)
    past gone true same =
        let e : j ≡ i = grind (arith, same) in
        let here = ap (slice_get xs) e ∙ gone in
        here ∙ sym (ap (option_map g) here)
    past gone false differs = refl

    by : (o : Option X) → slice_get xs i ≡ o → slice_get (with_change g i xs) j ≡ (if nat_eq j i then option_map g (slice_get xs j) else slice_get xs j)
    by None gone = rw gone (past gone (nat_eq j i) refl)
    by (Some x) at = rw at (after x at (nat_eq j i) refl)

pub change_get_other : {X : Type 0} (g : X → X) (i : ℕ) (xs : List X) (j : ℕ) → ¬ (j ≡ i) → slice_get (with_change g i xs) j ≡ slice_get xs j
change_get_other {X} g i xs j apart = by (slice_get xs i)
  where
    by : (o : Option X) → slice_get (option_map_or (λ x. slice_set xs i (g x)) o xs) j ≡ slice_get xs j
    by None = refl
    by (Some x) = slice_get-set_other xs i j (g x) apart

-- ---- items of lists one after another

-- an item of the lists is one of some list
pub flat_member : {X Y : Type 0} (f : X → List Y) (xs : List X) (i : ℕ) (y : Y) → slice_get (flat_map f xs) i ≡ Some y → (x : X) × (k : ℕ) × (slice_get (f x) k ≡ Some y)
flat_member f [] i y h = cc
flat_member f (x ∷ xs) i y h = elim (slice_get-append_cases (f x) (flat_map f xs) i y h) [ inl here ↦ (x, i, here) | inr later ↦ flat_member f xs later.0 y later.1 ]

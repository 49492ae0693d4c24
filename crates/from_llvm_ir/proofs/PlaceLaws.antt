-- Items of lists by their places: in lists joined end to end, in fronts, in filters, and found by a number.
use Rattle.std.proofs.Common.{ℕ, ◌≡◌, ◌<◌, ◌+◌, inl, inr, refl, sym, ap, ◌∙◌, Bool, true, false, cond, nat_eq, List, [], ◌∷◌, ◌++◌, Option, Some, filter, length, take, map, slice_get, arith, eq-eqb, ne_eqb}
use Rattle.std.specs.List.{find, flat_map, filter_map, cons_option}
use Rattle.std.specs.Option.{option_map}
use Rattle.std.proofs.lemmas.List.{append-nil}
use Rattle.std.proofs.lemmas.List.Elements.{filter-append}
use Rattle.std.proofs.lemmas.List.Concat.{flat_map-append}
use Rattle.std.proofs.lemmas.Option.{same_Some, slice_get_within, slice_get-map}
use Rattle.support.proofs.ListLaws.{slice_get-behind, slice_get-kept, slice_get-behind_cases, take_next}

-- ---- fronts

pub untake : {X : Type 0} (xs : List X) (i j : ℕ) (x : X) → slice_get (take i xs) j ≡ Some x → (j < i) × (slice_get xs j ≡ Some x)
untake [] ℕ.zero j x h = cc
untake [] (ℕ.suc i) j x h = cc
untake (y ∷ xs) ℕ.zero j x h = cc
untake (y ∷ xs) (ℕ.suc i) ℕ.zero x h = (omega arith, h)
untake (y ∷ xs) (ℕ.suc i) (ℕ.suc j) x h = let rest = untake xs i j x h in (omega (arith, rest.0), rest.1)

pub retake : {X : Type 0} (xs : List X) (i j : ℕ) (x : X) → j < i → slice_get xs j ≡ Some x → slice_get (take i xs) j ≡ Some x
retake [] i j x lt h = cc
retake (y ∷ xs) ℕ.zero j x lt h = absurd (omega arith)
retake (y ∷ xs) (ℕ.suc i) ℕ.zero x lt h = h
retake (y ∷ xs) (ℕ.suc i) (ℕ.suc j) x lt h = retake xs i j x (omega arith) h

-- ---- lists joined end to end

-- where an item of a joined list comes from
pub record FlatAt {X Y : Type 0} (f : X → List Y) (xs : List X) (k : ℕ) (y : Y) : Type 0 where
  pub place : ℕ
  pub item : X
  pub here : slice_get xs place ≡ Some item
  pub inner : ℕ
  pub at : slice_get (f item) inner ≡ Some y
  pub index : k ≡ length (flat_map f (take place xs)) + inner

longer : {A : Type 0} (a b : List A) (j : ℕ) → length (a ++ b) + j ≡ length a + (length b + j)
longer [] b j = omega arith
longer (u ∷ a) b j = omega (arith, longer a b j)

pub flat_from : {X Y : Type 0} (f : X → List Y) (xs : List X) (k : ℕ) (y : Y) → slice_get (flat_map f xs) k ≡ Some y → FlatAt f xs k y
flat_from f [] k y h = cc
flat_from f (x ∷ xs) k y h = elim (slice_get-behind_cases (f x) (flat_map f xs) k y h) [
  | inl a ↦ record { place = 0; item = x; here = refl; inner = k; at = a; index = (let e : k ≡ 0 + k = omega arith in e) }
  | inr b ↦
      let r = flat_from f xs b.0 y b.2 in
      record { place = ℕ.suc r.place; item = r.item; here = r.here; inner = r.inner; at = r.at; index = (let e = longer (f x) (flat_map f (take r.place xs)) r.inner in let i = r.index in omega (arith, e, i, b.1)) }
]

pub flat_at : {X Y : Type 0} (f : X → List Y) (xs : List X) (i : ℕ) (x : X) (j : ℕ) (y : Y) → slice_get xs i ≡ Some x → slice_get (f x) j ≡ Some y → (k : ℕ) × (slice_get (flat_map f xs) k ≡ Some y)
flat_at f [] i x j y here at = cc
flat_at {Y = Y} f (z ∷ xs) ℕ.zero x j y here at =
    let same = same_Some z x here in
    (j, slice_get-kept (f z) (flat_map f xs) j y (ap (λ w. slice_get (f w) j) same ∙ at))
flat_at f (z ∷ xs) (ℕ.suc i) x j y here at =
    let r = flat_at f xs i x j y here at in
    (length (f z) + r.0, slice_get-behind (f z) (flat_map f xs) r.0 ∙ r.1)

-- the place of an item in a joined list, and what it says of the places that it comes from
pub flat_place : {X Y : Type 0} (f : X → List Y) (xs : List X) (i : ℕ) (x : X) (j : ℕ) (y : Y) → slice_get xs i ≡ Some x → slice_get (f x) j ≡ Some y → slice_get (flat_map f xs) (length (flat_map f (take i xs)) + j) ≡ Some y
flat_place f [] i x j y here at = cc
flat_place f (z ∷ xs) ℕ.zero x j y here at =
    let same = same_Some z x here in
    slice_get-kept (f z) (flat_map f xs) (0 + j) y (let e : 0 + j ≡ j = omega arith in ap (slice_get (f z)) e ∙ ap (λ w. slice_get (f w) j) same ∙ at)
flat_place f (z ∷ xs) (ℕ.suc i) x j y here at =
    ap (slice_get (f z ++ flat_map f xs)) (longer (f z) (flat_map f (take i xs)) j)
    ∙ slice_get-behind (f z) (flat_map f xs) (length (flat_map f (take i xs)) + j) ∙ flat_place f xs i x j y here at

-- items of distinct places of a joined list come from distinct places
pub flat_same : {X Y : Type 0} (f : X → List Y) (xs : List X) (i i' : ℕ) (x x' : X) (j j' : ℕ) (y y' : Y) → slice_get xs i ≡ Some x → slice_get xs i' ≡ Some x' → slice_get (f x) j ≡ Some y → slice_get (f x') j' ≡ Some y'
    → ((k k' : ℕ) → slice_get (flat_map f xs) k ≡ Some y → slice_get (flat_map f xs) k' ≡ Some y' → k ≡ k') → (i ≡ i') × (j ≡ j')
flat_same f [] i i' x x' j j' y y' here here' at at' one = cc
flat_same f (z ∷ xs) ℕ.zero ℕ.zero x x' j j' y y' here here' at at' one =
    let s = same_Some z x here in
    let s' = same_Some z x' here' in
    let e = one j j' (slice_get-kept (f z) (flat_map f xs) j y (ap (λ w. slice_get (f w) j) s ∙ at)) (slice_get-kept (f z) (flat_map f xs) j' y' (ap (λ w. slice_get (f w) j') s' ∙ at')) in
    (refl, e)
flat_same f (z ∷ xs) ℕ.zero (ℕ.suc i') x x' j j' y y' here here' at at' one =
    let s = same_Some z x here in
    let r = flat_at f xs i' x' j' y' here' at' in
    let a = ap (λ w. slice_get (f w) j) s ∙ at in
    let e = one j (length (f z) + r.0) (slice_get-kept (f z) (flat_map f xs) j y a) (slice_get-behind (f z) (flat_map f xs) r.0 ∙ r.1) in
    absurd (let lt = slice_get_within (f z) j y a in omega (arith, e, lt))
flat_same f (z ∷ xs) (ℕ.suc i) ℕ.zero x x' j j' y y' here here' at at' one =
    let s' = same_Some z x' here' in
    let r = flat_at f xs i x j y here at in
    let a' = ap (λ w. slice_get (f w) j') s' ∙ at' in
    let e = one (length (f z) + r.0) j' (slice_get-behind (f z) (flat_map f xs) r.0 ∙ r.1) (slice_get-kept (f z) (flat_map f xs) j' y' a') in
    absurd (let lt = slice_get_within (f z) j' y' a' in omega (arith, e, lt))
flat_same f (z ∷ xs) (ℕ.suc i) (ℕ.suc i') x x' j j' y y' here here' at at' one =
    let r = flat_same f xs i i' x x' j j' y y' here here' at at' (λ k k' a a'. let e = one (length (f z) + k) (length (f z) + k') (slice_get-behind (f z) (flat_map f xs) k ∙ a) (slice_get-behind (f z) (flat_map f xs) k' ∙ a') in omega (arith, e)) in
    (ap ℕ.suc r.0, r.1)

-- one list more
pub flat_next : {X Y : Type 0} (f : X → List Y) (xs : List X) (j : ℕ) (x : X) → slice_get xs j ≡ Some x → flat_map f (take (j + 1) xs) ≡ flat_map f (take j xs) ++ f x
flat_next f xs j x h = ap (flat_map f) (take_next xs j x h) ∙ flat_map-append f (take j xs) (x ∷ []) ∙ ap (λ ys. flat_map f (take j xs) ++ ys) (append-nil (f x))

pub flat_none : {X Y : Type 0} (f : X → List Y) (xs : List X) → ((i : ℕ) (x : X) → slice_get xs i ≡ Some x → f x ≡ []) → flat_map f xs ≡ []
flat_none f [] h = refl
flat_none f (x ∷ xs) h = rw (h 0 x refl, flat_none f xs (λ i y at. h (ℕ.suc i) y at)) refl

pub flat_alike : {X Y : Type 0} (f g : X → List Y) (xs : List X) → ((x : X) → f x ≡ g x) → flat_map f xs ≡ flat_map g xs
flat_alike f g [] h = refl
flat_alike f g (x ∷ xs) h = rw (h x, flat_alike f g xs h) refl

-- ---- filters

pub filter_none : {X : Type 0} (p : X → Bool) (xs : List X) → ((i : ℕ) (x : X) → slice_get xs i ≡ Some x → p x ≡ false) → filter p xs ≡ []
filter_none p [] h = refl
filter_none p (x ∷ xs) h = rw (h 0 x refl, filter_none p xs (λ i y at. h (ℕ.suc i) y at)) refl

pub filter_all : {X : Type 0} (p : X → Bool) (xs : List X) → ((i : ℕ) (x : X) → slice_get xs i ≡ Some x → p x ≡ true) → filter p xs ≡ xs
filter_all p [] h = refl
filter_all p (x ∷ xs) h = rw (h 0 x refl, filter_all p xs (λ i y at. h (ℕ.suc i) y at)) refl

-- one item more
pub filter_next : {X : Type 0} (p : X → Bool) (xs : List X) (i : ℕ) (x : X) → slice_get xs i ≡ Some x → p x ≡ true → filter p (take (i + 1) xs) ≡ filter p (take i xs) ++ x ∷ []
filter_next p xs i x at passes = ap (filter p) (take_next xs i x at) ∙ filter-append p (take i xs) (x ∷ []) ∙ ap (λ (t : Bool). filter p (take i xs) ++ cond t (x ∷ []) []) passes

pub filter_skip : {X : Type 0} (p : X → Bool) (xs : List X) (i : ℕ) (x : X) → slice_get xs i ≡ Some x → p x ≡ false → filter p (take (i + 1) xs) ≡ filter p (take i xs)
filter_skip p xs i x at fails = ap (filter p) (take_next xs i x at) ∙ filter-append p (take i xs) (x ∷ []) ∙ ap (λ (t : Bool). filter p (take i xs) ++ cond t (x ∷ []) []) fails ∙ append-nil (filter p (take i xs))

-- ---- an item found by its number

pub found : {X : Type 0} (number : X → ℕ) (xs : List X) (i : ℕ) (x : X) (n : ℕ) → number x ≡ n → slice_get xs i ≡ Some x → ((j : ℕ) (y : X) → slice_get xs j ≡ Some y → number y ≡ n → j ≡ i) → find (λ (y : X). nat_eq (number y) n) xs ≡ Some x
found number [] i x n e at one = cc
found {X = X} number (y ∷ xs) ℕ.zero x n e at one =
    let same : y ≡ x = same_Some y x at in
    ap (λ (t : Bool). cond t (Some y) (find (λ (z : X). nat_eq (number z) n) xs)) (eq-eqb (number y) n (ap number same ∙ e)) ∙ ap Some same
found {X = X} number (y ∷ xs) (ℕ.suc i) x n e at one =
    let other : ¬ (number y ≡ n) = λ is. let no : 0 ≡ ℕ.suc i = one 0 y refl is in absurd (omega (arith, no)) in
    ap (λ (t : Bool). cond t (Some y) (find (λ (z : X). nat_eq (number z) n) xs)) (ne_eqb (number y) n other)
    ∙ found number xs i x n e at (λ j z here is. let s = one (ℕ.suc j) z here is in omega (arith, s))

-- one item alone passes a test of numbers
pub filter_one : {X : Type 0} (number : X → ℕ) (xs : List X) (i : ℕ) (x : X) (n : ℕ) → number x ≡ n → slice_get xs i ≡ Some x → ((j : ℕ) (y : X) → slice_get xs j ≡ Some y → number y ≡ n → j ≡ i) → filter (λ (y : X). nat_eq (number y) n) xs ≡ x ∷ []
filter_one number [] i x n e at one = cc
filter_one {X = X} number (y ∷ xs) ℕ.zero x n e at one =
    let same : y ≡ x = same_Some y x at in
    let none = filter_none (λ (z : X). nat_eq (number z) n) xs (λ j z here. ne_eqb (number z) n (λ is. let no = one (ℕ.suc j) z here is in absurd (omega (arith, no)))) in
    rw (eq-eqb (number y) n (ap number same ∙ e), none) (ap (λ (z : X). z ∷ []) same)
filter_one {X = X} number (y ∷ xs) (ℕ.suc i) x n e at one =
    let other : ¬ (number y ≡ n) = λ is. let no : 0 ≡ ℕ.suc i = one 0 y refl is in absurd (omega (arith, no)) in
    rw (ne_eqb (number y) n other) (filter_one number xs i x n e at (λ j z here is. let s = one (ℕ.suc j) z here is in omega (arith, s)))

-- distinct numbers, by items
pub number_apart : {X : Type 0} (number : X → ℕ) (xs : List X) → ((i j n : ℕ) → slice_get (map number xs) i ≡ Some n → slice_get (map number xs) j ≡ Some n → i ≡ j) → (i j : ℕ) (x y : X) → slice_get xs i ≡ Some x → slice_get xs j ≡ Some y → number x ≡ number y → i ≡ j
number_apart number xs h i j x y at_i at_j same = h i j (number x) (slice_get-map number xs i ∙ ap (option_map number) at_i) (slice_get-map number xs j ∙ ap (option_map number) at_j ∙ ap Some (sym same))

-- filter_map over two lists that give the same, place by place
pub filter_map_beside : {X Y Z : Type 0} (f : X → Option Z) (g : Y → Option Z) (xs : List X) (ys : List Y) → length xs ≡ length ys → ((i : ℕ) (x : X) (y : Y) → slice_get xs i ≡ Some x → slice_get ys i ≡ Some y → f x ≡ g y) → filter_map f xs ≡ filter_map g ys
filter_map_beside f g [] [] n h = refl
filter_map_beside f g [] (y ∷ ys) n h = absurd (omega (arith, n))
filter_map_beside f g (x ∷ xs) [] n h = absurd (omega (arith, n))
filter_map_beside {Z = Z} f g (x ∷ xs) (y ∷ ys) n h = rw (h 0 x y refl refl) (ap (λ (zs : List Z). cons_option (g y) zs) (filter_map_beside f g xs ys (omega (arith, n)) (λ i a b at_a at_b. h (ℕ.suc i) a b at_a at_b)))

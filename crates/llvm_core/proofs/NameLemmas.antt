-- Sets of names: what inserting one says of their list.
use Rattle.std.proofs.Common.{◌≡◌, ◌≢◌, ◌<◌, ◌≤◌, ◌+◌, ℕ, zero, suc, Bool, true, false, not, List, [], ◌∷◌, ◌++◌, Some, None, length, map, slice_get, take, get_or, ap, sym, ◌∙◌, refl, arith, if◌then◌else◌, inl, inr, subst}
use Rattle.std.specs.Prelude.{position, nat_lt}
use Rattle.std.specs.List.{list_any, position_or_len}
use mathlib.Core.List.{map-append}
use Rattle.std.specs.Borrow.{Bor}
use Rattle.std.specs.Str.{bytes_eq}
use Rattle.std.proofs.lemmas.List.{take_more, take_all, get_or-map, length-map}
use Rattle.std.proofs.lemmas.Bool.{ltb-true, ltb-false}
use Rattle.std.proofs.lemmas.Option.{slice_get_within, slice_get-get_or, same_Some}
use Rattle.llvm_core.specs.Keys.{same_text}
use Rattle.llvm_core.specs.Names.{texts, Stands, HasTwice, IsInserted}
use Rattle.support.proofs.ListLaws.{slice_get-push_cases, slice_get-take}

-- ---- a name in a list

stands : (xs : List (Bor (List ℕ))) (n : List ℕ) → list_any (λ k. bytes_eq n k.now) xs ≡ true → Stands (texts xs) n
stands [] n h = cc
stands (x ∷ xs) n h = by (bytes_eq n x.now) refl (stands xs n)
  where
    by : (b : Bool) → bytes_eq n x.now ≡ b → (list_any (λ k. bytes_eq n k.now) xs ≡ true → Stands (texts xs) n) → Stands (texts (x ∷ xs)) n
    by true e rest = (0, ap Some (sym ((same_text n x.now).0 e)))
    by false e rest = let later : list_any (λ k. bytes_eq n k.now) xs ≡ true = grind (arith, h, e) in let s = rest later in (suc s.0, s.1)

stands_not : (xs : List (Bor (List ℕ))) (n : List ℕ) → list_any (λ k. bytes_eq n k.now) xs ≡ false → ¬ Stands (texts xs) n
stands_not [] n h s = cc
stands_not (x ∷ xs) n h (zero, at) = let e = (same_text n x.now).1 (let same : x.now ≡ n = (cc) in sym same) in grind (arith, h, e)
stands_not (x ∷ xs) n h (suc i, at) = stands_not xs n (grind (arith, h)) (i, at)

-- what a set of names answers
pub inserted : (old new : List (Bor (List ℕ))) (n : Bor (List ℕ)) (fresh : Bool) → fresh ≡ not (list_any (λ k. bytes_eq n.now k.now) old) → new ≡ (if list_any (λ k. bytes_eq n.now k.now) old then old else old ++ n ∷ [])
    → IsInserted (texts old) (texts new) n.now fresh
inserted old new n fresh f g = by (list_any (λ k. bytes_eq n.now k.now) old) refl fresh f g
  where
    by : (b : Bool) → list_any (λ k. bytes_eq n.now k.now) old ≡ b → (fresh : Bool) → fresh ≡ not b → new ≡ (if b then old else old ++ n ∷ []) → IsInserted (texts old) (texts new) n.now fresh
    by true e true f g = cc
    by true e false f g = stands old n.now e
    by false e true f g = (ap texts g ∙ map-append (λ (k : Bor (List ℕ)). k.now) old (n ∷ []), stands_not old n.now e)
    by false e false f g = cc

-- ---- the first place of a name

-- a test finds its first place where another finds its own among what is made of the items
pub first_alike : {X Y : Type 0} (p : X → Bool) (q : Y → Bool) (f : X → Y) → ((x : X) → p x ≡ q (f x)) → (xs : List X) → position_or_len p xs ≡ position_or_len q (map f xs)
first_alike p q f same [] = refl
first_alike p q f same (x ∷ xs) =
    ap (λ b. if not b then 1 + position_or_len p xs else 0) (same x) ∙ ap (λ (n : ℕ). if not (q (f x)) then 1 + n else 0) (first_alike p q f same xs)

pub position_alike : {X Y : Type 0} (p : X → Bool) (q : Y → Bool) (f : X → Y) → ((x : X) → p x ≡ q (f x)) → (xs : List X) → position p xs ≡ position q (map f xs)
position_alike p q f same xs =
    ap (λ (n : ℕ). if nat_lt n (length xs) then Some n else None) (first_alike p q f same xs)
    ∙ ap (λ (l : ℕ). if nat_lt (position_or_len q (map f xs)) l then Some (position_or_len q (map f xs)) else None) (sym (length-map xs f))

pub position_there : {X : Type 0} (p : X → Bool) (xs : List X) (i : ℕ) → position p xs ≡ Some i → (position_or_len p xs ≡ i) × (i < length xs)
position_there p xs i h = by (nat_lt (position_or_len p xs) (length xs)) refl h
  where
    by : (b : Bool) → nat_lt (position_or_len p xs) (length xs) ≡ b → (if b then Some (position_or_len p xs) else None) ≡ Some i → (position_or_len p xs ≡ i) × (i < length xs)
    by true e h = let same = same_Some (position_or_len p xs) i h in (same, subst (λ (n : ℕ). n < length xs) same (ltb-true (position_or_len p xs) (length xs) e))
    by false e h = cc

pub position_past : {X : Type 0} (p : X → Bool) (xs : List X) → position p xs ≡ None → length xs ≤ position_or_len p xs
position_past p xs h = by (nat_lt (position_or_len p xs) (length xs)) refl h
  where
    by : (b : Bool) → nat_lt (position_or_len p xs) (length xs) ≡ b → (if b then Some (position_or_len p xs) else None) ≡ None → length xs ≤ position_or_len p xs
    by true e h = cc
    by false e h = ltb-false (position_or_len p xs) (length xs) e

-- ---- the first names of a list

pub slice_get-taken : {X : Type 0} (i : ℕ) (xs : List X) (j : ℕ) (x : X) → j < i → slice_get xs j ≡ Some x → slice_get (take i xs) j ≡ Some x
slice_get-taken zero xs j x lt h = absurd (omega arith)
slice_get-taken (suc i) [] j x lt h = cc
slice_get-taken (suc i) (y ∷ xs) zero x lt h = h
slice_get-taken (suc i) (y ∷ xs) (suc j) x lt h = slice_get-taken i xs j x (omega arith) h

-- a name that stands before its own place stands twice
pub twice_here : (names : List (List ℕ)) (i : ℕ) (d : List ℕ) → i < length names → Stands (take i names) (get_or names i d) → HasTwice names
twice_here names i d lt s = let r = slice_get-take i names s.0 (get_or names i d) s.1 in (s.0, i, get_or names i d, r.0, r.1, slice_get-get_or names i d lt)

pub once_more : (xs : List (List ℕ)) (n : List ℕ) → ¬ HasTwice xs → ¬ Stands xs n → ¬ HasTwice (xs ++ n ∷ [])
once_more xs n once new (a, b, m, lt, at_a, at_b) = elim (slice_get-push_cases xs n b m at_b) [
  | inl old_b ↦ (let within = slice_get_within xs b m old_b in
      elim (slice_get-push_cases xs n a m at_a) [ inl old_a ↦ once (a, b, m, lt, old_a, old_b) | inr new_a ↦ absurd (omega (arith, new_a.0, within, lt)) ])
  | inr new_b ↦ elim (slice_get-push_cases xs n a m at_a) [
    | inl old_a ↦ new (a, old_a ∙ ap Some new_b.1)
    | inr new_a ↦ absurd (omega (arith, new_a.0, new_b.0, lt))
  ]
]

-- the same for one more of a list
pub once_next : (names seen : List (List ℕ)) (i : ℕ) (d : List ℕ) → i < length names → seen ≡ take i names ++ get_or names i d ∷ [] → ¬ HasTwice (take i names) → ¬ Stands (take i names) (get_or names i d)
    → (seen ≡ take (i + 1) names) × ¬ HasTwice (take (i + 1) names)
once_next names seen i d lt e once new =
    let more = take_more names i d lt in
    (e ∙ sym more, subst (λ xs. ¬ HasTwice xs) (sym more) (once_more (take i names) (get_or names i d) once new))

pub none_twice : ¬ HasTwice []
none_twice (i, j, n, lt, at, is) = cc

-- ---- lists of borrowed names

text_at : (names : List (Bor (List ℕ))) (i : ℕ) (d : Bor (List ℕ)) → i < length names → get_or (texts names) i d.now ≡ (get_or names i d).now
text_at names i d lt = get_or-map (λ (n : Bor (List ℕ)). n.now) names i d d.now lt

pub length-texts : (names : List (Bor (List ℕ))) → length (texts names) ≡ length names
length-texts [] = refl
length-texts (n ∷ names) = ap suc (length-texts names)

within : (names : List (Bor (List ℕ))) (i : ℕ) → i < length names → i < length (texts names)
within names i lt = subst (λ k. i < k) (sym (length-texts names)) lt

pub text_twice : (names : List (Bor (List ℕ))) (i : ℕ) (d : Bor (List ℕ)) → i < length names → Stands (take i (texts names)) (get_or names i d).now → HasTwice (texts names)
text_twice names i d lt s = twice_here (texts names) i d.now (within names i lt) (subst (Stands (take i (texts names))) (sym (text_at names i d lt)) s)

pub text_next : (names : List (Bor (List ℕ))) (seen : List (List ℕ)) (i : ℕ) (d : Bor (List ℕ)) → i < length names → seen ≡ take i (texts names) ++ (get_or names i d).now ∷ [] → ¬ HasTwice (take i (texts names)) → ¬ Stands (take i (texts names)) (get_or names i d).now
    → (seen ≡ take (i + 1) (texts names)) × ¬ HasTwice (take (i + 1) (texts names))
text_next names seen i d lt e once new =
    let at = sym (text_at names i d lt) in
    once_next (texts names) seen i d.now (within names i lt) (e ∙ ap (λ n. take i (texts names) ++ n ∷ []) at) once (subst (λ n. ¬ Stands (take i (texts names)) n) at new)

pub all_texts : (names : List (Bor (List ℕ))) (i : ℕ) → length names ≤ i → take i (texts names) ≡ texts names
all_texts names i past = take_all i (texts names) (subst (λ k. k ≤ i) (sym (length-texts names)) past)

pub taken_texts : (i : ℕ) (names : List (Bor (List ℕ))) → texts (take i names) ≡ take i (texts names)
taken_texts zero names = refl
taken_texts (suc i) [] = refl
taken_texts (suc i) (n ∷ names) = ap (λ (ns : List (List ℕ)). n.now ∷ ns) (taken_texts i names)

-- a name that was read by its place is the one that is looked for, or another
module _ (names : List (Bor (List ℕ))) (i : ℕ) (d : Bor (List ℕ)) (n : List ℕ) (lt : i < length names) where
  here : slice_get (texts names) i ≡ Some (get_or names i d).now
  here = slice_get-get_or (texts names) i d.now (within names i lt) ∙ ap Some (text_at names i d lt)

  pub stands_here : bytes_eq (get_or names i d).now n ≡ true → Stands (texts names) n
  stands_here same = (i, here ∙ ap Some ((same_text (get_or names i d).now n).0 same))

  read_here : slice_get (texts names) i ≡ Some n → (get_or names i d).now ≡ n
  read_here at = same_Some (get_or names i d).now n (sym here ∙ at)

  pub unlike_here : bytes_eq (get_or names i d).now n ≡ false → ¬ (slice_get (texts names) i ≡ Some n)
  unlike_here other at = absurd (let e = (same_text (get_or names i d).now n).1 (read_here at) in grind (arith, e, other))

  pub unlike_length : length (get_or names i d).now ≢ length n → ¬ (slice_get (texts names) i ≡ Some n)
  unlike_length other at = other (ap length (read_here at))

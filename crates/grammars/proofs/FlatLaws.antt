-- What is looked up in flat tables is what the grammar of their rows says.
use Rattle.std.proofs.Common.{◌≡◌, ◌<◌, ◌≤◌, ℕ, zero, suc, ◌+◌, ◌-◌, ◌*◌, ◌&&◌, Bool, true, false, if◌then◌else◌, nat_eq, List, [], ◌∷◌, length, map, take, drop, Option, Some, None, slice_get, slice_index_or, refl, sym, ap, ◌∙◌, subst, arith, inl, inr}
use Rattle.std.proofs.lemmas.Bool.{cases_lt, ltb-true}
use Rattle.grammars.specs.declared.symbols.Symbol.{Symbol}
use Rattle.grammars.specs.declared.rows.Alternative.{Alternative}
use Rattle.grammars.specs.declared.rows.Row.{Row}
use Rattle.grammars.specs.Numbers.{some_number}
use Rattle.grammars.specs.Rows.{has}
use Rattle.grammars.specs.RowGrammar.{◌>>=◌, numbered, begun_by, chosen_of}
use Rattle.grammars.specs.Flat.{part, symbols_of, numbered_from, row_of, rows_of, is_within, all_within}
use Rattle.grammars.specs.Lines.{begun, chosen_at, AreLines}
use Rattle.std.proofs.lemmas.List.{get_or_past}
use Rattle.std.proofs.lemmas.Option.{slice_get_read}
use Rattle.grammars.proofs.LineLaws.{behind}
use Rattle.grammars.proofs.GrammarLaws.{or_left, or_right, either}

-- an item is where it was found
pub found_at : {X : Type 0} (xs : List X) (i : ℕ) (x : X) → i < length xs → x ≡ slice_index_or xs i x → slice_get xs i ≡ Some x
found_at xs i x h e = slice_get_read xs (length xs) i x refl h e

-- ---- what stands in a part

drop_at : {X : Type 0} (xs : List X) (n j : ℕ) → slice_get (drop n xs) j ≡ slice_get xs (n + j)
drop_at xs zero j = rw add_zero refl
  where
    add_zero : 0 + j ≡ j
    add_zero = omega arith
drop_at [] (suc n) j = refl
drop_at (x ∷ xs) (suc n) j = let e : suc n + j ≡ suc (n + j) = omega arith in rw e (drop_at xs n j)

take_at : {X : Type 0} (xs : List X) (n j : ℕ) → j < n → slice_get (take n xs) j ≡ slice_get xs j
take_at xs zero j h = absurd (omega (arith, h))
take_at [] (suc n) j h = refl
take_at (x ∷ xs) (suc n) zero h = refl
take_at (x ∷ xs) (suc n) (suc j) h = take_at xs n j (omega (arith, h))

take_past : {X : Type 0} (xs : List X) (n j : ℕ) → n ≤ j → slice_get (take n xs) j ≡ None
take_past xs zero j h = refl
take_past [] (suc n) j h = refl
take_past (x ∷ xs) (suc n) zero h = absurd (omega (arith, h))
take_past (x ∷ xs) (suc n) (suc j) h = take_past xs n j (omega (arith, h))

part_at : {X : Type 0} (xs : List X) (start end i : ℕ) → start < i → i ≤ end → slice_get (part xs start end) (i - start - 1) ≡ slice_get xs (i - 1)
part_at xs start end i h k =
    let e : start + (i - start - 1) ≡ i - 1 = omega (arith, h) in
    take_at (drop start xs) (end - start) (i - start - 1) (omega (arith, h, k)) ∙ drop_at xs start (i - start - 1) ∙ ap (λ n. slice_get xs n) e

part_past : {X : Type 0} (xs : List X) (start end i : ℕ) → start < i → end < i → slice_get (part xs start end) (i - start - 1) ≡ None
part_past xs start end i h k = take_past (drop start xs) (end - start) (i - start - 1) (omega (arith, h, k))

-- ---- the symbols of an alternative

-- the numbers go up one by one
numbered_at : (symbols : List Symbol) (firsts : List ℕ) (n j : ℕ) (all : List Alternative) → numbered (suc (n + j)) (numbered_from symbols firsts (suc n) all) ≡ (slice_get all j >>= λ a. Some (symbols_of symbols a))
numbered_at symbols firsts n j [] = refl
numbered_at symbols firsts n zero (a ∷ others) = first (nat_eq (suc n) (suc (n + 0))) (grind arith)
  where
    first : (b : Bool) → b ≡ true → (if b then Some (symbols_of symbols a) else numbered (suc (n + 0)) (numbered_from symbols firsts (suc (suc n)) others)) ≡ Some (symbols_of symbols a)
    first b h = rw h refl
numbered_at symbols firsts n (suc j) (a ∷ others) =
    let e : n + suc j ≡ suc n + j = omega arith in
    subst (λ m. numbered (suc m) (numbered_from symbols firsts (suc n) (a ∷ others)) ≡ (slice_get others j >>= λ x. Some (symbols_of symbols x))) (sym e)
    (other (nat_eq (suc n) (suc (suc n + j))) (grind arith) (numbered_at symbols firsts (suc n) j others))
  where
    other : (b : Bool) → b ≡ false → numbered (suc (suc n + j)) (numbered_from symbols firsts (suc (suc n)) others) ≡ (slice_get others j >>= λ x. Some (symbols_of symbols x)) → (if b then Some (symbols_of symbols a) else numbered (suc (suc n + j)) (numbered_from symbols firsts (suc (suc n)) others)) ≡ (slice_get others j >>= λ x. Some (symbols_of symbols x))
    other b h later = rw h later

-- and none is below the first
numbered_below : (symbols : List Symbol) (firsts : List ℕ) (n i : ℕ) (all : List Alternative) → i ≤ n → numbered i (numbered_from symbols firsts (suc n) all) ≡ None
numbered_below symbols firsts n i [] h = refl
numbered_below symbols firsts n i (a ∷ others) h = other (nat_eq (suc n) i) (grind (arith, h)) (numbered_below symbols firsts (suc n) i others (omega (arith, h)))
  where
    other : (b : Bool) → b ≡ false → numbered i (numbered_from symbols firsts (suc (suc n)) others) ≡ None → (if b then Some (symbols_of symbols a) else numbered i (numbered_from symbols firsts (suc (suc n)) others)) ≡ None
    other b e later = rw e later

map_get : {A B : Type 0} (f : A → B) (xs : List A) (j : ℕ) (x : A) → slice_get xs j ≡ Some x → slice_get (map f xs) j ≡ Some (f x)
map_get f [] j x e = absurd cc
map_get f (y ∷ ys) zero x e = let i : y ≡ x = cc in ap (λ z. Some (f z)) i
map_get f (y ∷ ys) (suc j) x e = map_get f ys j x e

-- no alternative has the number 0
pub no_zero : (symbols : List Symbol) (alternatives : List Alternative) (rows : List Row) (firsts mores : List ℕ) (r : ℕ) → (slice_get (rows_of symbols alternatives rows firsts mores) r >>= λ row. numbered 0 row.alternatives) ≡ None
no_zero symbols alternatives [] firsts mores r = refl
no_zero symbols alternatives (x ∷ xs) firsts mores zero = numbered_below symbols firsts x.start 0 (part alternatives x.start x.end) (omega arith)
no_zero symbols alternatives (x ∷ xs) firsts mores (suc r) = no_zero symbols alternatives xs firsts mores r

module _ (symbols : List Symbol) (alternatives : List Alternative) (rows : List Row) (firsts mores : List ℕ) (r i : ℕ) (row : Row) (at : slice_get rows r ≡ Some row) where
  here : (slice_get (rows_of symbols alternatives rows firsts mores) r >>= λ x. numbered i x.alternatives) ≡ numbered i (numbered_from symbols firsts (suc row.start) (part alternatives row.start row.end))
  here = ap (λ o. o >>= λ x. numbered i x.alternatives) (map_get (row_of symbols alternatives firsts mores) rows r row at)

  pub symbols_below : i ≤ row.start → None ≡ (slice_get (rows_of symbols alternatives rows firsts mores) r >>= λ x. numbered i x.alternatives)
  symbols_below h = sym (here ∙ numbered_below symbols firsts row.start i (part alternatives row.start row.end) h)

  placed : row.start < i → numbered i (numbered_from symbols firsts (suc row.start) (part alternatives row.start row.end)) ≡ (slice_get (part alternatives row.start row.end) (i - row.start - 1) >>= λ a. Some (symbols_of symbols a))
  placed h = let e : i ≡ suc (row.start + (i - row.start - 1)) = omega (arith, h) in ap (λ n. numbered n (numbered_from symbols firsts (suc row.start) (part alternatives row.start row.end))) e ∙ numbered_at symbols firsts row.start (i - row.start - 1) (part alternatives row.start row.end)

  pub symbols_above : row.start < i → row.end < i → None ≡ (slice_get (rows_of symbols alternatives rows firsts mores) r >>= λ x. numbered i x.alternatives)
  symbols_above h k = sym (here ∙ placed h ∙ ap (λ o. o >>= λ a. Some (symbols_of symbols a)) (part_past alternatives row.start row.end i h k))

  pub symbols_past : row.start < i → i ≤ row.end → slice_get alternatives (i - 1) ≡ None → None ≡ (slice_get (rows_of symbols alternatives rows firsts mores) r >>= λ x. numbered i x.alternatives)
  symbols_past h k e = sym (here ∙ placed h ∙ ap (λ o. o >>= λ a. Some (symbols_of symbols a)) (part_at alternatives row.start row.end i h k ∙ e))

  pub symbols_at : (a : Alternative) → row.start < i → i ≤ row.end → slice_get alternatives (i - 1) ≡ Some a → Some (symbols_of symbols a) ≡ (slice_get (rows_of symbols alternatives rows firsts mores) r >>= λ x. numbered i x.alternatives)
  symbols_at a h k e = sym (here ∙ placed h ∙ ap (λ o. o >>= λ x. Some (symbols_of symbols x)) (part_at alternatives row.start row.end i h k ∙ e))

-- the symbols of an alternative that stands in a row, by its number alone
module _ (symbols : List Symbol) (alternatives : List Alternative) (firsts mores : List ℕ) (i : ℕ) where
  none_there : (rows : List Row) (r : ℕ) → slice_get rows r ≡ None → (slice_get (rows_of symbols alternatives rows firsts mores) r >>= λ x. numbered i x.alternatives) ≡ None
  none_there [] r h = refl
  none_there (x ∷ xs) zero h = absurd cc
  none_there (x ∷ xs) (suc r) h = none_there xs r h

  module _ (rows : List Row) (r : ℕ) (α : List Symbol) (e : (slice_get (rows_of symbols alternatives rows firsts mores) r >>= λ x. numbered i x.alternatives) ≡ Some α) where
    placed_alone : (row : Row) → slice_get rows r ≡ Some row → row.start < i → i ≤ row.end → (o : Option Alternative) → slice_get alternatives (i - 1) ≡ o → (o >>= λ a. Some (symbols_of symbols a)) ≡ Some α
    placed_alone row at l k None p = let x = symbols_past symbols alternatives rows firsts mores r i row at l k p ∙ e in absurd cc
    placed_alone row at l k (Some a) p = symbols_at symbols alternatives rows firsts mores r i row at a l k p ∙ e

    pub symbols_alone : (o : Option Row) → slice_get rows r ≡ o → (slice_get alternatives (i - 1) >>= λ a. Some (symbols_of symbols a)) ≡ Some α
    symbols_alone None at = let x = sym (none_there rows r at) ∙ e in absurd cc
    symbols_alone (Some row) at = elim (cases_lt row.start i) [
      | inl l ↦ elim (cases_lt row.end i) [
        | inl k ↦ let x = symbols_above symbols alternatives rows firsts mores r i row at l k ∙ e in absurd cc
        | inr k ↦ placed_alone row at l k (slice_get alternatives (i - 1)) refl
      ]
      | inr l ↦ let x = symbols_below symbols alternatives rows firsts mores r i row at l ∙ e in absurd cc
    ]

-- ---- the alternative that a class begins

begun_is : (symbols : List Symbol) (firsts : List ℕ) (n c other : ℕ) (all : List Alternative) → some_number (begun firsts all (suc n) c other) ≡ begun_by c (numbered_from symbols firsts (suc n) all) (some_number other)
begun_is symbols firsts n c other [] = refl
begun_is symbols firsts n c other (a ∷ others) = by (has (part firsts a.first a.first_end) c) (begun_is symbols firsts (suc n) c other others)
  where
    by : (b : Bool) → some_number (begun firsts others (suc (suc n)) c other) ≡ begun_by c (numbered_from symbols firsts (suc (suc n)) others) (some_number other) → some_number (if b then suc n else begun firsts others (suc (suc n)) c other) ≡ (if b then Some (suc n) else begun_by c (numbered_from symbols firsts (suc (suc n)) others) (some_number other))
    by true later = refl
    by false later = later

has_take : (xs : List ℕ) (n c : ℕ) → has (take n xs) c ≡ true → has xs c ≡ true
has_take xs zero c h = absurd cc
has_take [] (suc n) c h = absurd cc
has_take (x ∷ xs) (suc n) c h = elim (either (nat_eq c x) (has (take n xs) c) h) [
  | inl e ↦ or_left (nat_eq c x) (has xs c) e
  | inr e ↦ or_right (nat_eq c x) (has xs c) (has_take xs n c e)
]

has_drop : (xs : List ℕ) (n c : ℕ) → has (drop n xs) c ≡ true → has xs c ≡ true
has_drop xs zero c h = h
has_drop [] (suc n) c h = h
has_drop (x ∷ xs) (suc n) c h = or_right (nat_eq c x) (has xs c) (has_drop xs n c h)

-- what is no class of a table is none of a part of it
none_of_part : (firsts : List ℕ) (start end c : ℕ) → (has firsts c ≡ true → ⊥) → has (part firsts start end) c ≡ false
none_of_part firsts start end c none = by (has (part firsts start end) c) (λ h. none (has_drop firsts start c (has_take (drop start firsts) _ c h)))
  where
    by : (b : Bool) → (b ≡ true → ⊥) → b ≡ false
    by true h = absurd (h refl)
    by false h = refl

none_begun : (symbols : List Symbol) (firsts : List ℕ) (n c : ℕ) (other : Option ℕ) (all : List Alternative) → (has firsts c ≡ true → ⊥) → other ≡ begun_by c (numbered_from symbols firsts n all) other
none_begun symbols firsts n c other [] none = refl
none_begun symbols firsts n c other (a ∷ others) none = rw (none_of_part firsts a.first a.first_end c none) (none_begun symbols firsts (suc n) c other others none)

module _ (symbols : List Symbol) (alternatives : List Alternative) (firsts mores : List ℕ) where
  chosen_is : (rows : List Row) (r c : ℕ) → r < length rows → some_number (chosen_at firsts alternatives rows r c) ≡ (slice_get (rows_of symbols alternatives rows firsts mores) r >>= λ row. chosen_of row (Some c))
  chosen_is [] r c h = absurd (omega (arith, h))
  chosen_is (x ∷ xs) zero c h = begun_is symbols firsts x.start c x.nothing (part alternatives x.start x.end)
  chosen_is (x ∷ xs) (suc r) c h = chosen_is xs r c (omega (arith, h))

  none_past : (rows : List Row) (r : ℕ) (n : Option ℕ) → length rows ≤ r → (slice_get (rows_of symbols alternatives rows firsts mores) r >>= λ row. chosen_of row n) ≡ None
  none_past [] r n h = refl
  none_past (x ∷ xs) zero n h = absurd (omega (arith, h))
  none_past (x ∷ xs) (suc r) n h = none_past xs r n (omega (arith, h))

  -- a class that begins nothing
  pub others_are : (rows : List Row) (r c : ℕ) → (has firsts c ≡ true → ⊥) → (slice_get (rows_of symbols alternatives rows firsts mores) r >>= λ row. chosen_of row None) ≡ (slice_get (rows_of symbols alternatives rows firsts mores) r >>= λ row. chosen_of row (Some c))
  others_are [] r c none = refl
  others_are (x ∷ xs) zero c none = none_begun symbols firsts (suc x.start) c (some_number x.nothing) (part alternatives x.start x.end) none
  others_are (x ∷ xs) (suc r) c none = others_are xs r c none

  -- what stands in the lines
  pub entries_are : (rows : List Row) (classes r c : ℕ) (table : List ℕ) → AreLines classes (length rows) (chosen_at firsts alternatives rows) table → c < classes
      → some_number (slice_index_or table (r * classes + c) 0) ≡ (slice_get (rows_of symbols alternatives rows firsts mores) r >>= λ row. chosen_of row (Some c))
  entries_are rows classes r c table lines h = elim (cases_lt r (length rows)) [
    | inl l ↦ ap (λ n. some_number n) (lines.entries r c l h) ∙ chosen_is rows r c l
    | inr l ↦ ap (λ n. some_number n) (get_or_past table (r * classes + c) 0 (rw lines.length (behind (length rows) r classes c l))) ∙ sym (none_past rows r (Some c) l)
  ]

-- ---- parts that lie within

both : {a b : Bool} → (a && b) ≡ true → (a ≡ true) × (b ≡ true)
both {a = true} h = (refl, h)
both {a = false} h = absurd cc

pub inside : (n : ℕ) (a : Alternative) → is_within n a ≡ true → (a.start ≤ a.end) × (a.end ≤ n)
inside n a h =
    let one : a.start < suc a.end = ltb-true a.start (suc a.end) (both h).0 in
    let two : a.end < suc n = ltb-true a.end (suc n) (both h).1 in
    (omega (arith, one), omega (arith, two))

pub within_at : (symbols : List Symbol) (alternatives : List Alternative) (i : ℕ) (d : Alternative) → all_within symbols alternatives ≡ true → i < length alternatives
    → ((slice_index_or alternatives i d).start ≤ (slice_index_or alternatives i d).end) × ((slice_index_or alternatives i d).end ≤ length symbols)
within_at symbols [] i d h k = absurd (omega (arith, k))
within_at symbols (a ∷ others) zero d h k = inside (length symbols) a (both h).0
within_at symbols (a ∷ others) (suc i) d h k = within_at symbols others i d (both h).1 (omega (arith, k))

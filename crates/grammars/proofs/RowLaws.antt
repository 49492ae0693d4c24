-- Rows that pass the check are a grammar of which the next token tells how to go on.
use Rattle.std.proofs.Common.{◌≡◌, ℕ, zero, suc, ◌+◌, Bool, true, false, not, ◌||◌, ◌&&◌, if◌then◌else◌, nat_eq, nat_lt, List, [], ◌∷◌, ◌++◌, map, Option, Some, None, slice_get, slice_index_or, refl, sym, ap, ◌∙◌, subst, arith, inl, inr, ◌⊎◌, eqb-true}
use Rattle.std.specs.List.{list_all, list_any, flat_map}
use Rattle.grammars.specs.declared.symbols.Symbol.{Symbol}
use Rattle.grammars.specs.declared.symbols.Symbol.TheVariants.{Word, Leaf, Rule}
use Rattle.grammars.specs.Right.{Tables, empties, begins, extends, Fits, lead, IsRightAt, IsRight}
use Rattle.grammars.specs.Rows.{Alternative, Row, is_some, is_number, all_firsts, all_nulls, all_mores, all_heights, has, subset, apart, firsts_of, implies, begins_with, is_null, lead_of, all_fit, check_alternative, apart_all, is_own, check_row, check_rows}
use Rattle.grammars.specs.RowGrammar.{◌>>=◌, numbered, begun_by, chosen_of, grammar_of_rows, tables_of_rows}
use Rattle.grammars.proofs.GrammarLaws.{either, both, or_left, or_right}

-- ---- sets of classes

has_append : (xs ys : List ℕ) (c : ℕ) → has (xs ++ ys) c ≡ (has xs c || has ys c)
has_append [] ys c = refl
has_append (x ∷ xs) ys c = grind (arith, has_append xs ys c)

in_subset : (xs ys : List ℕ) (c : ℕ) → subset xs ys ≡ true → has xs c ≡ true → has ys c ≡ true
in_subset [] ys c h e = absurd cc
in_subset (x ∷ xs) ys c h e =
    let b = both (has ys x) (subset xs ys) h in
    elim (either (nat_eq c x) (has xs c) e) [
      | inl i ↦ subst (λ (y : ℕ). has ys y ≡ true) (sym (eqb-true c x i)) b.0
      | inr i ↦ in_subset xs ys c b.1 i
    ]

none_of : (b : Bool) → not b ≡ true → b ≡ false
none_of true h = absurd cc
none_of false h = refl

in_apart : (xs ys : List ℕ) (c : ℕ) → apart xs ys ≡ true → has xs c ≡ true → has ys c ≡ false
in_apart [] ys c h e = absurd cc
in_apart (x ∷ xs) ys c h e =
    let b = both (not (has ys x)) (apart xs ys) h in
    elim (either (nat_eq c x) (has xs c) e) [
      | inl i ↦ subst (λ (y : ℕ). has ys y ≡ false) (sym (eqb-true c x i)) (none_of (has ys x) b.0)
      | inr i ↦ in_apart xs ys c b.1 i
    ]

implied : (a b : Bool) → implies a b ≡ true → a ≡ true → b ≡ true
implied true b h e = h
implied false b h e = absurd cc

-- a test that is true, of a chain of tests
tested : (a b : Bool) → (if a then b else false) ≡ true → (a ≡ true) × (b ≡ true)
tested true b h = (refl, h)
tested false b h = absurd cc

module _ (rows : List Row) where
  abbrev F : List (List ℕ)
  F = all_firsts rows

  abbrev N : List Bool
  N = all_nulls rows

  abbrev M : List (List ℕ)
  M = all_mores rows

  abbrev H : List ℕ
  H = all_heights rows

  abbrev k : Tables
  k = tables_of_rows rows

  same_null : (α : List Symbol) → empties k α ≡ is_null N α
  same_null [] = refl
  same_null (Word d ∷ α) = refl
  same_null (Leaf d ∷ α) = refl
  same_null (Rule r ∷ α) = by (slice_index_or N r false) (same_null α)
    where
      by : (b : Bool) → empties k α ≡ is_null N α → (b && empties k α) ≡ (if b then is_null N α else false)
      by true e = e
      by false e = refl

  same_begins : (c : ℕ) (α : List Symbol) → begins k c α ≡ has (begins_with F N α) c
  same_begins c [] = refl
  same_begins c (Word d ∷ α) = grind arith
  same_begins c (Leaf d ∷ α) = grind arith
  same_begins c (Rule r ∷ α) = by (slice_index_or N r false) (same_begins c α)
    where
      by : (b : Bool) → begins k c α ≡ has (begins_with F N α) c → (has (slice_index_or F r []) c || (b && begins k c α)) ≡ has (slice_index_or F r [] ++ (if b then begins_with F N α else [])) c
      by true e = ap (λ (x : Bool). has (slice_index_or F r []) c || x) e ∙ sym (has_append (slice_index_or F r []) (begins_with F N α) c)
      by false e = sym (has_append (slice_index_or F r []) [] c)

  same_lead : (α : List Symbol) → lead k α ≡ lead_of N H α
  same_lead [] = refl
  same_lead (Word d ∷ α) = refl
  same_lead (Leaf d ∷ α) = refl
  same_lead (Rule r ∷ α) = ap (λ (n : ℕ). slice_index_or H r 0 + (if slice_index_or N r false then n else 0)) (same_lead α)

  they_fit : (more : List ℕ) (α : List Symbol) → all_fit F N M more α ≡ true → Fits k α × ((c : ℕ) → extends k c α ≡ true → has more c ≡ true)
  they_fit more [] h = (tt, λ c e. absurd cc)
  they_fit more (Word d ∷ α) h = let x = they_fit more α h in ((λ c e. absurd cc, x.0), λ c e. x.1 c (grind (arith, e)))
  they_fit more (Leaf d ∷ α) h = let x = they_fit more α h in ((λ c e. absurd cc, x.0), λ c e. x.1 c (grind (arith, e)))
  they_fit more (Rule r ∷ α) h =
      let a = tested (apart (slice_index_or M r []) (begins_with F N α)) _ h in
      let b = tested (if is_null N α then subset (slice_index_or M r []) more else true) _ a.1 in
      let x = they_fit more α b.1 in (
        (λ c e. same_begins c α ∙ in_apart (slice_index_or M r []) (begins_with F N α) c a.0 e, x.0),
        λ c e. elim (either (empties k α && has (slice_index_or M r []) c) (extends k c α) e) [
          | inl i ↦ let p = both (empties k α) (has (slice_index_or M r []) c) i in in_subset (slice_index_or M r []) more c (part (is_null N α) (sym (same_null α) ∙ p.0) b.0) p.1
          | inr i ↦ x.1 c i
        ],
      )
    where
      part : (n : Bool) → n ≡ true → (if n then subset (slice_index_or M r []) more else true) ≡ true → subset (slice_index_or M r []) more ≡ true
      part true e h = h
      part false e h = absurd cc

-- ---- an alternative of a row

all_at : {A : Type 0} (p : A → Bool) (xs : List A) (j : ℕ) (x : A) → list_all p xs ≡ true → slice_get xs j ≡ Some x → p x ≡ true
all_at p [] j x h e = absurd cc
all_at p (y ∷ ys) zero x h e = let i : y ≡ x = cc in subst (λ z. p z ≡ true) i (both (p y) (list_all p ys) h).0
all_at p (y ∷ ys) (suc j) x h e = all_at p ys j x (both (p y) (list_all p ys) h).1 e

map_at : {A B : Type 0} (f : A → B) (xs : List A) (j : ℕ) (x : A) (d : B) → slice_get xs j ≡ Some x → slice_index_or (map f xs) j d ≡ f x
map_at f [] j x d e = absurd cc
map_at f (y ∷ ys) zero x d e = let i : y ≡ x = cc in ap f i
map_at f (y ∷ ys) (suc j) x d e = map_at f ys j x d e

numbered_at : (i : ℕ) (bs : List Alternative) (α : List Symbol) → numbered i bs ≡ Some α → (j : ℕ) × (a : Alternative) × (slice_get bs j ≡ Some a) × (a.number ≡ i) × (a.symbols ≡ α)
numbered_at i [] α e = absurd cc
numbered_at i (b ∷ bs) α e = by (nat_eq b.number i) refl e (λ f. numbered_at i bs α f)
  where
    by : (t : Bool) → nat_eq b.number i ≡ t → (if t then Some b.symbols else numbered i bs) ≡ Some α → (numbered i bs ≡ Some α → (j : ℕ) × (a : Alternative) × (slice_get bs j ≡ Some a) × (a.number ≡ i) × (a.symbols ≡ α))
        → (j : ℕ) × (a : Alternative) × (slice_get (b ∷ bs) j ≡ Some a) × (a.number ≡ i) × (a.symbols ≡ α)
    by true t f later = (0, b, refl, eqb-true b.number i t, cc)
    by false t f later = let x = later f in (suc x.0, x.1, x.2, x.3, x.4)

among : (cs : List Alternative) (j : ℕ) (a : Alternative) (c : ℕ) → slice_get cs j ≡ Some a → has a.firsts c ≡ true → has (flat_map (λ (x : Alternative). x.firsts) cs) c ≡ true
among [] j a c e h = absurd cc
among (b ∷ bs) zero a c e h = let i : b ≡ a = cc in has_append b.firsts (flat_map (λ (x : Alternative). x.firsts) bs) c ∙ or_left (has b.firsts c) _ (ap (λ (x : Alternative). has x.firsts c) i ∙ h)
among (b ∷ bs) (suc j) a c e h = has_append b.firsts (flat_map (λ (x : Alternative). x.firsts) bs) c ∙ or_right (has b.firsts c) _ (among bs j a c e h)

left_false : (a b : Bool) → a || b ≡ false → (a ≡ false) × (b ≡ false)
left_false true b h = absurd cc
left_false false b h = (refl, h)

record Parted (a : Alternative) (others : List Alternative) : Type 0 where
  firsts : list_all (λ (b : Alternative). apart a.firsts b.firsts) others ≡ true
  rest : apart_all others ≡ true

parted : (a : Alternative) (others : List Alternative) → apart_all (a ∷ others) ≡ true → Parted a others
parted a others h =
    let x = tested (list_all (λ (b : Alternative). apart a.firsts b.firsts) others) (apart_all others) h in
    record { firsts = x.0; rest = x.1 }

begun : (cs : List Alternative) (j : ℕ) (a : Alternative) (c : ℕ) (other : Option ℕ) → apart_all cs ≡ true → slice_get cs j ≡ Some a → has a.firsts c ≡ true → begun_by c cs other ≡ Some a.number
begun [] j a c other h e i = absurd cc
begun (b ∷ bs) zero a c other h e i = let is : b ≡ a = cc in ap (λ (x : Alternative). if has x.firsts c then Some x.number else begun_by c bs other) is ∙ rw i refl
begun (b ∷ bs) (suc j) a c other h e i = let p = parted b bs h in by (has b.firsts c) refl p (begun bs j a c other p.rest e i)
  where
    by : (t : Bool) → has b.firsts c ≡ t → Parted b bs → begun_by c bs other ≡ Some a.number → (if t then Some b.number else begun_by c bs other) ≡ Some a.number
    by true t p later = let no = in_apart b.firsts a.firsts c (all_at (λ (x : Alternative). apart b.firsts x.firsts) bs j a p.firsts e) t in let x : true ≡ false = sym i ∙ no in absurd cc
    by false t p later = later

unbegun : (cs : List Alternative) (c : ℕ) (other : Option ℕ) → has (flat_map (λ (x : Alternative). x.firsts) cs) c ≡ false → begun_by c cs other ≡ other
unbegun [] c other h = refl
unbegun (b ∷ bs) c other h =
    let p = left_false (has b.firsts c) (has (flat_map (λ (x : Alternative). x.firsts) bs) c) (sym (has_append b.firsts (flat_map (λ (x : Alternative). x.firsts) bs) c) ∙ h) in
    rw p.0 (unbegun bs c other p.1)

-- the number that is meant is the one that is there
number_is : (o : Option ℕ) (n : ℕ) → is_number o n ≡ true → o ≡ Some n
number_is None n h = absurd cc
number_is (Some m) n h = ap (λ (x : ℕ). Some x) (eqb-true m n h)

some_is : (o : Option ℕ) (n : ℕ) → o ≡ Some n → is_some o ≡ true
some_is o n h = rw h refl

-- ---- the whole

bind_some : {A B : Type 0} (r : Option A) (f : A → Option B) (y : B) → (r >>= f) ≡ Some y → (x : A) × (r ≡ Some x) × (f x ≡ Some y)
bind_some (Some x) f y e = (x, refl, e)
bind_some None f y e = absurd cc

right_at : (rows : List Row) (r i : ℕ) (row : Row) (j : ℕ) (a : Alternative) → check_row (all_firsts rows) (all_nulls rows) (all_mores rows) (all_heights rows) row ≡ true
    → slice_get rows r ≡ Some row → slice_get row.alternatives j ≡ Some a → a.number ≡ i → IsRightAt (grammar_of_rows rows) (tables_of_rows rows) r i a.symbols
right_at rows r i row j a h at_row at is =
    let each = tested (list_all (check_alternative (F rows) (N rows) (M rows) (H rows) row) row.alternatives) _ h in
    let alone = tested (apart_all row.alternatives) _ each.1 in
    let behind = tested (implies (is_some row.nothing) (subset (firsts_of row) row.more)) (is_own row) alone.1 in
    let mine = all_at (check_alternative (F rows) (N rows) (M rows) (H rows) row) row.alternatives j a each.0 at in
    let sub = tested (subset (begins_with (F rows) (N rows) a.symbols) a.firsts) _ mine in
    let fit = tested (all_fit (F rows) (N rows) (M rows) row.more a.symbols) _ sub.1 in
    let low = tested (nat_lt (lead_of (N rows) (H rows) a.symbols) row.height) (implies (is_null (N rows) a.symbols) (is_number row.nothing a.number)) fit.1 in
    let they = they_fit rows row.more a.symbols fit.0 in
    let firsts_are : slice_index_or (F rows) r [] ≡ firsts_of row = map_at firsts_of rows r row [] at_row in
    let null_is : slice_index_or (N rows) r false ≡ is_some row.nothing = map_at (λ (x : Row). is_some x.nothing) rows r row false at_row in
    let more_is : slice_index_or (M rows) r [] ≡ row.more = map_at (λ (x : Row). x.more) rows r row [] at_row in
    let height_is : slice_index_or (H rows) r 0 ≡ row.height = map_at (λ (x : Row). x.height) rows r row 0 at_row in
    let begun_is : (c : ℕ) → begins (k rows) c a.symbols ≡ true → has a.firsts c ≡ true = λ c e. in_subset (begins_with (F rows) (N rows) a.symbols) a.firsts c sub.0 (sym (same_begins rows c a.symbols) ∙ e) in
    let nothing_is : empties (k rows) a.symbols ≡ true → row.nothing ≡ Some a.number = λ e. number_is row.nothing a.number (implied (is_null (N rows) a.symbols) (is_number row.nothing a.number) low.1 (sym (same_null rows a.symbols) ∙ e)) in
    let null_too : empties (k rows) a.symbols ≡ true → is_some row.nothing ≡ true = λ e. some_is row.nothing a.number (nothing_is e) in
    let here : (next : Option ℕ) → (slice_get rows r >>= λ x. chosen_of x next) ≡ chosen_of row next = λ next. ap (λ (o : Option Row). o >>= λ x. chosen_of x next) at_row in
    let number_too : Some a.number ≡ Some i = ap (λ (n : ℕ). Some n) is in
    record {
      first = λ c e. ap (λ (xs : List ℕ). has xs c) firsts_are ∙ among row.alternatives j a c at (begun_is c e);
      null = λ e. null_is ∙ null_too e;
      more = λ c e. ap (λ (xs : List ℕ). has xs c) more_is ∙ they.1 c e;
      fits = they.0;
      height = let low_is = low.0 in let lead_is = same_lead rows a.symbols in grind (arith, low_is, lead_is, height_is);
      chosen = λ c e. here (Some c) ∙ begun row.alternatives j a c _ alone.0 at (begun_is c e) ∙ number_too;
      default = λ e c none. here (Some c) ∙ unbegun row.alternatives c _ (sym (ap (λ (xs : List ℕ). has xs c) firsts_are) ∙ none) ∙ nothing_is e ∙ number_too;
      over = λ e. here None ∙ nothing_is e ∙ number_too;
      opens = λ e c f. ap (λ (xs : List ℕ). has xs c) more_is ∙ in_subset (firsts_of row) row.more c (implied (is_some row.nothing) _ behind.0 (null_too e)) (sym (ap (λ (xs : List ℕ). has xs c) firsts_are) ∙ f);
    }

pub rows_are_right : (rows : List Row) → check_rows rows ≡ true → IsRight (grammar_of_rows rows) (tables_of_rows rows)
rows_are_right rows h = record {
  at = λ r i α e.
      let x = bind_some (slice_get rows r) (λ row. numbered i row.alternatives) α e in
      let y = numbered_at i (x.0).alternatives α x.2 in
      subst (λ β. IsRightAt (grammar_of_rows rows) (tables_of_rows rows) r i β) y.4
      (right_at rows r i x.0 y.0 y.1 (all_at (check_row (all_firsts rows) (all_nulls rows) (all_mores rows) (all_heights rows)) rows r x.0 h x.1) x.1 y.2 y.3);
}

-- ---- what is chosen is there

number_among : (o : Option ℕ) (i : ℕ) (bs : List Alternative) → o ≡ Some i → list_any (λ (a : Alternative). is_number o a.number) bs ≡ true → (α : List Symbol) × (numbered i bs ≡ Some α)
number_among o i [] e h = absurd cc
number_among o i (b ∷ bs) e h = by (nat_eq b.number i) refl (either (is_number o b.number) (list_any (λ (a : Alternative). is_number o a.number) bs) h) (λ m. number_among o i bs e m)
  where
    by : (t : Bool) → nat_eq b.number i ≡ t → (is_number o b.number ≡ true) ⊎ (list_any (λ (a : Alternative). is_number o a.number) bs ≡ true)
        → (list_any (λ (a : Alternative). is_number o a.number) bs ≡ true → (α : List Symbol) × (numbered i bs ≡ Some α)) → (α : List Symbol) × ((if t then Some b.symbols else numbered i bs) ≡ Some α)
    by true t s later = (b.symbols, refl)
    by false t (inl m) later = let x : Some b.number ≡ Some i = sym (number_is o b.number m) ∙ e in let y : b.number ≡ i = cc in absurd (grind (arith, t, y))
    by false t (inr m) later = later m

begun_among : (c i : ℕ) (bs : List Alternative) (other : Option ℕ) → begun_by c bs other ≡ Some i → ((α : List Symbol) × (numbered i bs ≡ Some α)) ⊎ (other ≡ Some i)
begun_among c i [] other e = inr e
begun_among c i (b ∷ bs) other e = by (has b.firsts c) (nat_eq b.number i) refl e (λ f. begun_among c i bs other f)
  where
    by : (t s : Bool) → nat_eq b.number i ≡ s → (if t then Some b.number else begun_by c bs other) ≡ Some i → (begun_by c bs other ≡ Some i → ((α : List Symbol) × (numbered i bs ≡ Some α)) ⊎ (other ≡ Some i))
        → ((α : List Symbol) × ((if s then Some b.symbols else numbered i bs) ≡ Some α)) ⊎ (other ≡ Some i)
    by t true s f later = inl (b.symbols, refl)
    by true false s f later = let y : b.number ≡ i = cc in absurd (grind (arith, s, y))
    by false false s f later = later f

nothing_in : (row : Row) (i : ℕ) → is_own row ≡ true → row.nothing ≡ Some i → (α : List Symbol) × (numbered i row.alternatives ≡ Some α)
nothing_in row i own e = number_among row.nothing i row.alternatives e (implied (is_some row.nothing) _ own (some_is row.nothing i e))

chosen_in : (row : Row) (i : ℕ) (n : Option ℕ) → is_own row ≡ true → chosen_of row n ≡ Some i → (α : List Symbol) × (numbered i row.alternatives ≡ Some α)
chosen_in row i None own e = nothing_in row i own e
chosen_in row i (Some c) own e = elim (begun_among c i row.alternatives row.nothing e) [
  | inl x ↦ x
  | inr x ↦ nothing_in row i own x
]

-- the alternative that the next token tells is one of the rule
pub chosen_stands : (rows : List Row) → check_rows rows ≡ true → (r i : ℕ) (n : Option ℕ) → (grammar_of_rows rows).choose r n ≡ Some i → (α : List Symbol) × ((grammar_of_rows rows).symbols r i ≡ Some α)
chosen_stands rows h r i n e =
    let x = bind_some (slice_get rows r) (λ row. chosen_of row n) i e in
    let row = x.0 in
    let c = all_at (check_row (all_firsts rows) (all_nulls rows) (all_mores rows) (all_heights rows)) rows r row h x.1 in
    let each = tested (list_all (check_alternative (F rows) (N rows) (M rows) (H rows) row) row.alternatives) _ c in
    let alone = tested (apart_all row.alternatives) _ each.1 in
    let own = tested (implies (is_some row.nothing) (subset (firsts_of row) row.more)) (is_own row) alone.1 in
    let y = chosen_in row i n own.1 x.2 in
    (y.0, ap (λ (o : Option Row). o >>= λ z. numbered i z.alternatives) x.1 ∙ y.1)

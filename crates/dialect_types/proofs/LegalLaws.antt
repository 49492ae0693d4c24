-- Names and their identifiers: which identifier a name asks for, which suffixes are taken, and what a name that is met adds.
use Rattle.std.proofs.Common.{◌≡◌, ◌<◌, ◌≤◌, ◌+◌, ◌/◌, ◌%◌, inl, inr, ℕ, zero, suc, Bool, true, false, not, if◌then◌else◌, ◌&&◌, ◌||◌, ◌==◌, nat_eq, nat_lt, List, [], ◌∷◌, ◌++◌, Option, Some, None, length, map, take, replicate, slice_get, slice_set, get_or, ap, sym, ◌∙◌, refl, subst, arith, length-append}
use Rattle.std.specs.Prelude.{IfSome, position, is_some}
use Rattle.std.specs.Bool.{Decides}
use Rattle.std.specs.Cmp.{unsigned_Decides}
use Rattle.std.specs.Cmp.Lexicographic.{pointwise, pointwise_decides}
use Rattle.std.specs.Fmt.{decimal, digits, digits_onto, digit_glyph}
use Rattle.std.specs.List.{list_any, list_all}
use Rattle.std.proofs.lemmas.Bool.{cases_order}
use Rattle.std.proofs.lemmas.List.{append-nil, append_assoc, map-append, take-append-le, take_all, take_more}
use Rattle.std.proofs.lemmas.List.Folds.{list_all-append, list_any_at}
use Rattle.std.proofs.lemmas.List.Quantifiers.{position-Some}
use Rattle.std.proofs.lemmas.Option.{get_or_from_slice_get, slice_get-get_or, slice_get_within, same_Some}
use Rattle.support.specs.Interned.{IsDistinctList}
use Rattle.support.proofs.ListLaws.{slice_get-kept, slice_get-push, slice_get-push_cases, slice_get-behind_cases, slice_get-set_cases, distinct_push, item_there}
use Rattle.indexmap.specs.IndexSet.{insert_key}
use Rattle.dialect_types.specs.Names.{IsIdentifier, is_letter, is_digit, is_name_byte}
use Rattle.dialect_types.specs.Legalised.{as_name_byte, is_headless, headed, asked, wish, IsIn, IsFirstFree, Named, IsLegalised, Gave, GoesOn, IsGiven, paired, IsPut, AreTaken, IsTried, IsWished, IsTaken, IsFirstTaken}

-- ---- texts that are each kept once

texts_decide : (a b : List ℕ) → Decides (pointwise nat_eq a b) (a ≡ b)
texts_decide = pointwise_decides unsigned_Decides

absent : (xs : List (List ℕ)) (t : List ℕ) → list_any (pointwise nat_eq t) xs ≡ false → ¬ (IsIn xs t)
absent xs t none h =
    let there = list_any_at (pointwise nat_eq t) xs h.0 t (slice_get_within xs h.0 t h.1) ((texts_decide t (get_or xs h.0 t)).1 (sym (get_or_from_slice_get xs h.0 t t h.1))) in
    cc

pub put_new : (old new : List (List ℕ)) (t : List ℕ) (fresh : Bool) → fresh ≡ not (list_any (pointwise nat_eq t) old) → new ≡ insert_key (pointwise nat_eq) old t → fresh ≡ true → IsPut old new t None
put_new old new t fresh is grown was = by (list_any (pointwise nat_eq t) old) refl is grown
  where
    by : (b : Bool) → list_any (pointwise nat_eq t) old ≡ b → fresh ≡ not b → new ≡ (if b then old else old ++ t ∷ []) → IsPut old new t None
    by true e f g = absurd (let no : ⊥ = cc in no)
    by false e f g = (g, absent old t e)

pub put_met : (old new : List (List ℕ)) (t : List ℕ) (fresh : Bool) (at : ℕ) → fresh ≡ not (list_any (pointwise nat_eq t) old) → new ≡ insert_key (pointwise nat_eq) old t
    → (k : List ℕ) × (slice_get new at ≡ Some k) × (pointwise nat_eq t k ≡ true) → fresh ≡ false → IsPut old new t (Some at)
put_met old new t fresh at is grown stored was = by (list_any (pointwise nat_eq t) old) is grown
  where
    by : (b : Bool) → fresh ≡ not b → new ≡ (if b then old else old ++ t ∷ []) → IsPut old new t (Some at)
    by true f g = (g, ap (λ xs. slice_get xs at) (sym g) ∙ stored.1 ∙ ap Some (sym ((texts_decide t stored.0).0 stored.2)))
    by false f g = absurd (let wrong : ⊥ = cc in wrong)

-- a text stands where it is found, and nowhere where it is not
pub found_text : (xs : List (List ℕ)) (t : List ℕ) (r : Option ℕ) → r ≡ position (pointwise nat_eq t) xs → IfSome r (λ (at : ℕ). slice_get xs at ≡ Some t)
found_text xs t None is = tt
found_text xs t (Some i) is =
    let at = position-Some (pointwise nat_eq t) xs i [] (sym is) in
    slice_get-get_or xs i [] at.0 ∙ ap Some (sym ((texts_decide t (get_or xs i [])).0 at.1))

pub found_none : (xs : List (List ℕ)) (t : List ℕ) (r : Option ℕ) → is_some r ≡ list_any (pointwise nat_eq t) xs → r ≡ None → ¬ (IsIn xs t)
found_none xs t r is none = absent xs t (sym is ∙ ap is_some none)

-- the same of what equals them
pub put_as : (old new : List (List ℕ)) (t n : List ℕ) (o p : Option ℕ) → o ≡ p → t ≡ n → IsPut old new t o → IsPut old new n p
put_as old new t n o p e f h = subst (λ (x : List ℕ). IsPut old new x p) f (subst (IsPut old new t) e h)

-- ---- the identifier that a name asks for

byte_legal : (c : ℕ) → is_name_byte (as_name_byte c) ≡ true
byte_legal c = by (is_name_byte c) refl
  where
    by : (b : Bool) → is_name_byte c ≡ b → is_name_byte (if b then c else 95) ≡ true
    by true e = e
    by false e = refl

no_digit : (l d u : Bool) → ((l || d) || u) ≡ false → d ≡ false
no_digit true d u h = absurd (let no : ⊥ = cc in no)
no_digit false true u h = absurd (let no : ⊥ = cc in no)
no_digit false false u h = refl

letter_else : (l d u : Bool) → ((l || d) || u) ≡ true → d ≡ false → (l || u) ≡ true
letter_else true d u h e = refl
letter_else false true u h e = absurd (let no : ⊥ = cc in no)
letter_else false false u h e = h

digit_stays : (c : ℕ) → is_digit (as_name_byte c) ≡ is_digit c
digit_stays c = by (is_name_byte c) refl
  where
    by : (b : Bool) → is_name_byte c ≡ b → is_digit (if b then c else 95) ≡ is_digit c
    by true e = refl
    by false e = sym (no_digit (is_letter c) (is_digit c) (c == 95) e)

and_both : (a b : Bool) → a ≡ true → b ≡ true → (a && b) ≡ true
and_both a b e f = ap (λ x. x && b) e ∙ f

and_first : (a b : Bool) → (a && b) ≡ true → a ≡ true
and_first true b h = refl
and_first false b h = h

and_second : (a b : Bool) → (a && b) ≡ true → b ≡ true
and_second true b h = h
and_second false b h = absurd (let no : ⊥ = cc in no)

bytes_legal : (name : List ℕ) → list_all is_name_byte (map as_name_byte name) ≡ true
bytes_legal [] = refl
bytes_legal (c ∷ cs) = and_both (is_name_byte (as_name_byte c)) _ (byte_legal c) (bytes_legal cs)

headed_legal : (cs : List ℕ) → list_all is_name_byte cs ≡ true → IsIdentifier (headed cs)
headed_legal [] h = (refl, refl)
headed_legal (c ∷ cs) h = by (is_digit c) refl
  where
    by : (b : Bool) → is_digit c ≡ b → IsIdentifier (if b then 95 ∷ (c ∷ cs) else c ∷ cs)
    by true e = (refl, h)
    by false e = (letter_else (is_letter c) (is_digit c) (c == 95) (and_first (is_name_byte c) (list_all is_name_byte cs) h) e, and_second (is_name_byte c) (list_all is_name_byte cs) h)

pub asked_legal : (name : List ℕ) → IsIdentifier (asked name)
asked_legal name = headed_legal (map as_name_byte name) (bytes_legal name)

-- ---- wishes

glyph_legal : (d : ℕ) → d < 10 → is_name_byte (digit_glyph false d) ≡ true
glyph_legal d l = by (nat_lt d 10) refl
  where
    by : (b : Bool) → nat_lt d 10 ≡ b → is_name_byte (if b then 48 + d else 87 + d) ≡ true
    by true e = grind arith
    by false e = grind arith

spelled_legal : (k n : ℕ) (acc : List ℕ) → list_all is_name_byte acc ≡ true → list_all is_name_byte (digits_onto k 10 false n acc) ≡ true
spelled_legal zero n acc h = h
spelled_legal (suc k) n acc h =
    let glyph = digit_glyph false (n % 10) in
    let more = and_both (is_name_byte glyph) (list_all is_name_byte acc) (glyph_legal (n % 10) (omega arith)) h in
    let rest = spelled_legal k (n / 10) (glyph ∷ acc) more in
    elim (n / 10 == 0) as (λ b. list_all is_name_byte (if b then glyph ∷ acc else digits_onto k 10 false (n / 10) (glyph ∷ acc)) ≡ true) [ true ↦ more | false ↦ rest ]

decimal_legal : (n : ℕ) → list_all is_name_byte (decimal n) ≡ true
unfolding digits
decimal_legal n = spelled_legal 64 n [] refl

suffixed_legal : (i ds : List ℕ) → IsIdentifier i → list_all is_name_byte ds ≡ true → IsIdentifier (i ++ ds)
suffixed_legal [] ds h e = absurd h
suffixed_legal (c ∷ cs) ds h e = (h.0, list_all-append is_name_byte cs ds ∙ and_both (list_all is_name_byte cs) (list_all is_name_byte ds) h.1 e)

pub wish_legal : (i : List ℕ) (n : ℕ) → IsIdentifier i → IsIdentifier (wish i n)
wish_legal i zero h = h
wish_legal i (suc k) h = suffixed_legal i (95 ∷ decimal (suc k)) h (decimal_legal (suc k))

pub wish_suffixed : (i : List ℕ) (n : ℕ) → 0 < n → wish i n ≡ i ++ 95 ∷ decimal n
wish_suffixed i zero h = absurd (omega arith)
wish_suffixed i (suc k) h = refl

pub wished_legal : (i : List ℕ) (n : ℕ) → 0 < n → IsIdentifier i → IsIdentifier (i ++ 95 ∷ decimal n)
wished_legal i n some h = subst IsIdentifier (wish_suffixed i n some) (wish_legal i n h)

-- ---- suffixes that were tried

pub wished_new : (old new : List (List ℕ)) (i t j : List ℕ) (n : ℕ) → 0 < n → t ≡ i ++ 95 ∷ decimal n → j ≡ t → IsPut old new t None → IsWished old new i n (Some j)
wished_new old new i t j n some is same put =
    (same ∙ is ∙ sym (wish_suffixed i n some), put.0 ∙ ap (λ (x : List ℕ). old ++ x ∷ []) (sym same), λ h. put.1 (h.0, h.1 ∙ ap Some same))

pub wished_met : (old new : List (List ℕ)) (i t : List ℕ) (n at : ℕ) → 0 < n → t ≡ i ++ 95 ∷ decimal n → IsPut old new t (Some at) → IsWished old new i n None
wished_met old new i t n at some is put = (put.0, (at, put.1 ∙ ap Some (is ∙ sym (wish_suffixed i n some))))

-- one more suffix was tried
pub taken_more : (old new : List (List ℕ)) (i : List ℕ) (k : ℕ) → AreTaken old i k → IsWished old new i (k + 1) None → AreTaken new i (k + 1)
taken_more old new i k before wished l le = elim (cases_order l (k + 1)) [
  | inl same ↦ rw (same, wished.0) wished.1
  | inr apart ↦ elim apart [ inl below ↦ rw wished.0 (before l (omega arith)) | inr above ↦ absurd (omega arith) ]
]

pub taken_first : (old mid new : List (List ℕ)) (i j : List ℕ) (k : ℕ) → mid ≡ old → AreTaken mid i k → IsWished mid new i (k + 1) (Some j) → IsTaken old new i j (k + 1)
taken_first old mid new i j k same before wished = record {
  is = wished.0;
  free = subst (λ (xs : List (List ℕ)). ¬ (IsIn xs j)) same wished.2;
  first = λ l lt. subst (λ (xs : List (List ℕ)). IsIn xs (wish i l)) same (before l (omega arith));
  grown = wished.1 ∙ ap (λ (xs : List (List ℕ)). xs ++ j ∷ []) same;
}

in_kept : {X : Type 0} (xs ys : List X) (x : X) → IsIn xs x → IsIn (xs ++ ys) x
in_kept xs ys x h = (h.0, slice_get-kept xs ys h.0 x h.1)

zero_cases : (m j n : ℕ) → slice_get (replicate m 0) j ≡ Some n → (j < m) × (n ≡ 0)
zero_cases zero j n h = absurd (let no : ⊥ = cc in no)
zero_cases (suc m) zero n h = (omega arith, sym (same_Some 0 n h))
zero_cases (suc m) (suc j) n h = let r = zero_cases m j n h in (omega (arith, r.0), r.1)

-- nothing was tried of the identifiers at further places
pub tried_padded : (taken : List (List ℕ)) (tried new : List ℕ) (done : Bool) (at m : ℕ) → IsTried taken tried → new ≡ (if done then take (at + 1) tried ++ replicate m 0 else tried)
    → length tried ≤ at → at < length taken → length tried + m ≤ at + 1 → IsTried taken new
tried_padded taken tried new false at m before is few within all = subst (IsTried taken) (sym is) before
tried_padded taken tried new true at m before is few within all = subst (IsTried taken) (sym (is ∙ ap (λ (xs : List ℕ). xs ++ replicate m 0) (take_all (at + 1) tried (omega arith)))) longer
  where
    none : (i : List ℕ) (k : ℕ) → slice_get taken k ≡ Some i → AreTaken taken i 0
    none i k here zero le = (k, here)
    none i k here (suc l) le = absurd (omega arith)

    longer : IsTried taken (tried ++ replicate m 0)
    longer k n h = elim (slice_get-behind_cases tried (replicate m 0) k n h) [
      | inl old ↦ before k n old
      | inr new ↦ (let r = zero_cases m new.0 n new.2 in
          let there = item_there taken k (omega (arith, r.0, new.1)) in
          (there.0, there.1, subst (AreTaken taken there.0) (sym r.1) (none there.0 k there.1)))
    ]

pub tried_at : (taken : List (List ℕ)) (tried : List ℕ) (i : List ℕ) (at n : ℕ) → IsTried taken tried → slice_get tried at ≡ Some n → slice_get taken at ≡ Some i → AreTaken taken i n
tried_at taken tried i at n h noted here =
    let r = h at n noted in
    subst (λ (x : List ℕ). AreTaken taken x n) (same_Some r.0 i (sym r.1 ∙ here)) r.2

tried_longer : (old : List (List ℕ)) (j : List ℕ) (tried : List ℕ) → IsTried old tried → IsTried (old ++ j ∷ []) tried
tried_longer old j tried h at n noted =
    let r = h at n noted in
    (r.0, slice_get-kept old (j ∷ []) at r.0 r.1, λ l le. in_kept old (j ∷ []) (wish r.0 l) (r.2 l le))

taken_up_to : (old new : List (List ℕ)) (i j : List ℕ) (n : ℕ) → IsTaken old new i j n → AreTaken new i n
taken_up_to old new i j n h l le = elim (cases_order l n) [
  | inl same ↦ rw (same, h.grown, ← h.is) (length old, slice_get-push old j (length old) refl)
  | inr apart ↦ elim apart [ inl below ↦ rw h.grown (in_kept old (j ∷ []) (wish i l) (h.first l below)) | inr above ↦ absurd (omega arith) ]
]

-- the suffix that was taken is noted
pub tried_noted : (old new : List (List ℕ)) (tried : List ℕ) (i j : List ℕ) (at n : ℕ) → IsTried old tried → slice_get old at ≡ Some i → IsTaken old new i j n → IsTried new (slice_set tried at n)
tried_noted old new tried i j at n before here taken k m noted = elim (slice_get-set_cases tried at k n m noted) [
  | inl set ↦ (i, rw (set.0, taken.grown) (slice_get-kept old (j ∷ []) at i here), subst (AreTaken new i) (sym set.1) (taken_up_to old new i j n taken))
  | inr old_noted ↦ subst (λ (xs : List (List ℕ)). (x : List ℕ) × (slice_get xs k ≡ Some x) × AreTaken xs x m) (sym taken.grown) (tried_longer old j tried before k m old_noted)
]

pub tried_grown : (old new : List (List ℕ)) (tried : List ℕ) (j : List ℕ) → IsTried old tried → new ≡ old ++ j ∷ [] → IsTried new tried
tried_grown old new tried j h grown = subst (λ (xs : List (List ℕ)). IsTried xs tried) (sym grown) (tried_longer old j tried h)

pub first_taken : (old new : List (List ℕ)) (i j : List ℕ) (n : ℕ) → IsTaken old new i j n → IsFirstTaken old new i j
first_taken old new i j n h = record { first = (n, h.is, h.free, h.first); grown = h.grown }

-- the identifier that was asked for was free itself
pub first_itself : (old new : List (List ℕ)) (i j : List ℕ) → j ≡ i → IsPut old new i None → IsFirstTaken old new i j
first_itself old new i j same put = record {
  first = (0, same, λ h. put.1 (h.0, h.1 ∙ ap Some same), λ l lt. absurd (omega arith));
  grown = put.0 ∙ ap (λ (x : List ℕ). old ++ x ∷ []) (sym same);
}

-- ---- names with their identifiers

abbrev names_of : List Named → List (List ℕ)
names_of given = map (λ (g : Named). g.name) given

abbrev identifiers_of : List Named → List (List ℕ)
identifiers_of given = map (λ (g : Named). g.identifier) given

abbrev named : List ℕ → List ℕ → Named
named n i = record { name = n; identifier = i }

length-paired : (ns is : List (List ℕ)) → length ns ≡ length is → length (paired ns is) ≡ length ns
length-paired [] is e = refl
length-paired (n ∷ ns) [] e = absurd (omega arith)
length-paired (n ∷ ns) (i ∷ is) e = ap suc (length-paired ns is (omega arith))

names_paired : (ns is : List (List ℕ)) → length ns ≡ length is → names_of (paired ns is) ≡ ns
names_paired [] is e = refl
names_paired (n ∷ ns) [] e = absurd (omega arith)
names_paired (n ∷ ns) (i ∷ is) e = ap (λ (xs : List (List ℕ)). n ∷ xs) (names_paired ns is (omega arith))

identifiers_paired : (ns is : List (List ℕ)) → length ns ≡ length is → identifiers_of (paired ns is) ≡ is
identifiers_paired [] [] e = refl
identifiers_paired [] (i ∷ is) e = absurd (omega arith)
identifiers_paired (n ∷ ns) [] e = absurd (omega arith)
identifiers_paired (n ∷ ns) (i ∷ is) e = ap (λ (xs : List (List ℕ)). i ∷ xs) (identifiers_paired ns is (omega arith))

paired-push : (ns is : List (List ℕ)) (n i : List ℕ) → length ns ≡ length is → paired (ns ++ n ∷ []) (is ++ i ∷ []) ≡ paired ns is ++ named n i ∷ []
paired-push [] [] n i e = refl
paired-push [] (j ∷ is) n i e = absurd (omega arith)
paired-push (m ∷ ns) [] n i e = absurd (omega arith)
paired-push (m ∷ ns) (j ∷ is) n i e = ap (λ (xs : List Named). named m j ∷ xs) (paired-push ns is n i (omega arith))

pair_at : (ns is : List (List ℕ)) (n i : List ℕ) (k : ℕ) → slice_get ns k ≡ Some n → slice_get is k ≡ Some i → slice_get (paired ns is) k ≡ Some (named n i)
pair_at [] is n i k e f = absurd (let no : ⊥ = cc in no)
pair_at (m ∷ ns) [] n i k e f = absurd (let no : ⊥ = cc in no)
pair_at (m ∷ ns) (j ∷ is) n i zero e f = ap (λ (x : List ℕ). Some (named x j)) (same_Some m n e) ∙ ap (λ (x : List ℕ). Some (named n x)) (same_Some j i f)
pair_at (m ∷ ns) (j ∷ is) n i (suc k) e f = pair_at ns is n i k e f

-- ---- what holds of names that were legalised

get_map : {X Y : Type 0} (f : X → Y) (xs : List X) (k : ℕ) (x : X) → slice_get xs k ≡ Some x → slice_get (map f xs) k ≡ Some (f x)
get_map f [] k x h = absurd (let no : ⊥ = cc in no)
get_map f (y ∷ xs) zero x h = ap (λ z. Some (f z)) (same_Some y x h)
get_map f (y ∷ xs) (suc k) x h = get_map f xs k x h

get_take : {X : Type 0} (xs : List X) (n k : ℕ) (x : X) → k < n → slice_get xs k ≡ Some x → slice_get (take n xs) k ≡ Some x
get_take xs zero k x lt h = absurd (omega arith)
get_take [] (suc n) k x lt h = h
get_take (y ∷ xs) (suc n) zero x lt h = h
get_take (y ∷ xs) (suc n) (suc k) x lt h = get_take xs n k x (omega arith) h

pub gave_legal : (given : List Named) (n i : List ℕ) → IsLegalised given → Gave given n i → IsIdentifier i
gave_legal given n i h gave =
    let first = h.firsts gave.0 (named n i) gave.1 in
    subst IsIdentifier (sym first.1) (wish_legal (asked n) first.0 (asked_legal n))

earlier : (given : List Named) (a b i : List ℕ) (j k : ℕ) → IsLegalised given → slice_get given j ≡ Some (named a i) → slice_get given k ≡ Some (named b i) → ¬ (j < k)
earlier given a b i j k h at_a at_b lt =
    let first = h.firsts k (named b i) at_b in
    first.2 (j, get_map (λ (g : Named). g.identifier) (take k given) j (named a i) (get_take given k j (named a i) lt at_a))

pub one_name : (given : List Named) (a b i : List ℕ) → IsLegalised given → Gave given a i → Gave given b i → a ≡ b
one_name given a b i h at_a at_b = elim (cases_order at_a.0 at_b.0) [
  | inl same ↦ ap (λ (g : Named). g.name) (same_Some (named a i) (named b i) (sym at_a.1 ∙ ap (slice_get given) same ∙ at_b.1))
  | inr apart ↦ elim apart [
    | inl below ↦ absurd (earlier given a b i at_a.0 at_b.0 h at_a.1 at_b.1 below)
    | inr above ↦ absurd (earlier given b a i at_b.0 at_a.0 h at_b.1 at_a.1 above)
  ]
]

pub one_identifier : (given : List Named) (n i j : List ℕ) → IsLegalised given → Gave given n i → Gave given n j → i ≡ j
one_identifier given n i j h at_i at_j =
    let same = h.names at_i.0 at_j.0 n (get_map (λ (g : Named). g.name) given at_i.0 (named n i) at_i.1) (get_map (λ (g : Named). g.name) given at_j.0 (named n j) at_j.1) in
    ap (λ (g : Named). g.identifier) (same_Some (named n i) (named n j) (sym at_i.1 ∙ ap (slice_get given) same ∙ at_j.1))

-- ---- one more name

pub legalised_none : IsLegalised []
legalised_none = record { names = λ i j x at also. absurd (let no : ⊥ = cc in no); firsts = λ k g at. absurd (let no : ⊥ = cc in no) }

legalised_push : (given : List Named) (n i : List ℕ) → IsLegalised given → ¬ (IsIn (names_of given) n) → IsFirstFree (identifiers_of given) (asked n) i → IsLegalised (given ++ named n i ∷ [])
legalised_push given n i h fresh first = record {
  names =
      subst (λ (xs : List (List ℕ)). IsDistinctList xs) (sym (map-append (λ (g : Named). g.name) given (named n i ∷ [])))
      (distinct_push (names_of given) n h.names (λ k at. fresh (k, at)));
  firsts = λ k g at. elim (slice_get-push_cases given (named n i) k g at) [
    | inl old ↦ subst (λ (xs : List Named). IsFirstFree (identifiers_of xs) (asked g.name) g.identifier) (sym (take-append-le k given (named n i ∷ []) (let l = slice_get_within given k g old in omega (arith, l)))) (h.firsts k g old)
    | inr new ↦ rw (new.1, new.0, take-append-le (length given) given (named n i ∷ []) (omega arith), take_all (length given) given (omega arith)) first
  ];
}

-- the tables where a name was met for the first time
pub names_grown : (ns is ns' is' : List (List ℕ)) (n i : List ℕ) → (length ns ≡ length is) × IsLegalised (paired ns is) → IsPut ns ns' n None → IsFirstTaken is is' (asked n) i
    → (length ns' ≡ length is') × IsLegalised (paired ns' is') × IsGiven (paired ns is) (paired ns' is') n i
names_grown ns is ns' is' n i h put taken =
    let new_ns = put.0 in
    let new_is = taken.grown in
    let same : length ns' ≡ length is' = omega (arith, h.0, ap length new_ns, ap length new_is, length-append ns (n ∷ []), length-append is (i ∷ [])) in
    let grown : paired ns' is' ≡ paired ns is ++ named n i ∷ [] = ap (λ (xs : List (List ℕ)). paired xs is') new_ns ∙ ap (λ (xs : List (List ℕ)). paired (ns ++ n ∷ []) xs) new_is ∙ paired-push ns is n i h.0 in
    let fresh : ¬ (IsIn (names_of (paired ns is)) n) = rw (names_paired ns is h.0) put.1 in
    let first : IsFirstFree (identifiers_of (paired ns is)) (asked n) i = rw (identifiers_paired ns is h.0) taken.first in (
      same,
      rw grown (legalised_push (paired ns is) n i h.1 fresh first),
      record {
        here = rw grown (length (paired ns is), slice_get-push (paired ns is) (named n i) (length (paired ns is)) refl);
        either = inr (fresh, grown);
      },
    )

-- and where it had been met
pub names_same : (ns is ns' : List (List ℕ)) (n i : List ℕ) (at : ℕ) → (length ns ≡ length is) × IsLegalised (paired ns is) → IsPut ns ns' n (Some at) → slice_get is at ≡ Some i
    → IsGiven (paired ns is) (paired ns' is) n i
names_same ns is ns' n i at h put there =
    let same : paired ns' is ≡ paired ns is = ap (λ (xs : List (List ℕ)). paired xs is) put.0 in
    record {
      here = rw same (at, pair_at ns is n i at put.1 there);
      either = inl (rw (names_paired ns is h.0) (at, put.1), same);
    }

-- the list goes on where a name is given
pub grown_of : (old new : List Named) (n i : List ℕ) → IsGiven old new n i → GoesOn old new
grown_of old new n i h = elim h.either [ inl met ↦ ([], met.1 ∙ sym (append-nil old)) | inr fresh ↦ (named n i ∷ [], fresh.1) ]

-- what a name has it keeps
pub gave_kept : (given later : List Named) (n i : List ℕ) → GoesOn given later → Gave given n i → Gave later n i
gave_kept given later n i more gave = rw more.1 (in_kept given more.0 (named n i) gave)

-- what a name has that was met is an identifier
pub met_legal : (ns is ns' : List (List ℕ)) (n i : List ℕ) (at : ℕ) → (length ns ≡ length is) × IsLegalised (paired ns is) → IsPut ns ns' n (Some at) → slice_get is at ≡ Some i → IsIdentifier i
met_legal ns is ns' n i at h put there = gave_legal (paired ns is) n i h.1 (at, pair_at ns is n i at put.1 there)

-- ---- the bytes of the identifier that a name asks for, one after another

headless_stays : (name : List ℕ) → is_headless (map as_name_byte name) ≡ is_headless name
headless_stays [] = refl
headless_stays (c ∷ cs) = digit_stays c

pub asked_next : (bytes : List ℕ) (i : ℕ) (start before after : List ℕ) → i < length bytes → before ≡ start ++ map as_name_byte (take i bytes) → after ≡ before ++ as_name_byte (get_or bytes i 0) ∷ []
    → after ≡ start ++ map as_name_byte (take (i + 1) bytes)
asked_next bytes i start before after lt so_far pushed =
    pushed ∙ ap (λ (xs : List ℕ). xs ++ as_name_byte (get_or bytes i 0) ∷ []) so_far
    ∙ append_assoc start (map as_name_byte (take i bytes)) (as_name_byte (get_or bytes i 0) ∷ [])
    ∙ ap (λ (xs : List ℕ). start ++ xs) (sym (ap (map as_name_byte) (take_more bytes i 0 lt) ∙ map-append as_name_byte (take i bytes) (get_or bytes i 0 ∷ [])))

pub asked_whole : (name start all : List ℕ) (n : ℕ) → start ≡ (if is_headless name then 95 ∷ [] else []) → n ≡ length name → all ≡ start ++ map as_name_byte (take n name) → all ≡ asked name
asked_whole name start all n begun every done =
    let whole : take n name ≡ name = take_all n name (omega arith) in
    done ∙ ap (λ (xs : List ℕ). start ++ map as_name_byte xs) whole ∙ ap (λ (xs : List ℕ). xs ++ map as_name_byte name) begun ∙ by (is_headless name) ∙ ap (λ b. if b then 95 ∷ map as_name_byte name else map as_name_byte name) (sym (headless_stays name))
  where
    by : (b : Bool) → (if b then 95 ∷ [] else []) ++ map as_name_byte name ≡ (if b then 95 ∷ map as_name_byte name else map as_name_byte name)
    by true = refl
    by false = refl

-- a name that asks for itself
bytes_stay : (name : List ℕ) → list_all is_name_byte name ≡ true → map as_name_byte name ≡ name
bytes_stay [] h = refl
bytes_stay (c ∷ cs) h =
    let first : as_name_byte c ≡ c = ap (λ (b : Bool). if b then c else 95) (and_first (is_name_byte c) (list_all is_name_byte cs) h) in
    let rest = bytes_stay cs (and_second (is_name_byte c) (list_all is_name_byte cs) h) in
    cc

pub asks_itself : (name : List ℕ) → is_headless name ≡ false → list_all is_name_byte name ≡ true → asked name ≡ name
asks_itself name begins all =
    ap headed (bytes_stay name all) ∙ ap (λ (b : Bool). if b then 95 ∷ name else name) begins

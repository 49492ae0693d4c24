-- What begins with a byte of a name: what is whole is so before what does not go on with it.
use Rattle.std.proofs.Common.{◌≡◌, ◌<◌, ◌≤◌, ◌⊎◌, inl, inr, ℕ, zero, suc, ◌+◌, true, false, ◌&&◌, ◌==◌, List, [], ◌∷◌, ◌++◌, length, drop, if◌then◌else◌, slice_index, refl, ◌∙◌, ap, arith}
use Rattle.std.specs.List.{prefix_len}
use Rattle.std.proofs.lemmas.List.{get_or_append_left}
use Rattle.std.proofs.lemmas.List.Sums.{prefix_len-le-length}
use Rattle.std.proofs.lemmas.Bool.{and_parts}
use Rattle.std.proofs.lemmas.Bool.Decides.{nat_tests}
use Rattle.ll_tokens.specs.Bytes.{is_digit, is_letter_or_digit, is_name_byte, is_word_byte, in_string}
use Rattle.ll_tokens.specs.declared.kinds.Kind.{Kind}
use Rattle.ll_tokens.specs.declared.kinds.Kind.TheVariants.{Label, Word, Int, Float, Comdat, Dots, CStr}
use Rattle.ll_tokens.specs.Pieces.{Found, token, closes, point_at, digits_at, hex_at, begins_hex, number_at, minus_at, dots_at, word_at, bare_at}
use Rattle.ll_tokens.proofs.FitLaws.{inside}
use Rattle.ll_spacing.specs.Following.{goes_on, Stops}
use Rattle.ll_spacing.proofs.RunLaws.{run_same, run_inside, whole_run, first_fails, string_run, still_closes, index_behind}
use Rattle.ll_spacing.proofs.FoundLaws.{by_test, same_len, no_token}
use Rattle.ll_spacing.proofs.NumberLaws.{weaker, number_same, minus_same}
use Rattle.ll_spacing.proofs.NameLaws.{stops_at}

-- what ends a name, a number and a word, and makes no label
record Ends (r : List ℕ) : Type 0 where
  pub name : Stops is_name_byte r
  pub colon : Stops (λ b. b == 58) r

no_name : (b : ℕ) → goes_on Int b ≡ false → is_name_byte b ≡ false
no_name b e = grind (arith, nat_tests)

no_colon : (b : ℕ) → goes_on Int b ≡ false → (b == 58) ≡ false
no_colon b e = grind (arith, nat_tests)

no_int : (b : ℕ) → goes_on Word b ≡ false → goes_on Int b ≡ false
no_int b e = grind (arith, nat_tests)

no_quote : (b : ℕ) → goes_on Word b ≡ false → (b == 34) ≡ false
no_quote b e = grind (arith, nat_tests)

no_word_byte : (b : ℕ) → is_name_byte b ≡ false → is_word_byte b ≡ false
no_word_byte b e = grind (arith, nat_tests)

ends : (r : List ℕ) → Stops (goes_on Int) r → Ends r
ends r s = record { name = weaker is_name_byte (goes_on Int) r no_name s; colon = weaker (λ b. b == 58) (goes_on Int) r no_colon s }

-- ---- which kinds there are

ends_number : (k : Kind) (m n : ℕ) (bs r : List ℕ) → Stops (goes_on k) r → digits_at m bs ≡ token k n → Ends r
unfolding digits_at point_at
ends_number k m n bs r stops e = at_point k (m + prefix_len is_digit bs) n (drop (prefix_len is_digit bs) bs) r stops e
  where
    at_point : (k : Kind) (m n : ℕ) (bs r : List ℕ) → Stops (goes_on k) r → point_at m bs ≡ token k n → Ends r
    at_point k m n [] r stops e = ends r (stops_at Int k m n r stops e)
    at_point k m n (b ∷ bs) r stops e = by_test (token k n) (b == 46) _ _ e (λ c f. ends r (stops_at Float k _ n r stops f)) (λ c f. ends r (stops_at Int k _ n r stops f))

number_ends : (k : Kind) (n : ℕ) (bs r : List ℕ) → Stops (goes_on k) r → number_at bs ≡ token k n → Ends r
unfolding number_at hex_at
number_ends k n bs r stops e =
    by_test (token k n) (begins_hex bs) _ _ e
    (λ c f. by_test (token k n) (prefix_len is_letter_or_digit (drop 2 bs) == 0) _ _ f (λ d g. no_token k n g) (λ d g. ends r (stops_at Float k _ n r stops g)))
    (λ c f. ends_number k 0 n bs r stops f)

minus_ends : (k : Kind) (n : ℕ) (bs r : List ℕ) → Stops (goes_on k) r → minus_at bs ≡ token k n → Ends r
unfolding minus_at
minus_ends k n bs r stops e = by_test (token k n) (is_digit (slice_index bs 0)) _ _ e (λ c f. ends_number k 1 n bs r stops f) (λ c f. no_token k n f)

dots_ends : (k : Kind) (n : ℕ) (bs r : List ℕ) → Stops (goes_on k) r → dots_at bs ≡ token k n → Ends r
unfolding dots_at
dots_ends k n bs r stops e = by_test (token k n) (slice_index bs 0 == 46 && slice_index bs 1 == 46) _ _ e (λ c f. ends r (stops_at Dots k _ n r stops f)) (λ c f. no_token k n f)

-- ---- words and dots

dots_same : (k : Kind) (bs r : List ℕ) → dots_at bs ≡ token k (suc (length bs)) → dots_at (bs ++ r) ≡ token k (suc (length bs))
unfolding dots_at
dots_same k [] r e = no_token k _ e
dots_same k (b ∷ []) r e = by_test (token k 2) (b == 46 && false) _ _ e (λ c f. absurd (grind (arith, nat_tests))) (λ c f. no_token k 2 f)
dots_same k (b ∷ x ∷ bs) r e = e

word_run : (bs r : List ℕ) → Stops (goes_on Word) r → prefix_len is_word_byte (bs ++ r) ≡ prefix_len is_word_byte bs
word_run bs r s = run_same is_word_byte bs r (weaker is_word_byte is_name_byte r no_word_byte (weaker is_name_byte (goes_on Int) r no_name (weaker (goes_on Int) (goes_on Word) r no_int s)))

-- c and a string, whatever follows
pub c_string : (b : ℕ) (bs : List ℕ) → (b == 99 && slice_index bs 0 == 34 && closes (drop 1 bs)) ≡ true → word_at b bs ≡ token CStr (3 + prefix_len in_string (drop 1 bs))
unfolding word_at
c_string b bs e = rw e refl

pub plain_word : (b : ℕ) (bs : List ℕ) → (slice_index bs 0 == 34) ≡ false → word_at b bs ≡ token Word (1 + prefix_len is_word_byte bs)
unfolding word_at
plain_word b bs e = let c : (b == 99 && slice_index bs 0 == 34) ≡ false = rw e (grind arith) in rw c refl

-- the bytes of a word have no quote
pub word_front : (bs r : List ℕ) → Stops (goes_on Word) r → prefix_len is_word_byte bs ≡ length bs → (slice_index (bs ++ r) 0 == 34) ≡ false
word_front [] r stops e = first_fails (λ b. b == 34) r refl (weaker (λ b. b == 34) (goes_on Word) r no_quote stops)
word_front (b ∷ bs) r stops e = let w : is_word_byte b ≡ true = whole_run is_word_byte b bs (is_word_byte b) refl e in grind (arith, nat_tests)

word_same : (k : Kind) (b : ℕ) (bs r : List ℕ) → Stops (goes_on k) r → word_at b bs ≡ token k (suc (length bs)) → word_at b (bs ++ r) ≡ token k (suc (length bs))
unfolding word_at
word_same k b [] r stops e = by_test (token k 1) (b == 99 && false && false) _ _ e (λ c f. absurd (grind (arith, nat_tests))) (λ c f. let s : Stops (goes_on Word) r = stops_at Word k _ 1 r stops f in plain_word b r (word_front [] r s refl) ∙ rw (word_run [] r s) f)
word_same k b (x ∷ bs) r stops e =
    let whole = suc (suc (length bs)) in
    by_test (token k whole) (b == 99 && x == 34 && closes bs) _ _ e
    (λ c f.
    let both = and_parts (b == 99 && x == 34) (closes bs) c in
    rw (both.0, still_closes bs r both.1, string_run bs r both.1) f)
    (λ c f.
    let s : Stops (goes_on Word) r = stops_at Word k _ whole r stops f in
    let len : 1 + prefix_len is_word_byte (x ∷ bs) ≡ whole = same_len _ _ _ _ f in
    let all : prefix_len is_word_byte (x ∷ bs) ≡ length (x ∷ bs) = omega arith in
    plain_word b (x ∷ bs ++ r) (word_front (x ∷ bs) r s all) ∙ rw (word_run (x ∷ bs) r s) f)

-- ---- what begins with a byte of a name

-- where a colon does not end the bytes of a name, none does before what ends a name
no_label : (bs r : List ℕ) → Ends r → (slice_index bs (prefix_len is_name_byte bs) == 58) ≡ false → (slice_index (bs ++ r) (prefix_len is_name_byte (bs ++ r)) == 58) ≡ false
no_label bs r end e =
    let n = prefix_len is_name_byte bs in
    let le : n ≤ length bs = prefix_len-le-length is_name_byte bs in
    rw (run_same is_name_byte bs r end.name) (elim (at_end n (length bs) le) [
      | inl is ↦ rw (is, index_behind bs r) (first_fails (λ b. b == 58) r refl end.colon)
      | inr within ↦ rw (get_or_append_left bs r 0 n within) e
    ])
  where
    at_end : (n m : ℕ) → n ≤ m → (n ≡ m) ⊎ (n < m)
    at_end zero zero le = inl refl
    at_end zero (suc m) le = inr (omega arith)
    at_end (suc n) zero le = absurd (omega arith)
    at_end (suc n) (suc m) le = elim (at_end n m (omega arith)) [ inl e ↦ inl (ap suc e) | inr l ↦ inr (omega arith) ]

-- what is no label
abbrev other_at : ℕ → List ℕ → Found
other_at b bs =
    if is_digit b then number_at (b ∷ bs)
    else (if b == 45 then minus_at bs
    else (if b == 36 then token Comdat (1 + prefix_len is_name_byte bs)
    else (if b == 46 then dots_at bs
    else word_at b bs)))

-- either a string behind c, or what goes on until something ends it
c_or_ends : (k : Kind) (b : ℕ) (bs r : List ℕ) → Stops (goes_on k) r → other_at b bs ≡ token k (suc (length bs)) → ((b == 99 && slice_index bs 0 == 34) ≡ true) ⊎ Ends r
unfolding word_at
c_or_ends k b bs r stops e =
    let whole = suc (length bs) in
    by_test (token k whole) (is_digit b) _ _ e (λ c f. inr (number_ends k whole (b ∷ bs) r stops f))
    (λ c f. by_test (token k whole) (b == 45) _ _ f (λ c f. inr (minus_ends k whole bs r stops f))
    (λ c f. by_test (token k whole) (b == 36) _ _ f (λ c f. inr (ends r (stops_at Comdat k _ whole r stops f)))
    (λ c f. by_test (token k whole) (b == 46) _ _ f (λ c f. inr (dots_ends k whole bs r stops f))
    (λ c f. by_test (token k whole) (b == 99 && slice_index bs 0 == 34 && closes (drop 1 bs)) _ _ f (λ d g. inl (and_parts (b == 99 && slice_index bs 0 == 34) (closes (drop 1 bs)) d).0)
    (λ d g. inr (ends r (weaker (goes_on Int) (goes_on Word) r no_int (stops_at Word k _ whole r stops g))))))))

-- c before a quote is no label
c_no_label : (b : ℕ) (bs : List ℕ) → (b == 99 && slice_index bs 0 == 34) ≡ true → (slice_index (b ∷ bs) (prefix_len is_name_byte (b ∷ bs)) == 58) ≡ false
c_no_label b [] e = absurd (grind (arith, nat_tests))
c_no_label b (x ∷ bs) e =
    let both = and_parts (b == 99) (x == 34) e in
    let name : is_name_byte b ≡ true = grind (arith, nat_tests) in
    let stop : is_name_byte x ≡ false = grind (arith, nat_tests) in
    let one : prefix_len is_name_byte (b ∷ x ∷ bs) ≡ 1 = rw (name, stop) refl in
    rw one (grind (arith, nat_tests))

not_label : (b : ℕ) (bs r : List ℕ) → ((b == 99 && slice_index bs 0 == 34) ≡ true) ⊎ Ends r → (slice_index (b ∷ bs) (prefix_len is_name_byte (b ∷ bs)) == 58) ≡ false
    → (slice_index (b ∷ bs ++ r) (prefix_len is_name_byte (b ∷ bs ++ r)) == 58) ≡ false
not_label b [] r (inl c) e = absurd (grind (arith, nat_tests))
not_label b (x ∷ bs) r (inl c) e = c_no_label b (x ∷ bs ++ r) c
not_label b bs r (inr end) e = no_label (b ∷ bs) r end e

other_same : (k : Kind) (b : ℕ) (bs r : List ℕ) → Stops (goes_on k) r → other_at b bs ≡ token k (suc (length bs)) → other_at b (bs ++ r) ≡ token k (suc (length bs))
other_same k b bs r stops e =
    let whole = suc (length bs) in
    by_test (token k whole) (is_digit b) _ _ e (λ c f. rw c (number_same k b bs r (number_ends k whole (b ∷ bs) r stops f).name f))
    (λ c f. by_test (token k whole) (b == 45) _ _ f (λ d g. rw (c, d) (minus_same k bs r (minus_ends k whole bs r stops g).name g))
    (λ d g. by_test (token k whole) (b == 36) _ _ g
    (λ i h. let end = ends r (stops_at Comdat k _ whole r stops h) in rw (c, d, i, run_same is_name_byte bs r end.name) h)
    (λ i h. by_test (token k whole) (b == 46) _ _ h (λ j l. rw (c, d, i, j) (dots_same k bs r l)) (λ j l. rw (c, d, i, j) (word_same k b bs r stops l)))))

pub bare_same : (k : Kind) (b : ℕ) (bs r : List ℕ) → Stops (goes_on k) r → bare_at b bs ≡ token k (suc (length bs)) → bare_at b (bs ++ r) ≡ token k (suc (length bs))
unfolding bare_at
bare_same k b bs r stops e =
    let whole = suc (length bs) in
    let n = prefix_len is_name_byte (b ∷ bs) in
    by_test (token k whole) (slice_index (b ∷ bs) n == 58) _ _ e
    (λ c f.
    let l : n < length (b ∷ bs) = inside (b ∷ bs) n 58 (omega arith) c in
    let run : prefix_len is_name_byte (b ∷ bs ++ r) ≡ n = run_inside is_name_byte (b ∷ bs) r l in
    let colon : (slice_index (b ∷ bs ++ r) (prefix_len is_name_byte (b ∷ bs ++ r)) == 58) ≡ true = rw (run, get_or_append_left (b ∷ bs) r 0 n l) c in
    label_is b (bs ++ r) n colon run ∙ f)
    (λ c f.
    let no : (slice_index (b ∷ bs ++ r) (prefix_len is_name_byte (b ∷ bs ++ r)) == 58) ≡ false = not_label b bs r (c_or_ends k b bs r stops f) c in
    other_is b (bs ++ r) no ∙ other_same k b bs r stops f)
  where
    label_is : (b : ℕ) (bs : List ℕ) (n : ℕ) → (slice_index (b ∷ bs) (prefix_len is_name_byte (b ∷ bs)) == 58) ≡ true → prefix_len is_name_byte (b ∷ bs) ≡ n → bare_at b bs ≡ token Label (1 + n)
    label_is b bs n c run = rw (c, run) refl

    other_is : (b : ℕ) (bs : List ℕ) → (slice_index (b ∷ bs) (prefix_len is_name_byte (b ∷ bs)) == 58) ≡ false → bare_at b bs ≡ other_at b bs
    other_is b bs c = rw c refl

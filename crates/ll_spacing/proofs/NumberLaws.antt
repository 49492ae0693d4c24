-- A number that is whole is so before what does not go on with it.
use Rattle.std.proofs.Common.{◌≡◌, ℕ, suc, ◌+◌, Bool, true, false, ◌&&◌, ◌==◌, List, [], ◌∷◌, ◌++◌, length, length-drop, drop, slice_index, refl, arith}
use Rattle.std.specs.List.{prefix_len}
use Rattle.std.proofs.lemmas.List.{drop-append-le}
use Rattle.std.proofs.lemmas.List.Sums.{prefix_len-le-length}
use Rattle.std.proofs.lemmas.Bool.Decides.{nat_tests}
use Rattle.ll_tokens.specs.Bytes.{is_digit, is_e, is_letter_or_digit, is_name_byte, is_plus_or_minus}
use Rattle.ll_tokens.specs.declared.kinds.Kind.{Kind}
use Rattle.ll_tokens.specs.Pieces.{token, power_len, exponent_len, fraction_len, point_at, digits_at, hex_at, begins_hex, number_at, minus_at}
use Rattle.ll_spacing.specs.Following.{Stops}
use Rattle.ll_spacing.proofs.RunLaws.{run_same}
use Rattle.ll_spacing.proofs.FoundLaws.{by_test, same_len, no_token}

-- ---- what does not go on with a name

-- what a test that passes less says of a text
pub weaker : (p q : ℕ → Bool) (r : List ℕ) → ((b : ℕ) → q b ≡ false → p b ≡ false) → Stops q r → Stops p r
weaker p q [] f s = tt
weaker p q (b ∷ r) f s = f b s

pub no_digit : (b : ℕ) → is_name_byte b ≡ false → is_digit b ≡ false
no_digit b e = grind (arith, nat_tests)

no_letter : (b : ℕ) → is_name_byte b ≡ false → is_letter_or_digit b ≡ false
no_letter b e = grind (arith, nat_tests)

no_e : (b : ℕ) → is_name_byte b ≡ false → is_e b ≡ false
no_e b e = grind (arith, nat_tests)

no_x : (b : ℕ) → is_name_byte b ≡ false → (b == 120) ≡ false
no_x b e = grind (arith, nat_tests)

no_point : (b : ℕ) → is_name_byte b ≡ false → (b == 46) ≡ false
no_point b e = grind (arith, nat_tests)

pub digits_run : (xs r : List ℕ) → Stops is_name_byte r → prefix_len is_digit (xs ++ r) ≡ prefix_len is_digit xs
digits_run xs r s = run_same is_digit xs r (weaker is_digit is_name_byte r no_digit s)

-- ---- exponents and fractions

digit_after : (c : Bool) (bs r : List ℕ) → (c && is_digit (slice_index bs 0)) ≡ true → (c && is_digit (slice_index (bs ++ r) 0)) ≡ true
digit_after c [] r e = absurd (let f : (c && false) ≡ true = e in grind arith)
digit_after c (b ∷ bs) r e = e

power_same_by : (b : ℕ) (bs r : List ℕ) (d s : Bool) → is_digit b ≡ d → (is_plus_or_minus b && is_digit (slice_index bs 0)) ≡ s → Stops is_name_byte r
    → power_len (b ∷ bs) ≡ suc (suc (length bs)) → power_len (b ∷ bs ++ r) ≡ power_len (b ∷ bs)
power_same_by b bs r true s d e stops whole = rw (d, digits_run bs r stops) refl
power_same_by b bs r false true d e stops whole = rw (d, e, digit_after (is_plus_or_minus b) bs r e, digits_run bs r stops) refl
power_same_by b bs r false false d e stops whole =
    let none : power_len (b ∷ bs) ≡ 0 = rw (d, e) refl in
    absurd (omega arith)

power_same : (bs r : List ℕ) → Stops is_name_byte r → power_len bs ≡ suc (length bs) → power_len (bs ++ r) ≡ power_len bs
power_same [] r stops whole = absurd (omega arith)
power_same (b ∷ bs) r stops whole = power_same_by b bs r (is_digit b) (is_plus_or_minus b && is_digit (slice_index bs 0)) refl refl stops whole

exponent_same_by : (b : ℕ) (bs r : List ℕ) (c : Bool) → is_e b ≡ c → Stops is_name_byte r → exponent_len (b ∷ bs) ≡ suc (length bs) → exponent_len (b ∷ bs ++ r) ≡ exponent_len (b ∷ bs)
exponent_same_by b bs r true is stops whole = let some : power_len bs ≡ suc (length bs) = rw is at whole in rw is (power_same bs r stops some)
exponent_same_by b bs r false is stops whole = let none : exponent_len (b ∷ bs) ≡ 0 = rw is refl in absurd (omega arith)

exponent_same : (bs r : List ℕ) → Stops is_name_byte r → exponent_len bs ≡ length bs → exponent_len (bs ++ r) ≡ exponent_len bs
exponent_same [] [] stops whole = refl
exponent_same [] (b ∷ r) stops whole = rw (no_e b stops) refl
exponent_same (b ∷ bs) r stops whole = exponent_same_by b bs r (is_e b) refl stops whole

fraction_same : (bs r : List ℕ) → Stops is_name_byte r → fraction_len bs ≡ length bs → fraction_len (bs ++ r) ≡ fraction_len bs
fraction_same bs r stops whole =
    let n = prefix_len is_digit bs in
    let le = prefix_len-le-length is_digit bs in
    let rest : exponent_len (drop n bs) ≡ length (drop n bs) = omega (arith, length-drop n bs) in
    rw (digits_run bs r stops, drop-append-le n bs r le, exponent_same (drop n bs) r stops rest) refl

-- ---- numbers

point_same : (k : Kind) (m n : ℕ) (bs r : List ℕ) → n ≡ m + length bs → Stops is_name_byte r → point_at m bs ≡ token k n → point_at m (bs ++ r) ≡ token k n
unfolding point_at
point_same k m n [] [] is stops e = e
point_same k m n [] (b ∷ r) is stops e = rw (no_point b stops) e
point_same k m n (b ∷ bs) r is stops e =
    by_test (token k n) (b == 46) _ _ e
    (λ c f.
    let len : m + 1 + fraction_len bs ≡ n = same_len _ _ _ _ f in
    let whole : fraction_len bs ≡ length bs = omega arith in
    rw (c, fraction_same bs r stops whole) f)
    (λ c f. let len : m ≡ n = same_len _ _ _ _ f in absurd (omega arith))

digits_same : (k : Kind) (m n : ℕ) (bs r : List ℕ) → n ≡ m + length bs → Stops is_name_byte r → digits_at m bs ≡ token k n → digits_at m (bs ++ r) ≡ token k n
unfolding digits_at
digits_same k m n bs r is stops e =
    let d = prefix_len is_digit bs in
    let le = prefix_len-le-length is_digit bs in
    let rest : n ≡ m + d + length (drop d bs) = omega (arith, length-drop d bs) in
    rw (digits_run bs r stops, drop-append-le d bs r le) (point_same k (m + d) n (drop d bs) r rest stops e)

hex_same : (k : Kind) (n : ℕ) (bs r : List ℕ) → Stops is_name_byte r → hex_at bs ≡ token k n → hex_at (bs ++ r) ≡ token k n
unfolding hex_at
hex_same k n bs r stops e = rw (run_same is_letter_or_digit bs r (weaker is_letter_or_digit is_name_byte r no_letter stops)) e

no_hex : (b : ℕ) (r : List ℕ) → Stops is_name_byte r → begins_hex (b ∷ r) ≡ false
no_hex b [] stops = grind arith
no_hex b (x ∷ r) stops = rw (no_x x stops) (grind arith)

pub number_same : (k : Kind) (b : ℕ) (bs r : List ℕ) → Stops is_name_byte r → number_at (b ∷ bs) ≡ token k (suc (length bs)) → number_at (b ∷ bs ++ r) ≡ token k (suc (length bs))
unfolding number_at hex_at
number_same k b [] r stops e =
    by_test (token k 1) (begins_hex (b ∷ [])) _ _ e
    (λ c f. no_token k 1 f)
    (λ c f. rw (no_hex b r stops) (digits_same k 0 1 (b ∷ []) r (omega arith) stops f))
number_same k b (x ∷ bs) r stops e =
    let n = suc (suc (length bs)) in
    by_test (token k n) (begins_hex (b ∷ x ∷ bs)) _ _ e
    (λ c f. rw c (hex_same k n bs r stops f))
    (λ c f. rw c (digits_same k 0 n (b ∷ x ∷ bs) r (omega arith) stops f))

pub minus_same : (k : Kind) (bs r : List ℕ) → Stops is_name_byte r → minus_at bs ≡ token k (suc (length bs)) → minus_at (bs ++ r) ≡ token k (suc (length bs))
unfolding minus_at
minus_same k [] r stops e = no_token k 1 e
minus_same k (b ∷ bs) r stops e =
    let n = suc (suc (length bs)) in
    by_test (token k n) (is_digit b) _ _ e
    (λ c f. rw c (digits_same k 1 n (b ∷ bs) r (omega arith) stops f))
    (λ c f. no_token k n f)

-- Numbers are one token.
use Rattle.std.proofs.Common.{◌≡◌, ℕ, zero, suc, ◌+◌, Bool, true, false, not, ◌==◌, List, [], ◌∷◌, ◌++◌, length, length-append, drop, slice_index, codes, refl, ap, ◌∙◌, arith}
use Rattle.std.specs.List.{prefix_len, list_all}
use Rattle.std.proofs.lemmas.List.{append-nil, drop_at}
use Rattle.std.proofs.lemmas.List.Folds.{list_all-append}
use Rattle.std.proofs.lemmas.Bool.{and_parts}
use Rattle.std.proofs.lemmas.Bool.Decides.{nat_tests}
use Rattle.ll_tokens.specs.Bytes.{is_digit, is_letter_or_digit, is_name_byte, is_plus_or_minus}
use Rattle.ll_tokens.specs.declared.kinds.Kind.TheVariants.{Int, Float}
use Rattle.ll_tokens.specs.Pieces.{token, power_len, fraction_len, point_at, digits_at, begins_hex, hex_at, number_at, minus_at, bare_at, piece_at}
use Rattle.ll_spacing.specs.Following.{Stops}
use Rattle.ll_spacing.specs.Spacing.{IsWhole}
use Rattle.ll_spacing.specs.Forms.{AreDigits, AreNameBytes, IsInt}
use Rattle.ll_spacing.specs.Forms.IsInt.{plain, minus}
use Rattle.ll_spacing.proofs.WholeLaws.{all_run, run_before, all_weaker, digit_in_name, name_piece, no_colon_at}

-- ---- no colon

abbrev no_colon : ℕ → Bool
no_colon b = not (b == 58)

no_colon_in : (bs : List ℕ) (i : ℕ) → list_all no_colon bs ≡ true → (slice_index bs i == 58) ≡ false
no_colon_in [] i e = grind (arith, nat_tests)
no_colon_in (b ∷ bs) zero e = let both = and_parts (no_colon b) (list_all no_colon bs) e in grind (arith, nat_tests)
no_colon_in (b ∷ bs) (suc i) e = no_colon_in bs i (and_parts (no_colon b) (list_all no_colon bs) e).1

digit_no_colon : (b : ℕ) → is_digit b ≡ true → no_colon b ≡ true
digit_no_colon b e = grind (arith, nat_tests)

digits_no_colon : (bs : List ℕ) → AreDigits bs → list_all no_colon bs ≡ true
digits_no_colon bs e = all_weaker is_digit no_colon bs digit_no_colon e

pub all_both : (p : ℕ → Bool) (xs ys : List ℕ) → list_all p xs ≡ true → list_all p ys ≡ true → list_all p (xs ++ ys) ≡ true
all_both p xs ys e f = list_all-append p xs ys ∙ rw (e, f) refl

-- ---- digits before what is none

digits_before : (n : ℕ) (bs r : List ℕ) → AreDigits bs → Stops is_digit r → digits_at n (bs ++ r) ≡ point_at (n + length bs) r
unfolding digits_at
digits_before n bs r e stops = rw (run_before is_digit bs r e stops, drop_at bs r (length bs) refl) refl

no_hex : (b : ℕ) (bs r : List ℕ) → AreDigits bs → Stops (λ c. c == 120) r → begins_hex (b ∷ bs ++ r) ≡ false
no_hex b [] [] e stops = grind (arith, nat_tests)
no_hex b [] (c ∷ r) e stops = rw stops (grind (arith, nat_tests))
no_hex b (c ∷ bs) r e stops =
    let both = and_parts (is_digit c) (list_all is_digit bs) e in
    let no : (c == 120) ≡ false = grind (arith, nat_tests) in
    rw no (grind (arith, nat_tests))

-- what stands behind an integer and makes no other of it, and no label
record Behind (r : List ℕ) : Type 0 where
  pub digit : Stops is_digit r
  pub x : Stops (λ c. c == 120) r
  pub colon : list_all no_colon r ≡ true

plain_before : (b : ℕ) (bs r : List ℕ) → AreDigits (b ∷ bs) → Behind r → piece_at (b ∷ bs ++ r) ≡ point_at (suc (length bs)) r
unfolding bare_at number_at
plain_before b bs r e behind =
    let both = and_parts (is_digit b) (list_all is_digit bs) e in
    let label = no_colon_in (b ∷ bs ++ r) (prefix_len is_name_byte (b ∷ bs ++ r)) (all_both no_colon (b ∷ bs) r (digits_no_colon (b ∷ bs) e) behind.colon) in
    let len : 0 + suc (length bs) ≡ suc (length bs) = omega arith in
    name_piece b (bs ++ r) (digit_in_name b both.0) ∙ rw (label, both.0, no_hex b bs r both.1 behind.x) (rw len at (digits_before 0 (b ∷ bs) r e behind.digit))

minus_before : (b : ℕ) (bs r : List ℕ) → AreDigits (b ∷ bs) → Behind r → piece_at (45 ∷ b ∷ bs ++ r) ≡ point_at (suc (suc (length bs))) r
unfolding bare_at minus_at
minus_before b bs r e behind =
    let both = and_parts (is_digit b) (list_all is_digit bs) e in
    let label = no_colon_in (45 ∷ b ∷ bs ++ r) (prefix_len is_name_byte (45 ∷ b ∷ bs ++ r)) (all_both no_colon (b ∷ bs) r (digits_no_colon (b ∷ bs) e) behind.colon) in
    let len : 1 + suc (length bs) ≡ suc (suc (length bs)) = omega arith in
    name_piece 45 (b ∷ bs ++ r) refl ∙ rw (label, both.0) (rw len at (digits_before 1 (b ∷ bs) r e behind.digit))

int_before : (bs r : List ℕ) → IsInt bs → Behind r → piece_at (bs ++ r) ≡ point_at (length bs) r
int_before bs r (plain b ds e) behind = plain_before b ds r e behind
int_before bs r (minus b ds e) behind = minus_before b ds r e behind

pub int_whole : (bs : List ℕ) → IsInt bs → IsWhole Int bs
unfolding point_at
int_whole bs is = let same : bs ++ [] ≡ bs = append-nil bs in rw same at (int_before bs [] is (record { digit = tt; x = tt; colon = refl }))

-- ---- floats

-- a point and what is behind it
point_float : (bs fs : List ℕ) → IsInt bs → list_all no_colon fs ≡ true → fraction_len fs ≡ length fs → IsWhole Float (bs ++ (codes "." ++ fs))
unfolding point_at
point_float bs fs is colon all =
    let len : length bs + 1 + fraction_len fs ≡ length (bs ++ (codes "." ++ fs)) = omega (arith, length-append bs (codes "." ++ fs)) in
    int_before bs (codes "." ++ fs) is (record { digit = refl; x = refl; colon = colon }) ∙ ap (λ (n : ℕ). token Float n) len

pub point_whole : (bs fs : List ℕ) → IsInt bs → AreDigits fs → IsWhole Float (bs ++ (codes "." ++ fs))
point_whole bs fs is e =
    let run = all_run is_digit fs e in
    let rest : drop (length fs) (fs ++ []) ≡ [] = drop_at fs [] (length fs) refl in
    let same : fs ++ [] ≡ fs = append-nil fs in
    let none : drop (length fs) fs ≡ [] = rw same at rest in
    let all : fraction_len fs ≡ length fs = rw (run, none) (omega arith) in
    point_float bs fs is (digits_no_colon fs e) all

sign_no_colon : (b : ℕ) → is_plus_or_minus b ≡ true → no_colon b ≡ true
sign_no_colon b e = grind (arith, nat_tests)

power_is : (s e : ℕ) (es : List ℕ) → is_plus_or_minus s ≡ true → AreDigits (e ∷ es) → power_len (s ∷ e ∷ es) ≡ 3 + length es
power_is s e es sign digits =
    let both = and_parts (is_digit e) (list_all is_digit es) digits in
    let none : is_digit s ≡ false = grind (arith, nat_tests) in
    rw (none, sign, both.0, all_run is_digit es both.1) (omega arith)

pub power_whole : (bs fs es : List ℕ) (s e : ℕ) → IsInt bs → AreDigits fs → is_plus_or_minus s ≡ true → AreDigits (e ∷ es) → IsWhole Float (bs ++ (codes "." ++ (fs ++ (codes "e" ++ s ∷ e ∷ es))))
power_whole bs fs es s e is digits sign more =
    let power = codes "e" ++ s ∷ e ∷ es in
    let all : fraction_len (fs ++ power) ≡ length (fs ++ power) =
    rw (run_before is_digit fs power digits refl, drop_at fs power (length fs) refl, power_is s e es sign more) (omega (arith, length-append fs power)) in
    let colon : list_all no_colon power ≡ true = rw (sign_no_colon s sign) (digits_no_colon (e ∷ es) more) in
    point_float bs (fs ++ power) is (all_both no_colon fs power (digits_no_colon fs digits) colon) all

letter_in_name : (b : ℕ) → is_letter_or_digit b ≡ true → is_name_byte b ≡ true
letter_in_name b e = grind (arith, nat_tests)

pub hex_whole : (b : ℕ) (bs : List ℕ) → list_all is_letter_or_digit (b ∷ bs) ≡ true → IsWhole Float (codes "0x" ++ b ∷ bs)
unfolding bare_at number_at hex_at
hex_whole b bs e =
    let names : AreNameBytes (48 ∷ 120 ∷ b ∷ bs) = all_weaker is_letter_or_digit is_name_byte (b ∷ bs) letter_in_name e in
    let some : (suc (length bs) == 0) ≡ false = grind (arith, nat_tests) in
    let len : 2 + suc (length bs) ≡ suc (suc (suc (length bs))) = omega arith in
    name_piece 48 (120 ∷ b ∷ bs) refl ∙ rw (no_colon_at (48 ∷ 120 ∷ b ∷ bs) names, all_run is_letter_or_digit (b ∷ bs) e, some, len) refl

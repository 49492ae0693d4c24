-- A piece has one byte at least, and lies within the text.
use Rattle.std.proofs.Common.{◌≡◌, ◌<◌, ◌≤◌, ℕ, zero, suc, ◌+◌, Bool, true, false, ◌||◌, ◌&&◌, List, [], ◌∷◌, length, length-drop, drop, ◌==◌, if◌then◌else◌, slice_index, refl, subst, arith}
use Rattle.std.specs.List.{prefix_len}
use Rattle.std.proofs.lemmas.List.Sums.{prefix_len-le-length}
use Rattle.ll_tokens.specs.Bytes.{is_blank, is_digit, is_e, is_plus_or_minus, is_letter_or_digit, is_name_byte, is_word_start, is_word_byte, in_line, in_string}
use Rattle.ll_tokens.specs.declared.kinds.Kind.{Kind}
use Rattle.ll_tokens.specs.Pieces.{Found, token, is_escape, begins_record, closes, string_at, name_at, escaped_len, bang_at, hash_at, power_len, exponent_len, fraction_len, point_at, digits_at, hex_at, begins_hex, number_at, minus_at, dots_at, word_at, bare_at, sign_at, piece_at}
use Rattle.ll_tokens.proofs.FitLaws.{FitsIn, either, either_le, and_right, inside}

closed : (bs : List ℕ) → closes bs ≡ true → prefix_len in_string bs < length bs
closed bs e = inside bs (prefix_len in_string bs) 34 (omega arith) e

string_fits : (bs : List ℕ) → FitsIn (suc (length bs)) (string_at bs)
unfolding string_at
string_fits bs =
    let n = prefix_len in_string bs in
    either _ (closes bs) _ _ (λ e.
    let l = closed bs e in
    either _ (slice_index bs (1 + n) == 58) _ _ (λ f. let m = inside bs (1 + n) 58 (omega arith) f in (omega arith, omega arith)) (λ _. (omega arith, omega arith)))
    (λ _. tt)

name_fits : (k : Kind) (bs : List ℕ) → FitsIn (suc (length bs)) (name_at k bs)
unfolding name_at
name_fits k [] = tt
name_fits k (b ∷ bs) =
    let d = prefix_len-le-length is_digit bs in
    let n = prefix_len-le-length is_name_byte bs in
    either _ (is_digit b) _ _ (λ _. (omega arith, omega arith)) (λ _. either _ (is_name_byte b) _ _ (λ _. (omega arith, omega arith))
    (λ _. either _ (b == 34 && closes bs) _ _ (λ e. let l = closed bs (and_right (b == 34) (closes bs) e) in (omega arith, omega arith)) (λ _. tt)))

escaped_within : (skip : ℕ) (bs : List ℕ) → escaped_len skip bs ≤ length bs
escaped_within zero [] = omega arith
escaped_within (suc k) [] = omega arith
escaped_within zero (b ∷ bs) =
    let one = escaped_within 0 bs in
    let two = escaped_within 2 bs in
    either_le _ (is_name_byte b) _ _ (λ _. omega arith) (λ _. either_le _ (b == 92 && is_escape bs) _ _ (λ _. omega arith) (λ _. omega arith))
escaped_within (suc k) (b ∷ bs) = let l = escaped_within k bs in omega arith

bang_fits : (bs : List ℕ) → FitsIn (suc (length bs)) (bang_at bs)
unfolding bang_at
bang_fits [] = (omega arith, omega arith)
bang_fits (b ∷ bs) =
    let d = prefix_len-le-length is_digit bs in
    let n = escaped_within 0 (b ∷ bs) in
    either _ (is_digit b) _ _ (λ _. (omega arith, omega arith)) (λ _.
    either _ (b == 34 && closes bs) _ _ (λ e. let l = closed bs (and_right (b == 34) (closes bs) e) in (omega arith, omega arith)) (λ _.
    either _ (escaped_len 0 (b ∷ bs) == 0) _ _ (λ _. (omega arith, omega arith)) (λ _. (omega arith, omega arith))))

hash_fits : (bs : List ℕ) → FitsIn (suc (length bs)) (hash_at bs)
unfolding hash_at
hash_fits bs =
    let d = prefix_len-le-length is_digit bs in
    let w = prefix_len-le-length is_word_start bs in
    either _ (is_digit (slice_index bs 0)) _ _ (λ _. (omega arith, omega arith)) (λ _. either _ (begins_record bs) _ _ (λ _. (omega arith, omega arith)) (λ _. tt))

power_within : (bs : List ℕ) → power_len bs ≤ 1 + length bs
power_within [] = omega arith
power_within (b ∷ bs) = let d = prefix_len-le-length is_digit bs in either_le _ (is_digit b || (is_plus_or_minus b && is_digit (slice_index bs 0))) _ _ (λ _. omega arith) (λ _. omega arith)

exponent_within : (bs : List ℕ) → exponent_len bs ≤ length bs
exponent_within [] = omega arith
exponent_within (b ∷ bs) = let p = power_within bs in either_le _ (is_e b) _ _ (λ _. omega arith) (λ _. omega arith)

fraction_within : (bs : List ℕ) → fraction_len bs ≤ length bs
fraction_within bs =
    let n = prefix_len is_digit bs in
    let d = prefix_len-le-length is_digit bs in
    let l = length-drop n bs in
    let e = exponent_within (drop n bs) in
    omega arith

point_fits : (n : ℕ) (bs : List ℕ) → 1 ≤ n → FitsIn (n + length bs) (point_at n bs)
unfolding point_at
point_fits n [] some = (some, omega arith)
point_fits n (b ∷ bs) some = let f = fraction_within bs in either _ (b == 46) _ _ (λ _. (omega arith, omega arith)) (λ _. (some, omega arith))

digits_fits : (n most : ℕ) (bs : List ℕ) → 1 ≤ n + prefix_len is_digit bs → n + length bs ≡ most → FitsIn most (digits_at n bs)
unfolding digits_at
digits_fits n most bs some is =
    let k = prefix_len is_digit bs in
    let d = prefix_len-le-length is_digit bs in
    let l = length-drop k bs in
    let e : n + k + length (drop k bs) ≡ most = omega arith in
    subst (λ (m : ℕ). FitsIn m (point_at (n + k) (drop k bs))) e (point_fits (n + k) (drop k bs) some)

hex_fits : (bs : List ℕ) → FitsIn (2 + length bs) (hex_at bs)
unfolding hex_at
hex_fits bs = let l = prefix_len-le-length is_letter_or_digit bs in either _ (prefix_len is_letter_or_digit bs == 0) _ _ (λ _. tt) (λ _. (omega arith, omega arith))

number_fits : (b : ℕ) (bs : List ℕ) → is_digit b ≡ true → FitsIn (suc (length bs)) (number_at (b ∷ bs))
unfolding number_at
number_fits b bs digit =
    let some : prefix_len is_digit (b ∷ bs) ≡ 1 + prefix_len is_digit bs = rw digit refl in
    either _ (begins_hex (b ∷ bs)) _ _
    (λ e.
    let m = inside (b ∷ bs) 1 120 (omega arith) (and_right (b == 48) _ e) in
    let l = length-drop 2 (b ∷ bs) in
    let s : 2 + length (drop 2 (b ∷ bs)) ≡ suc (length bs) = omega arith in
    subst (λ (m : ℕ). FitsIn m (hex_at (drop 2 (b ∷ bs)))) s (hex_fits (drop 2 (b ∷ bs))))
    (λ _. digits_fits 0 (suc (length bs)) (b ∷ bs) (omega arith) (omega arith))

minus_fits : (bs : List ℕ) → FitsIn (suc (length bs)) (minus_at bs)
unfolding minus_at
minus_fits bs = either _ (is_digit (slice_index bs 0)) _ _ (λ _. digits_fits 1 (suc (length bs)) bs (omega arith) (omega arith)) (λ _. tt)

dots_fits : (bs : List ℕ) → FitsIn (suc (length bs)) (dots_at bs)
unfolding dots_at
dots_fits bs = either _ (slice_index bs 0 == 46 && slice_index bs 1 == 46) _ _ (λ e. let l = inside bs 1 46 (omega arith) (and_right (slice_index bs 0 == 46) _ e) in (omega arith, omega arith)) (λ _. tt)

word_fits : (b : ℕ) (bs : List ℕ) → FitsIn (suc (length bs)) (word_at b bs)
unfolding word_at
word_fits b bs =
    let w = prefix_len-le-length is_word_byte bs in
    either _ (b == 99 && slice_index bs 0 == 34 && closes (drop 1 bs)) _ _ (λ e.
    let l = closed (drop 1 bs) (and_right (b == 99 && slice_index bs 0 == 34) (closes (drop 1 bs)) e) in
    let d = length-drop 1 bs in
    (omega arith, omega arith)) (λ _. (omega arith, omega arith))

bare_fits : (b : ℕ) (bs : List ℕ) → FitsIn (suc (length bs)) (bare_at b bs)
unfolding bare_at
bare_fits b bs =
    let n = prefix_len-le-length is_name_byte bs in
    either _ (slice_index (b ∷ bs) (prefix_len is_name_byte (b ∷ bs)) == 58) _ _ (λ e. let l = inside (b ∷ bs) (prefix_len is_name_byte (b ∷ bs)) 58 (omega arith) e in (omega arith, omega arith)) (λ _.
    either _ (is_digit b) _ _ (λ e. number_fits b bs e) (λ _.
    either _ (b == 45) _ _ (λ _. minus_fits bs) (λ _.
    either _ (b == 36) _ _ (λ _. (omega arith, omega arith)) (λ _.
    either _ (b == 46) _ _ (λ _. dots_fits bs) (λ _. word_fits b bs)))))

sign : (n : ℕ) (b : Bool) (k : Kind) (other : Found) → FitsIn (suc n) other → FitsIn (suc n) (if b then token k 1 else other)
sign n true k other fits = (omega arith, omega arith)
sign n false k other fits = fits

sign_fits : (n b : ℕ) → FitsIn (suc n) (sign_at b)
unfolding sign_at
sign_fits n b = sign n (b == 61) _ _ (sign n (b == 44) _ _ (sign n (b == 40) _ _ (sign n (b == 41) _ _ (sign n (b == 91) _ _ (sign n (b == 93) _ _ (sign n (b == 123) _ _ (sign n (b == 125) _ _ (sign n (b == 60) _ _ (sign n (b == 62) _ _ (sign n (b == 124) _ _ tt))))))))))

pub piece_fits : (bytes : List ℕ) → FitsIn (length bytes) (piece_at bytes)
unfolding piece_at
piece_fits [] = tt
piece_fits (b ∷ bs) =
    let l = prefix_len-le-length in_line bs in
    either _ (is_blank b) _ _ (λ _. (omega arith, omega arith)) (λ _.
    either _ (b == 59) _ _ (λ _. (omega arith, omega arith)) (λ _.
    either _ (b == 64) _ _ (λ _. name_fits _ bs) (λ _.
    either _ (b == 37) _ _ (λ _. name_fits _ bs) (λ _.
    either _ (b == 34) _ _ (λ _. string_fits bs) (λ _.
    either _ (b == 33) _ _ (λ _. bang_fits bs) (λ _.
    either _ (b == 35) _ _ (λ _. hash_fits bs) (λ _.
    either _ (is_name_byte b) _ _ (λ _. bare_fits b bs) (λ _. sign_fits (length bs) b))))))))

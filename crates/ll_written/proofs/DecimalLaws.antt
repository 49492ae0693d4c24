-- Printed numbers are numbers of the text, and printed integers literals of their value.
use Rattle.std.proofs.Common.{◌≡◌, ℕ, zero, suc, Bool, true, false, cond, nat_eq, nat_lt, nat_le, ◌==◌, ◌^◌, ◌+◌, ◌-◌, ◌*◌, ◌≤◌, ◌<◌, [], ◌∷◌, Some, None, codes, pow-suc, refl, sym, ap, subst, ◌∙◌, arith}
use Rattle.std.specs.Prelude.{decimal}
use Rattle.std.specs.Str.{bytes_eq}
use Rattle.std.proofs.lemmas.Bool.{ltb-false, lt-ltb, leb-true, le-leb, eqb-true}
use Rattle.std.proofs.lemmas.Bool.Decides.{nat_tests}
use Rattle.std.proofs.lemmas.Nat.{pow_pos}
use Rattle.std.proofs.lemmas.Slice.Eq.{bytes_eq-Decides}
use Rattle.std.proofs.Math.Nat.{pow-le-pow_right}
use Rattle.llvm_core.specs.Names.{is_digit}
use Rattle.llvm_core.specs.Parts.{IsIntAt}
use Rattle.ll_literals.specs.Text.{Text}
use Rattle.ll_literals.specs.Numbers.{number_of, width_of}
use Rattle.ll_literals.specs.Literals.{if_number, at_width, const_value}
use Rattle.ll_values.specs.Words.{fill_of}
use Rattle.ll_written.specs.Printing.{signed_text, int_text}
use Rattle.ll_said.proofs.DecimalLaws.{IsDecimal, IsDecimal-wide}

-- ---- what is printed is a literal of the value

-- i and a number is a type
pub width_of-decimal : (t : Text) (w : ℕ) → IsDecimal t w → width_of (105 ∷ t) ≡ Some w
width_of-decimal t w d = d.number

no_word : (b c : ℕ) (bs cs : Text) → is_digit b ≡ true → is_digit c ≡ false → bytes_eq (b ∷ bs) (c ∷ cs) ≡ false
no_word b c bs cs h g = by (nat_eq b c) refl
  where
    by : (x : Bool) → nat_eq b c ≡ x → bytes_eq (b ∷ bs) (c ∷ cs) ≡ false
    by true e = let same : b ≡ c = grind (arith, nat_tests) in absurd (let k : is_digit c ≡ true = rw (← same) h in cc)
    by false e = rw e refl

-- digits are no word
digits_literal : (w n : ℕ) (b : ℕ) (bs : Text) → is_digit b ≡ true → const_value w (b ∷ bs) ≡ if_number (at_width w) (number_of (b ∷ bs))
digits_literal w n b bs h =
    let no_minus : (b == 45) ≡ false = grind (arith, nat_tests) in
    rw (no_word b 116 bs (114 ∷ 117 ∷ 101 ∷ []) h refl, no_word b 102 bs (97 ∷ 108 ∷ 115 ∷ 101 ∷ []) h refl, no_minus) refl

literal_at : (w n : ℕ) → IsIntAt w n → at_width w n ≡ Some n
literal_at w n h =
    let one : nat_lt n (2 ^ w) ≡ true = lt-ltb n (2 ^ w) h.0 in
    let two : nat_lt n (2 ^ 128) ≡ true = lt-ltb n (2 ^ 128) h.1 in
    rw (one, two) refl

pub const_value-decimal : (t : Text) (w n : ℕ) → IsDecimal t n → IsIntAt w n → const_value w t ≡ Some n
const_value-decimal t w n d h =
    let number : number_of (d.first ∷ d.others) ≡ Some n = rw d.text at d.number in
    rw d.text (digits_literal w n d.first d.others d.digit ∙ rw number (literal_at w n h))

-- a minus before digits
pub const_value-negative : (t : Text) (w v n : ℕ) → IsDecimal t n → w ≤ 128 → 0 < n → v + n ≡ 2 ^ w → 2 * n ≤ 2 ^ w → const_value w (45 ∷ t) ≡ Some v
const_value-negative t w v n d most some sum small =
    let nonzero : (n == 0) ≡ false = grind (arith, nat_tests) in
    let read : nat_le w 128 ≡ true = le-leb w 128 most in
    let half : nat_le (2 * n) (2 ^ w) ≡ true = grind (arith, nat_tests) in
    let back : 2 ^ w - n ≡ v = omega (arith, sum) in
    rw (d.number, nonzero, read, half, back) refl

twice : (w : ℕ) → 1 ≤ w → 2 ^ w ≡ 2 * 2 ^ (w - 1)
twice zero h = absurd (omega arith)
twice (suc w) h = let e : suc w - 1 ≡ w = omega arith in rw e (omega (arith, pow-suc 2 w))

signed_by : (w v : ℕ) (b : Bool) → 1 ≤ w → w ≤ 128 → IsIntAt w v → nat_lt v (2 ^ (w - 1)) ≡ b → const_value w (cond b (decimal v) (45 ∷ decimal (2 ^ w - v))) ≡ Some v
signed_by w v true some most fits e = const_value-decimal (decimal v) w v (IsDecimal-wide v fits.1) fits
signed_by w v false some most fits e =
    let wide : 2 ^ w ≤ 2 ^ 128 = pow-le-pow_right {n = 2} (omega arith) {i = w} {j = 128} most in
    let high : 2 ^ (w - 1) ≤ v = ltb-false v (2 ^ (w - 1)) e in
    let below = fits.0 in
    let two = twice w some in
    let n = 2 ^ w - v in
    let pos = pow_pos (w - 1) in
    const_value-negative (decimal n) w v n (IsDecimal-wide n (omega (arith, wide, below, high, pos))) most (omega (arith, below)) (omega (arith, below)) (omega (arith, two, high, below))

-- a printed integer is a literal of its value
pub const_value-signed : (w v : ℕ) → 1 ≤ w → w ≤ 128 → IsIntAt w v → const_value w (signed_text w v) ≡ Some v
const_value-signed w v some most fits = signed_by w v (nat_lt v (2 ^ (w - 1))) some most fits refl

one_bit : (v : ℕ) → v < 2 → const_value 1 (int_text 1 v) ≡ Some v
one_bit zero h = refl
one_bit (suc zero) h = refl
one_bit (suc (suc v)) h = absurd (omega arith)

-- up to 128 bits with its sign, past that without
many_by : (w v : ℕ) (b : Bool) → 1 ≤ w → IsIntAt w v → (w == 1) ≡ false → nat_le w 128 ≡ b → const_value w (int_text w v) ≡ Some v
many_by w v true some fits e g =
    let same : int_text w v ≡ signed_text w v = rw (e, g) refl in
    subst (λ (t : Text). const_value w t ≡ Some v) (sym same) (const_value-signed w v some (leb-true w 128 g) fits)
many_by w v false some fits e g =
    let same : int_text w v ≡ decimal v = rw (e, g) refl in
    subst (λ (t : Text). const_value w t ≡ Some v) (sym same) (const_value-decimal (decimal v) w v (IsDecimal-wide v fits.1) fits)

int_by : (w v : ℕ) (b : Bool) → 1 ≤ w → IsIntAt w v → (w == 1) ≡ b → const_value w (int_text w v) ≡ Some v
int_by w v true some fits e =
    let one : w ≡ 1 = eqb-true w 1 e in
    let below = fits.0 in
    let small : v < 2 = rw one at below in
    rw one (one_bit v small)
int_by w v false some fits e = many_by w v (nat_le w 128) some fits e refl

pub const_value-int : (w v : ℕ) → 1 ≤ w → IsIntAt w v → const_value w (int_text w v) ≡ Some v
const_value-int w v some fits = int_by w v (w == 1) some fits refl

-- ---- and no word of a constant of any type

word_differs : (w v : ℕ) (t word : Text) → const_value w t ≡ Some v → const_value w word ≡ None → bytes_eq t word ≡ false
word_differs w v t word is none = by (bytes_eq t word) refl
  where
    by : (b : Bool) → bytes_eq t word ≡ b → b ≡ false
    by true e = absurd (let both : Some v ≡ None = sym is ∙ ap (const_value w) ((bytes_eq-Decides t word).0 e) ∙ none in cc (both))
    by false e = refl

pub no_fill : (w v : ℕ) (t : Text) → const_value w t ≡ Some v → fill_of t ≡ None
no_fill w v t is = rw (word_differs w v t (codes "zeroinitializer") is refl, word_differs w v t (codes "undef") is refl, word_differs w v t (codes "poison") is refl) refl

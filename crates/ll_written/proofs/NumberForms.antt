-- Printed numbers have the form of their tokens: by themselves, behind a minus, and behind i.
use Rattle.std.proofs.Common.{◌≡◌, ◌<◌, ◌^◌, ℕ, true, ◌∷◌, refl, arith}
use Rattle.std.specs.Prelude.{decimal}
use Rattle.std.specs.List.{list_all}
use Rattle.std.proofs.lemmas.Bool.Decides.{nat_tests}
use Rattle.ll_lines.specs.Lines.{Text}
use Rattle.ll_spacing.specs.Forms.{IsText, IsInt}
use Rattle.ll_spacing.proofs.WholeLaws.{all_weaker}
use Rattle.ll_tokens.specs.Bytes.{is_digit, is_word_byte}
use Rattle.ll_tokens.specs.declared.kinds.Kind.TheVariants as T
use Rattle.ll_said.proofs.DecimalLaws.{IsDecimal-decimal, IsDecimal-wide}

pub wide_text : (n : ℕ) → n < 2 ^ 128 → IsText T.Int (decimal n)
wide_text n h =
    let d = IsDecimal-wide n h in
    let digits : list_all is_digit (d.first ∷ d.others) ≡ true = rw (d.digit, d.digits) refl in
    rw d.text (IsText.int (d.first ∷ d.others) (IsInt.plain d.first d.others digits))

pub decimal_text : (n : ℕ) → n < 2 ^ 64 → IsText T.Int (decimal n)
decimal_text n h = wide_text n (omega (arith, h))

pub minus_text : (n : ℕ) → n < 2 ^ 128 → IsText T.Int (45 ∷ decimal n)
minus_text n h =
    let d = IsDecimal-wide n h in
    let digits : list_all is_digit (d.first ∷ d.others) ≡ true = rw (d.digit, d.digits) refl in
    rw d.text (IsText.int (45 ∷ d.first ∷ d.others) (IsInt.minus d.first d.others digits))

digits_word : (bs : Text) → list_all is_digit bs ≡ true → list_all is_word_byte bs ≡ true
digits_word bs e = all_weaker is_digit is_word_byte bs (λ b d. grind (arith, nat_tests)) e

pub int_type_text : (n : ℕ) → n < 2 ^ 64 → IsText T.Word (105 ∷ decimal n)
int_type_text n h =
    let d = IsDecimal-decimal n h in
    let digits : list_all is_digit (d.first ∷ d.others) ≡ true = rw (d.digit, d.digits) refl in
    rw d.text (IsText.word (105 ∷ d.first ∷ d.others) (digits_word (d.first ∷ d.others) digits))

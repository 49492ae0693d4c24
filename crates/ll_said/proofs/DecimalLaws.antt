-- Decimal digits are read back as their number.
use Rattle.std.proofs.Common.{◌≡◌, ◌∙◌, ℕ, true, ◌^◌, ◌<◌, [], ◌∷◌, Some, length, refl, arith}
use Rattle.std.specs.Prelude.{decimal}
use Rattle.std.specs.List.{list_all}
use Rattle.std.specs.Int.{IsInRange}
use Rattle.std.proofs.lemmas.Bool.Decides.{nat_tests}
use Rattle.std.proofs.lemmas.Str.Parse.{IsDigitsTest, FoldsDigits, IsNumeralModel, numerals_by_fold}
use Rattle.std.proofs.lemmas.Fmt.{decimal_is_IsNumeral_wide}
use Rattle.std.proofs.lemmas.Bool.{and_parts}
use Rattle.llvm_core.specs.Names.{is_digit}
use Rattle.ll_literals.specs.Text.{Text}
use Rattle.ll_literals.specs.Numbers.{number_of, value_after}

-- a text of decimal digits that says the number
pub record IsDecimal (t : Text) (n : ℕ) : Type 0 where
  pub first : ℕ
  pub others : Text
  pub text : t ≡ first ∷ others
  pub digit : is_digit first ≡ true
  pub digits : list_all is_digit others ≡ true
  pub number : number_of t ≡ Some n

abbrev AllDigit : Text → Type 0
AllDigit t = list_all is_digit t ≡ true

digit_range : (b : ℕ) → is_digit b ≡ true → IsInRange 48 57 b
digit_range b h = grind (arith, nat_tests)

range_digit : (b : ℕ) → IsInRange 48 57 b → is_digit b ≡ true
range_digit b h = grind (arith, nat_tests)

digits_test : IsDigitsTest AllDigit
digits_test = record {
  empty = refl;
  parts = λ c cs h. let k = and_parts (is_digit c) (list_all is_digit cs) h in (digit_range c k.0, k.1);
  more = λ c cs r h. rw (range_digit c r, h) refl;
}

folds : FoldsDigits value_after
folds = record { empty = λ n. refl; more = λ n c cs r. refl }

model : IsNumeralModel AllDigit (value_after 0)
model = numerals_by_fold AllDigit digits_test value_after folds

decimal_by : (n : ℕ) (t : Text) → 0 < length t → AllDigit t → value_after 0 t ≡ n → IsDecimal t n
decimal_by n [] some h v = absurd (omega arith)
decimal_by n (b ∷ bs) some h v =
    let k = and_parts (is_digit b) (list_all is_digit bs) h in
    record { first = b; others = bs; text = refl; digit = k.0; digits = k.1; number = rw (h, v) refl }

-- a printed number
pub IsDecimal-wide : (n : ℕ) → n < 2 ^ 128 → IsDecimal (decimal n) n
IsDecimal-wide n h =
    let numeral = decimal_is_IsNumeral_wide n (omega (arith, h)) in
    let digits = numeral.0.1 in
    decimal_by n (decimal n) numeral.0.0 (model.from (decimal n) digits) (model.same (decimal n) digits ∙ numeral.1)

pub IsDecimal-decimal : (n : ℕ) → n < 2 ^ 64 → IsDecimal (decimal n) n
IsDecimal-decimal n h = IsDecimal-wide n (omega (arith, h))

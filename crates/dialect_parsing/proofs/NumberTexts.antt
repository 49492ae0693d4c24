-- Printed numbers are read back.
use Rattle.std.proofs.Common.{◌≡◌, ℕ, ◌^◌, ◌<◌, true, [], ◌∷◌, Some, length, refl, arith}
use Rattle.std.specs.Prelude.{decimal}
use Rattle.std.specs.List.{list_all}
use Rattle.std.specs.Int.{IsInRange}
use Rattle.std.proofs.lemmas.Bool.Decides.{nat_tests}
use Rattle.std.proofs.lemmas.Str.Parse.{IsDigitsTest, FoldsDigits, IsNumeralModel, numerals_by_fold}
use Rattle.std.proofs.lemmas.Fmt.{decimal_nonempty, digits_decimal, digits_value-decimal}
use Rattle.std.proofs.lemmas.Bool.{and_parts}
use Rattle.kinds.specs.Names.{is_digit}
use Rattle.dialect_parsing.specs.Numbers.{number_of, value_after, if_small}
use Rattle.dialect_parsing.specs.Tokens.{Text, is_run_byte}
use Rattle.dialect_parsing.proofs.TokenLaws.{IsRun}

abbrev AllDigit : Text → Type 0
AllDigit t = list_all is_digit t ≡ true

digit_range : (b : ℕ) → is_digit b ≡ true → IsInRange 48 57 b
digit_range b h = grind (arith, nat_tests)

range_digit : (b : ℕ) → IsInRange 48 57 b → is_digit b ≡ true
range_digit b h = grind (arith, nat_tests)

digits_test : IsDigitsTest AllDigit
digits_test = record {
  empty = refl;
  parts = λ c cs h. let k = and_parts (is_digit c) (list_all is_digit cs) h in (digit_range c k.0, k.1);
  more = λ c cs r h. rw (range_digit c r, h) refl;
}

folds : FoldsDigits value_after
folds = record { empty = λ n. refl; more = λ n c cs r. refl }

model : IsNumeralModel AllDigit (value_after 0)
model = numerals_by_fold AllDigit digits_test value_after folds

-- a text of digits that says a number
pub record IsNumeral (n : ℕ) : Type 0 where
  pub first : ℕ
  pub others : Text
  pub text : decimal n ≡ first ∷ others
  pub digit : is_digit first ≡ true
  pub digits : AllDigit others
  pub number : number_of (first ∷ others) ≡ Some n

small_is : (n : ℕ) → n < 2 ^ 64 → if_small n ≡ Some n
small_is n h = grind (arith, nat_tests)

numeral_by : (n : ℕ) (t : Text) → n < 2 ^ 64 → decimal n ≡ t → 0 < length t → AllDigit t → value_after 0 t ≡ n → IsNumeral n
numeral_by n [] fits is some h v = absurd (omega arith)
numeral_by n (b ∷ bs) fits is some h v =
    let k = and_parts (is_digit b) (list_all is_digit bs) h in
    record { first = b; others = bs; text = is; digit = k.0; digits = k.1; number = rw (h, v) (small_is n fits) }

pub numeral : (n : ℕ) → n < 2 ^ 64 → IsNumeral n
numeral n h = numeral_by n (decimal n) h refl (decimal_nonempty n h) (digits_decimal model n h) (digits_value-decimal model n h)

-- digits are bytes of runs
pub digit_run : (b : ℕ) → is_digit b ≡ true → is_run_byte b ≡ true
digit_run b h = grind (arith, nat_tests)

pub digits_run : (t : Text) → AllDigit t → IsRun t
digits_run [] h = refl
digits_run (b ∷ bs) h =
    let k = and_parts (is_digit b) (list_all is_digit bs) h in
    rw (digit_run b k.0, digits_run bs k.1) refl

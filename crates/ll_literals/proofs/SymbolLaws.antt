-- The name that is printed behind the sign of a symbol or a struct is the one that its token says.
use Rattle.std.proofs.Common.{arith, ◌≡◌, ℕ, Bool, true, false, not, ◌&&◌, ◌==◌, [], ◌∷◌, ◌++◌, length, Some, refl, sym, ne_eqb}
use Rattle.std.specs.Prelude.{if◌then◌else◌}
use Rattle.std.specs.List.{list_all}
use Rattle.std.proofs.lemmas.Bool.{and_parts, and_from}
use Rattle.llvm_core.specs.Names.{is_digit}
use Rattle.ll_literals.specs.Text.{Text}
use Rattle.ll_literals.specs.Escapes.{escaped}
use Rattle.ll_literals.specs.Numbers.{is_digits}
use Rattle.ll_literals.specs.Names.{is_name_byte, is_bare, is_name, if_text, name_said, symbol_name, printed_name}
use Rattle.ll_literals.proofs.QuoteLaws.{name_says}

-- ---- digits

not_empty : (b : ℕ) (bs : Text) → (length (b ∷ bs) == 0) ≡ false
not_empty b bs = ne_eqb (length (b ∷ bs)) 0 (λ e. omega (arith, e))

pub digits_are : (b : ℕ) (bs : Text) → is_digit b ≡ true → list_all is_digit bs ≡ true → is_digits (b ∷ bs) ≡ true
digits_are b bs d h = rw (not_empty b bs, d, h) refl

digits_not : (b : ℕ) (bs : Text) → is_digit b ≡ false → is_digits (b ∷ bs) ≡ false
digits_not b bs d = rw (not_empty b bs, d) refl

-- ---- bare names

not_true : (d : Bool) → not d ≡ true → d ≡ false
not_true true e = sym e
not_true false e = refl

-- a bare name is made of name bytes, of which the first is no digit
pub bare_parts : (b : ℕ) (bs : Text) → is_bare (b ∷ bs) ≡ true → (is_digit b ≡ false) × (list_all is_name_byte (b ∷ bs) ≡ true)
bare_parts b bs h =
    let both = and_parts (is_name_byte b && not (is_digit b)) (list_all is_name_byte bs) h in
    let first = and_parts (is_name_byte b) (not (is_digit b)) both.0 in
    (not_true (is_digit b) first.1, and_from (is_name_byte b) (list_all is_name_byte bs) first.0 both.1)

-- a bare name begins with no digit
pub bare_no_digits : (n : Text) → is_bare n ≡ true → is_digits n ≡ false
bare_no_digits [] h = cc
bare_no_digits (b ∷ bs) h = digits_not b bs (bare_parts b bs h).0

-- ---- names that are printed

-- a name is written as no digits: a bare one begins with none, and others with a quote
pub printed_no_digits : (n : Text) → is_digits (printed_name n) ≡ false
printed_no_digits n = by (is_bare n) refl
  where
    by : (v : Bool) → is_bare n ≡ v → is_digits (printed_name n) ≡ false
    by true e = rw e (bare_no_digits n e)
    by false e = rw e (digits_not 34 (escaped n ++ 34 ∷ []) refl)

-- what is written in no digits says its name
by_name : (t n : Text) → is_digits t ≡ false → name_said t ≡ Some n → (if is_digits t then if_text t else name_said t) ≡ Some n
by_name t n e says = rw e says

-- a name that is printed behind a sign is the one that is said: so of `global` and of `local`
pub symbol_says : (sign : ℕ) (n : Text) → is_name n ≡ true → symbol_name (sign ∷ printed_name n) ≡ Some n
symbol_says sign n h = by_name (printed_name n) n (printed_no_digits n) (name_says n h)

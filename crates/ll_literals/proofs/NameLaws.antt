-- What bare names are made of.
use Rattle.std.proofs.Common.{◌≡◌, ◌<◌, ◌&&◌, not, ℕ, zero, suc, nat_eq, true, false, List, [], ◌∷◌, length, refl, ne_eqb, arith}
use Rattle.std.specs.List.{list_all, list_any}
use Rattle.std.specs.Str.{IsAscii, IsUtf8}
use Rattle.std.proofs.lemmas.Str.{IsUtf8-from_ascii, is_utf8-from_IsUtf8}
use Rattle.std.proofs.lemmas.Bool.Decides.{nat_tests}
use Rattle.std.proofs.lemmas.Bool.{and_parts, or_from}
use Rattle.llvm_core.specs.Names.{is_digit}
use Rattle.llvm_core.specs.Checked.{is_bad_name}
use Rattle.ll_literals.specs.Text.{Text}
use Rattle.ll_literals.specs.Names.{is_name_byte, is_bare, is_name}

name_ascii : (b : ℕ) → is_name_byte b ≡ true → b < 128
name_ascii b h = grind (arith, nat_tests)

all_ascii : (bs : List ℕ) → list_all is_name_byte bs ≡ true → IsAscii bs
all_ascii [] h i = omega arith
all_ascii (b ∷ bs) h zero = name_ascii b (and_parts (is_name_byte b) (list_all is_name_byte bs) h).0
all_ascii (b ∷ bs) h (suc i) = all_ascii bs (and_parts (is_name_byte b) (list_all is_name_byte bs) h).1 i

bare_ascii : (text : Text) → is_bare text ≡ true → IsAscii text
bare_ascii [] h = absurd cc
bare_ascii (b ∷ bs) h =
    let both = and_parts (is_name_byte b && not (is_digit b)) (list_all is_name_byte bs) h in
    let first = and_parts (is_name_byte b) (not (is_digit b)) both.0 in
    all_ascii (b ∷ bs) (rw first.0 both.1)

-- a bare name is UTF-8
pub IsUtf8-bare : (text : Text) → is_bare text ≡ true → IsUtf8 text
IsUtf8-bare text h = IsUtf8-from_ascii text (bare_ascii text h)

name_not_zero : (b : ℕ) → is_name_byte b ≡ true → nat_eq b 0 ≡ false
name_not_zero b h = grind (arith, nat_tests)

none_zero : (bs : Text) → list_all is_name_byte bs ≡ true → list_any (λ (c : ℕ). nat_eq c 0) bs ≡ false
none_zero [] h = refl
none_zero (b ∷ bs) h = let both = and_parts (is_name_byte b) (list_all is_name_byte bs) h in or_from _ _ (name_not_zero b both.0) (none_zero bs both.1)

bare_not_bad : (text : Text) → is_bare text ≡ true → is_bad_name text ≡ false
bare_not_bad [] h = absurd cc
bare_not_bad (b ∷ bs) h =
    let both = and_parts (is_name_byte b && not (is_digit b)) (list_all is_name_byte bs) h in
    let first = and_parts (is_name_byte b) (not (is_digit b)) both.0 in
    or_from _ _ (ne_eqb (length (b ∷ bs)) 0 (λ e. omega (arith, e))) (none_zero (b ∷ bs) (rw first.0 both.1))

-- a bare name is a name
pub bare_is_name : (text : Text) → is_bare text ≡ true → is_name text ≡ true
bare_is_name text h = let fine = bare_not_bad text h in let utf8 = is_utf8-from_IsUtf8 text (IsUtf8-bare text h) in cc

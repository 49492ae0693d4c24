-- Letters, digits and `_` make good names.
use Rattle.std.proofs.Common.{arith, ◌≡◌, ◌<◌, ℕ, zero, suc, Bool, true, false, nat_eq, List, [], ◌∷◌, length, refl}
use Rattle.std.specs.List.{list_all, list_any}
use Rattle.std.specs.Str.{IsAscii, is_utf8}
use Rattle.std.proofs.lemmas.Bool.{and_parts}
use Rattle.std.proofs.lemmas.Bool.Decides.{nat_tests}
use Rattle.std.proofs.lemmas.Str.{IsUtf8-from_ascii, is_utf8-from_IsUtf8}
use Rattle.kinds.specs.Names.{is_bad_name, is_good_name, is_plain_byte}

plain_small : (b : ℕ) → is_plain_byte b ≡ true → b < 128
plain_small b h = grind (arith, nat_tests)

plain_no_zero : (b : ℕ) → is_plain_byte b ≡ true → nat_eq b 0 ≡ false
plain_no_zero b h = grind (arith, nat_tests)

plain_ascii : (bs : List ℕ) → list_all is_plain_byte bs ≡ true → IsAscii bs
plain_ascii [] h i = omega arith
plain_ascii (b ∷ bs) h zero = plain_small b (and_parts (is_plain_byte b) (list_all is_plain_byte bs) h).0
plain_ascii (b ∷ bs) h (suc i) = plain_ascii bs (and_parts (is_plain_byte b) (list_all is_plain_byte bs) h).1 i

plain_zeros : (bs : List ℕ) → list_all is_plain_byte bs ≡ true → list_any (λ c. nat_eq c 0) bs ≡ false
plain_zeros [] h = refl
plain_zeros (b ∷ bs) h =
    let p = and_parts (is_plain_byte b) (list_all is_plain_byte bs) h in
    rw (plain_no_zero b p.0, plain_zeros bs p.1) refl

some_there : (bs : List ℕ) (b : ℕ) → nat_eq (length (b ∷ bs)) 0 ≡ false
some_there bs b = grind (arith, nat_tests)

pub plain_good : (b : ℕ) (bs : List ℕ) → list_all is_plain_byte (b ∷ bs) ≡ true → is_good_name (b ∷ bs) ≡ true
plain_good b bs h =
    let some = some_there bs b in
    let zeros = plain_zeros (b ∷ bs) h in
    let utf8 : is_utf8 (b ∷ bs) ≡ true = is_utf8-from_IsUtf8 (b ∷ bs) (IsUtf8-from_ascii (b ∷ bs) (plain_ascii (b ∷ bs) h)) in
    cc

-- a good name is not bad
pub good_not_bad : (n : List ℕ) → is_good_name n ≡ true → is_bad_name n ≡ false
good_not_bad n h = by (is_bad_name n) refl
  where
    by : (v : Bool) → is_bad_name n ≡ v → is_bad_name n ≡ false
    by true e = let no : ⊥ = cc (h, e) in absurd no
    by false e = e

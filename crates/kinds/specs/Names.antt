-- Names of symbols, blocks and results, on both sides.
use Rattle.std.specs.Prelude.{◌≡◌, ℕ, Bool, true, not, ◌&&◌, ◌||◌, ◌==◌, nat_eq, nat_le, List, [], ◌∷◌, length}
use Rattle.std.specs.List.{list_any, starts_with}
use Rattle.std.specs.Str.{is_utf8}

-- ---- names of symbols

-- a name that no symbol may have: empty, or with a zero byte
abbrev pub is_bad_name : List ℕ → Bool
is_bad_name n = nat_eq (length n) 0 || list_any (λ c. nat_eq c 0) n

-- "llvm."
abbrev pub intrinsic_prefix : List ℕ
intrinsic_prefix = 108 ∷ 108 ∷ 118 ∷ 109 ∷ 46 ∷ []

-- the name of an intrinsic: it begins with `llvm.`
abbrev pub is_intrinsic_name : List ℕ → Bool
is_intrinsic_name n = starts_with nat_eq n intrinsic_prefix

-- the name of a symbol that is no intrinsic
abbrev pub is_own_name : List ℕ → Bool
is_own_name n = not (is_bad_name n) && not (is_intrinsic_name n)

-- ---- names that a text can say

abbrev pub is_digit : ℕ → Bool
is_digit b = nat_le 48 b && nat_le b 57

abbrev pub is_letter : ℕ → Bool
is_letter b = (nat_le 65 b && nat_le b 90) || (nat_le 97 b && nat_le b 122)

-- a letter, a digit or `_`
abbrev pub is_plain_byte : ℕ → Bool
is_plain_byte b = is_letter b || is_digit b || b == 95

-- what a symbol, a local, a block and a struct may be named: not empty, without a zero byte, UTF-8
abbrev pub is_good_name : List ℕ → Bool
is_good_name n = not (is_bad_name n) && is_utf8 n

-- such a name, or none
abbrev pub IsGoodOrNone : List ℕ → Type 0
IsGoodOrNone [] = Unit {0}
IsGoodOrNone (b ∷ bs) = is_good_name (b ∷ bs) ≡ true

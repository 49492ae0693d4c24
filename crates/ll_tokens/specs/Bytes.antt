-- Kinds of bytes in LLVM text.
use Rattle.std.specs.Prelude.{ℕ, Bool, ◌||◌, ◌&&◌, not, nat_le, ◌==◌}

-- space, tab, CR, LF
abbrev pub is_blank : ℕ → Bool
is_blank b = b == 32 || b == 9 || b == 13 || b == 10

abbrev pub is_digit : ℕ → Bool
is_digit b = nat_le 48 b && nat_le b 57

abbrev pub is_hex_digit : ℕ → Bool
is_hex_digit b = is_digit b || (nat_le 65 b && nat_le b 70) || (nat_le 97 b && nat_le b 102)

abbrev pub is_letter : ℕ → Bool
is_letter b = (nat_le 65 b && nat_le b 90) || (nat_le 97 b && nat_le b 122)

abbrev pub is_letter_or_digit : ℕ → Bool
is_letter_or_digit b = is_letter b || is_digit b

-- letters, digits and $ . _ -
abbrev pub is_name_byte : ℕ → Bool
is_name_byte b = is_letter b || is_digit b || b == 36 || b == 46 || b == 95 || b == 45

-- a letter or _
abbrev pub is_word_start : ℕ → Bool
is_word_start b = is_letter b || b == 95

-- letters, digits, _ and .
abbrev pub is_word_byte : ℕ → Bool
is_word_byte b = is_letter b || is_digit b || b == 95 || b == 46

-- of no name, no : and no "
abbrev pub ends_name : ℕ → Bool
ends_name b = not (is_name_byte b || b == 58 || b == 34)

-- + and -
abbrev pub is_plus_or_minus : ℕ → Bool
is_plus_or_minus b = b == 43 || b == 45

-- e and E
abbrev pub is_e : ℕ → Bool
is_e b = b == 101 || b == 69

-- a comment goes on to the LF or CR that ends its line, a string to the next "
abbrev pub in_line : ℕ → Bool
in_line b = not (b == 10 || b == 13)

abbrev pub in_string : ℕ → Bool
in_string b = not (b == 34)

-- Bytes between quotes: what they say, and how bytes are written there.
use Rattle.std.specs.Prelude.{ℕ, Bool, ◌+◌, ◌-◌, ◌*◌, ◌&&◌, ◌||◌, not, ◌==◌, nat_le, nat_lt, ◌/◌, ◌%◌, if◌then◌else◌, [], ◌∷◌}
use Rattle.std.specs.List.{flat_map}
use Rattle.llvm_core.specs.Names.{is_digit}
use Rattle.ll_literals.specs.Text.{Text}

-- ---- hexadecimal digits

abbrev pub is_hex : ℕ → Bool
is_hex b = is_digit b || (nat_le 65 b && nat_le b 70) || (nat_le 97 b && nat_le b 102)

-- what a digit stands for
abbrev pub hex_value : ℕ → ℕ
hex_value b = if is_digit b then b - 48 else (if nat_le b 70 then b - 55 else b - 87)

-- a number below 16 as a digit, in capitals
abbrev pub hex_digit : ℕ → ℕ
hex_digit n = if nat_lt n 10 then 48 + n else 55 + n

-- a byte that may stand between quotes
abbrev pub in_quotes : ℕ → Bool
in_quotes b = not (b == 34)

-- ---- what is said

-- two backslashes are one, a backslash and two hexadecimal digits are the byte of that number, any other byte is itself
unfoldable pub unescaped : Text → Text
unescaped [] = []
unescaped (b ∷ []) = b ∷ []
unescaped (b ∷ c ∷ []) = if b == 92 && c == 92 then 92 ∷ [] else b ∷ unescaped (c ∷ [])
unescaped (b ∷ c ∷ d ∷ bs) =
    if b == 92 && c == 92 then 92 ∷ unescaped (d ∷ bs)
    else (if b == 92 && is_hex c && is_hex d then (16 * hex_value c + hex_value d) ∷ unescaped bs else b ∷ unescaped (c ∷ d ∷ bs))

-- ---- how it is written

-- a byte between quotes: a printable one as it is, but for a quote and a backslash
abbrev pub escape : ℕ → Text
escape b =
    if b == 92 then 92 ∷ 92 ∷ []
    else (if nat_le 32 b && nat_le b 126 && not (b == 34) then b ∷ [] else 92 ∷ hex_digit (b / 16) ∷ hex_digit (b % 16) ∷ [])

abbrev pub escaped : Text → Text
escaped bs = flat_map escape bs

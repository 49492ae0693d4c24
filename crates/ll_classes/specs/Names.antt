-- What names of metadata say: `\XX` stands for that byte.
use Rattle.std.specs.Prelude.{ℕ, zero, suc, ◌+◌, ◌-◌, ◌*◌, ◌%◌, Bool, ◌&&◌, [], ◌∷◌, ◌==◌, if◌then◌else◌, slice_index}
use Rattle.ll_tokens.specs.Bytes.{is_digit, is_hex_digit}
use Rattle.ll_classes.specs.Buckets.{Text}

-- what a hexadecimal digit says
abbrev pub digit_value : ℕ → ℕ
digit_value b = if is_digit b then b % 16 else (b % 16 + 9) % 16

-- do the bytes begin with a backslash and two hexadecimal digits?
abbrev pub is_escaped : Text → Bool
is_escaped t = slice_index t 0 == 92 && is_hex_digit (slice_index t 1) && is_hex_digit (slice_index t 2)

-- the byte that they begin with, and how many bytes it is written in
unfoldable pub said : Text → ℕ
said t = if is_escaped t then 16 * digit_value (slice_index t 1) + digit_value (slice_index t 2) else slice_index t 0

unfoldable pub said_len : Text → ℕ
said_len t = if is_escaped t then 3 else 1

-- what bytes say, of which the first ones given belong to an escape already met
abbrev pub unescaped_from : (skip : ℕ) → Text → Text
unescaped_from skip [] = []
unescaped_from zero (b ∷ bs) = said (b ∷ bs) ∷ unescaped_from (said_len (b ∷ bs) - 1) bs
unescaped_from (suc k) (b ∷ bs) = unescaped_from k bs

abbrev pub unescaped : Text → Text
unescaped t = unescaped_from 0 t

-- Integer literals in LLVM text.
use Rattle.std.specs.Prelude.{ℕ, ◌-◌, ◌*◌, ◌^◌, nat_le, nat_lt, ◌==◌, ◌&&◌, if◌then◌else◌, [], ◌∷◌, Option, Some, None, codes}
use Rattle.std.specs.Str.{bytes_eq}
use Rattle.ll_literals.specs.Text.{Text}
use Rattle.ll_literals.specs.Numbers.{number_of}

abbrev pub if_number : {A : Type 0} → (ℕ → Option A) → Option ℕ → Option A
if_number f None = None
if_number f (Some n) = f n

-- a natural number at a width: below 2^width, and below 2^128 at any
abbrev pub at_width : ℕ → ℕ → Option ℕ
at_width w n = if nat_lt n (2 ^ w) && nat_lt n (2 ^ 128) then Some n else None

-- the negative of a number at a width, in two's complement: at least -2^(width - 1), and past 128 bits that of 0 alone
abbrev pub negative_at_width : ℕ → ℕ → Option ℕ
negative_at_width w n = if n == 0 then Some 0 else (if nat_le w 128 && nat_le (2 * n) (2 ^ w) then Some (2 ^ w - n) else None)

-- the value of an integer literal at a width, none for what is no literal and for one out of range or past 128 bits
abbrev pub int_value : ℕ → Text → Option ℕ
int_value w [] = None
int_value w (b ∷ bs) = if b == 45 then if_number (negative_at_width w) (number_of bs) else if_number (at_width w) (number_of (b ∷ bs))

-- `true` and `false` are literals of width 1
abbrev pub const_value : ℕ → Text → Option ℕ
const_value w t =
    if bytes_eq t (codes "true") then (if w == 1 then Some 1 else None)
    else (if bytes_eq t (codes "false") then (if w == 1 then Some 0 else None)
    else int_value w t)

-- Numbers in LLVM text, in decimal.
use Rattle.std.specs.Prelude.{ℕ, ◌+◌, ◌-◌, ◌*◌, Bool, ◌&&◌, not, nat_le, ◌==◌, if◌then◌else◌, List, [], ◌∷◌, length, Option, Some, None}
use Rattle.std.specs.List.{list_all}
use Rattle.llvm_core.specs.Names.{is_digit}
use Rattle.ll_literals.specs.Text.{Text}

-- one digit at least, and nothing else
abbrev pub is_digits : Text → Bool
is_digits t = not (length t == 0) && list_all is_digit t

-- the number that decimal digits say, behind what stands before them
abbrev pub value_after : ℕ → List ℕ → ℕ
value_after n [] = n
value_after n (b ∷ bs) = value_after (n * 10 + (b - 48)) bs

-- the number of decimal digits, none for what is no digits
abbrev pub number_of : Text → Option ℕ
number_of [] = None
number_of (b ∷ bs) = if list_all is_digit (b ∷ bs) then Some (value_after 0 (b ∷ bs)) else None

-- a number that is at most `most`
abbrev pub up_to : ℕ → Option ℕ → Option ℕ
up_to most None = None
up_to most (Some n) = if nat_le n most then Some n else None

-- i and digits
abbrev pub width_of : Text → Option ℕ
width_of [] = None
width_of (b ∷ bs) = if b == 105 then number_of bs else None

-- numbers of unnamed things lie below this
abbrev pub number_limit : ℕ
number_limit = 4294967295

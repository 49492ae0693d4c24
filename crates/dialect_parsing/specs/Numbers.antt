-- Numbers in decimal, where zeros may lead.
use Rattle.std.specs.Prelude.{ℕ, ◌+◌, ◌-◌, ◌*◌, ◌^◌, nat_lt, if◌then◌else◌, List, [], ◌∷◌, Option, Some, None}
use Rattle.std.specs.List.{list_all}
use Rattle.kinds.specs.Names.{is_digit}

-- the number that digits say, behind what stands before them
abbrev pub value_after : ℕ → List ℕ → ℕ
value_after n [] = n
value_after n (b ∷ bs) = value_after (n * 10 + (b - 48)) bs

-- below 2^64
abbrev pub if_small : ℕ → Option ℕ
if_small n = if nat_lt n (2 ^ 64) then Some n else None

-- the number of a text of digits, of which there is one at least, where it is below 2^64
abbrev pub number_of : List ℕ → Option ℕ
number_of [] = None
number_of (b ∷ bs) = if list_all is_digit (b ∷ bs) then if_small (value_after 0 (b ∷ bs)) else None

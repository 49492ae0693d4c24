-- Numbers that digits say.
use Rattle.std.proofs.Common.{◌≡◌, ℕ, cond, ◌+◌, ◌-◌, ◌*◌, ◌^◌, ◌≤◌, ◌<◌, List, [], ◌∷◌, None, length, refl, arith}
use Rattle.std.specs.List.{list_all}
use Rattle.std.proofs.lemmas.Bool.Decides.{nat_tests}
use Rattle.kinds.specs.Names.{is_digit}
use Rattle.dialect_parsing.specs.Numbers.{number_of, value_after, if_small}

-- digits only make a number larger
pub value_after-ge : (n : ℕ) (bs : List ℕ) → n ≤ value_after n bs
value_after-ge n [] = omega arith
value_after-ge n (b ∷ bs) = let g = value_after-ge (n * 10 + (b - 48)) bs in omega (arith, g)

-- a number whose first digits say too much is too large
pub past : (next total : ℕ) (bs : List ℕ) → 2 ^ 64 ≤ next → value_after next bs ≡ total → None ≡ if_small total
past next total bs more e =
    let g = value_after-ge next bs in
    let h : 2 ^ 64 ≤ total = omega (arith, g, e) in
    grind (arith, nat_tests)

pub number_of_digits : (text : List ℕ) → 0 < length text → number_of text ≡ cond (list_all is_digit text) (if_small (value_after 0 text)) None
number_of_digits [] some = absurd (omega arith)
number_of_digits (b ∷ bs) some = refl

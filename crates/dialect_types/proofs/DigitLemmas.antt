-- Numbers of few digits, spelled.
use Rattle.std.proofs.Common.{◌≡◌, ◌<◌, ◌≤◌, ◌+◌, ◌/◌, ◌%◌, ℕ, List, [], ◌∷◌, ◌++◌, ap, ◌∙◌, arith}
use Rattle.std.specs.Prelude.{codes}
use Rattle.std.specs.Fmt.{decimal}
use Rattle.std.proofs.lemmas.Fmt.{decimal_digit, decimal_step}

pub one_digit : (n : ℕ) → n < 10 → decimal n ≡ (48 + n % 10) ∷ []
one_digit n h = decimal_digit n h ∙ ap (λ (x : ℕ). x ∷ []) (omega arith)

-- the last digit behind what stands before it
more_digits : (n : ℕ) (ds : List ℕ) → 10 ≤ n → n < 10000 → decimal (n / 10) ≡ ds → decimal n ≡ ds ++ (48 + n % 10) ∷ []
more_digits n ds least most h = decimal_step n least (omega arith) ∙ ap (λ (xs : List ℕ). xs ++ (48 + n % 10) ∷ []) h

pub two_digits : (n : ℕ) → 10 ≤ n → n < 100 → decimal n ≡ (48 + n / 10 % 10) ∷ (48 + n % 10) ∷ []
two_digits n least h = more_digits n _ least (omega arith) (one_digit (n / 10) (omega arith))

pub three_digits : (n : ℕ) → 100 ≤ n → n < 1000 → decimal n ≡ (48 + n / 100 % 10) ∷ (48 + n / 10 % 10) ∷ (48 + n % 10) ∷ []
three_digits n least h =
    more_digits n _ (omega arith) (omega arith) (two_digits (n / 10) (omega arith) (omega arith))
    ∙ ap (λ (k : ℕ). (48 + k % 10) ∷ (48 + n / 10 % 10) ∷ (48 + n % 10) ∷ []) (omega arith)

pub four_digits : (n : ℕ) → 1000 ≤ n → n < 10000 → decimal n ≡ (48 + n / 1000 % 10) ∷ (48 + n / 100 % 10) ∷ (48 + n / 10 % 10) ∷ (48 + n % 10) ∷ []
four_digits n least h =
    more_digits n _ (omega arith) (omega arith) (three_digits (n / 10) (omega arith) (omega arith))
    ∙ ap (λ (k : ℕ). (48 + k % 10) ∷ (48 + n / 10 / 10 % 10) ∷ (48 + n / 10 % 10) ∷ (48 + n % 10) ∷ []) (omega arith)
    ∙ ap (λ (k : ℕ). (48 + n / 1000 % 10) ∷ (48 + k % 10) ∷ (48 + n / 10 % 10) ∷ (48 + n % 10) ∷ []) (omega arith)

-- an integer type of a common width, spelled
integer_text : (n : ℕ) (ds : List ℕ) → decimal n ≡ ds → codes "builtin.integer i" ++ decimal n ≡ codes "builtin.integer i" ++ ds
integer_text n ds h = ap (λ (xs : List ℕ). codes "builtin.integer i" ++ xs) h

pub i1_text : codes "builtin.integer i" ++ decimal 1 ≡ codes "builtin.integer i1"
i1_text = integer_text 1 _ (one_digit 1 (omega arith))

pub i8_text : codes "builtin.integer i" ++ decimal 8 ≡ codes "builtin.integer i8"
i8_text = integer_text 8 _ (one_digit 8 (omega arith))

pub i32_text : codes "builtin.integer i" ++ decimal 32 ≡ codes "builtin.integer i32"
i32_text = integer_text 32 _ (two_digits 32 (omega arith) (omega arith))

pub i64_text : codes "builtin.integer i" ++ decimal 64 ≡ codes "builtin.integer i64"
i64_text = integer_text 64 _ (two_digits 64 (omega arith) (omega arith))

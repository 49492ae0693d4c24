-- Numbers that digits say.
use Rattle.std.proofs.Common.{◌≡◌, ℕ, cond, Bool, true, false, nat_lt, ◌+◌, ◌-◌, ◌*◌, ◌^◌, ◌≤◌, ◌<◌, List, [], ◌∷◌, Option, Some, None, SomeIff, length, refl, subst, arith}
use Rattle.std.proofs.lemmas.Bool.{ltb-true, ltb-false}
use Rattle.std.specs.List.{list_all}
use Rattle.std.proofs.lemmas.Bool.Decides.{nat_tests}
use Rattle.llvm_core.specs.Names.{is_digit}
use Rattle.ll_literals.specs.Text.{Text}
use Rattle.ll_literals.specs.Numbers.{number_of, value_after, up_to}

-- digits only make a number larger
value_after-ge : (n : ℕ) (bs : List ℕ) → n ≤ value_after n bs
value_after-ge n [] = omega arith
value_after-ge n (b ∷ bs) = let g = value_after-ge (n * 10 + (b - 48)) bs in omega (arith, g)

-- a number whose first digits say too much is past the bound
pub past : (most next total : ℕ) (bs : List ℕ) → most < next → value_after next bs ≡ total → None ≡ up_to most (Some total)
past most next total bs more e =
    let g = value_after-ge next bs in
    let h : most < total = omega (arith, g, e) in
    grind (arith, nat_tests)

-- one more digit behind a value
pub past_by : (most value digit next total : ℕ) (bs : List ℕ) → next ≡ value * 10 + digit → most < next → value_after (value * 10 + digit) bs ≡ total → None ≡ up_to most (Some total)
past_by most value digit next total bs is more e = past most (value * 10 + digit) total bs (omega (arith, is, more)) e

-- what an operation gives that is checked, or that it does not fit
pub checked_some : (r : Option ℕ) (P : Type 0) (v x : ℕ) → SomeIff r P v → r ≡ Some x → x ≡ v
checked_some r P v x h is = (subst (λ (o : Option ℕ). SomeIff o P v) is h).1

pub checked_none : (r : Option ℕ) (v most : ℕ) → SomeIff r (v < 2 ^ 128) v → r ≡ None → most < 2 ^ 128 → most < v
checked_none r v most h is small = let past = ltb-false v (2 ^ 128) (by (nat_lt v (2 ^ 128)) refl) in omega (arith, past, small)
  where
    by : (b : Bool) → nat_lt v (2 ^ 128) ≡ b → nat_lt v (2 ^ 128) ≡ false
    by true e = absurd (subst (λ (o : Option ℕ). SomeIff o (v < 2 ^ 128) v) is h (ltb-true v (2 ^ 128) e))
    by false e = e

pub number_of_digits : (text : Text) → 0 < length text → number_of text ≡ cond (list_all is_digit text) (Some (value_after 0 text)) None
number_of_digits [] some = absurd (omega arith)
number_of_digits (b ∷ bs) some = refl

-- A number that is too great makes no array and no vector.
use Rattle.std.proofs.Common.{◌≡◌, ◌<◌, ◌-◌, ◌^◌, ℕ, nat_le, nat_lt, Bool, true, false, Option, Some, None, refl, sym, arith}
use Rattle.std.proofs.lemmas.Bool.Decides.{nat_tests}
use Rattle.kinds.specs.declared.types.VectorTypeKind.{VectorTypeKind}
use Rattle.kinds.specs.Types.{TypeTree}
use Rattle.ll_literals.specs.Chain.{◌>>=◌}
use Rattle.ll_literals.specs.Numbers.{up_to}
use Rattle.ll_values.specs.Values.{array_of, vector_of}

-- what is made of a number is made of one that is not past a bound, where more make nothing
counted : (most : ℕ) (o : Option ℕ) (f : ℕ → Option TypeTree) → ((n : ℕ) → most < n → f n ≡ None) → (up_to most o >>= f) ≡ (o >>= f)
counted most None f more = refl
counted most (Some n) f more = by (nat_le n most) refl
  where
    by : (b : Bool) → nat_le n most ≡ b → (up_to most (Some n) >>= f) ≡ f n
    by true e = rw e refl
    by false e = rw e (sym (more n (grind (arith, nat_tests))))

no_array : (τ : TypeTree) (n : ℕ) → 2 ^ 64 - 1 < n → array_of τ n ≡ None
no_array τ n h = let e : nat_lt n (2 ^ 64) ≡ false = grind (arith, nat_tests) in rw e refl

no_vector : (k : VectorTypeKind) (τ : TypeTree) (n : ℕ) → 2 ^ 32 - 1 < n → vector_of k τ n ≡ None
no_vector k τ n h = by (nat_le 1 n) refl
  where
    e : nat_lt n (2 ^ 32) ≡ false
    e = grind (arith, nat_tests)

    by : (b : Bool) → nat_le 1 n ≡ b → vector_of k τ n ≡ None
    by true one = rw (one, e) refl
    by false one = rw one refl

pub array_counted : (τ : TypeTree) (o : Option ℕ) → (up_to (2 ^ 64 - 1) o >>= array_of τ) ≡ (o >>= array_of τ)
array_counted τ o = counted (2 ^ 64 - 1) o (array_of τ) (no_array τ)

pub vector_counted : (k : VectorTypeKind) (τ : TypeTree) (o : Option ℕ) → (up_to (2 ^ 32 - 1) o >>= vector_of k τ) ≡ (o >>= vector_of k τ)
vector_counted k τ o = counted (2 ^ 32 - 1) o (vector_of k τ) (no_vector k τ)

-- The least number that passes a test: of tests that say the same, of one that is asked one later, and of two together.
use Rattle.std.proofs.Common.{◌≡◌, ◌<◌, ◌≤◌, inl, inr, ℕ, zero, suc, Bool, true, false, ◌&&◌, Option, Some, None, ap, ◌∙◌, arith}
use Rattle.std.specs.Prelude.{max}
use Rattle.std.proofs.lemmas.Bool.{cases_lt}
use Rattle.std.proofs.Math.Bool.{and-false}
use Rattle.llvm_core.specs.Depths.{IsLeast, IsLeastWithin}

-- nothing is less than 0
pub least_none : (p : ℕ → Bool) → p 0 ≡ true → IsLeast p 0
least_none p h = record { passes = h; least = λ k lt. absurd (omega arith) }

pub within_none : (p : ℕ → Bool) (left : ℕ) → p 0 ≡ true → IsLeastWithin p left (Some 0)
within_none p left h = (least_none p h, omega arith)

-- ---- tests that say the same

pub least_same : (p q : ℕ → Bool) → ((n : ℕ) → q n ≡ p n) → (n : ℕ) → IsLeast p n → IsLeast q n
least_same p q same n h = record { passes = same n ∙ h.passes; least = λ k lt. same k ∙ h.least k lt }

pub within_same : (p q : ℕ → Bool) → ((n : ℕ) → q n ≡ p n) → (left : ℕ) (o : Option ℕ) → IsLeastWithin p left o → IsLeastWithin q left o
within_same p q same left None h = same left ∙ h
within_same p q same left (Some n) h = (least_same p q same n h.0, h.1)

-- ---- a test that asks what another does, one later

pub least_later : (p q : ℕ → Bool) → q 0 ≡ false → ((n : ℕ) → q (suc n) ≡ p n) → (n : ℕ) → IsLeast p n → IsLeast q (suc n)
least_later p q none same n h = record { passes = same n ∙ h.passes; least = by }
  where
    by : (k : ℕ) → k < suc n → q k ≡ false
    by zero lt = none
    by (suc k) lt = same k ∙ h.least k (omega arith)

-- ---- two tests together

both : (a b : Bool) → a ≡ true → b ≡ true → (a && b) ≡ true
both a b e f = cc

pub first_fails : (a b : Bool) → a ≡ false → (a && b) ≡ false
first_fails a b e = cc

pub second_fails : (a b : Bool) → b ≡ false → (a && b) ≡ false
second_fails a b e = ap (λ c. a && c) e ∙ and-false a

-- what passes at a number passes at each that is greater
abbrev pub Rises : (ℕ → Bool) → Type 0
Rises p = (n k : ℕ) → n ≤ k → p n ≡ true → p k ≡ true

module _ (p q r : ℕ → Bool) (rises_p : Rises p) (rises_q : Rises q) (same : (n : ℕ) → r n ≡ (p n && q n)) where
  pub least_both : (a b : ℕ) → IsLeast p a → IsLeast q b → IsLeast r (max a b)
  least_both a b h g = record {
    passes = same (max a b) ∙ both (p (max a b)) (q (max a b)) (rises_p a (max a b) (omega arith) h.passes) (rises_q b (max a b) (omega arith) g.passes);
    least = λ k lt. same k ∙ elim (cases_lt k a) [
      | inl below ↦ first_fails (p k) (q k) (h.least k below)
      | inr past ↦ second_fails (p k) (q k) (g.least k (omega arith))
    ];
  }

  pub within_both : (left a b : ℕ) → IsLeastWithin p left (Some a) → IsLeastWithin q left (Some b) → IsLeastWithin r left (Some (max a b))
  within_both left a b h g = (least_both a b h.0 g.0, (let f = h.1 in let s = g.1 in omega arith))

  pub none_first : (left : ℕ) → IsLeastWithin p left None → IsLeastWithin r left None
  none_first left h = same left ∙ first_fails (p left) (q left) h

  pub none_second : (left : ℕ) → IsLeastWithin q left None → IsLeastWithin r left None
  none_second left h = same left ∙ second_fails (p left) (q left) h

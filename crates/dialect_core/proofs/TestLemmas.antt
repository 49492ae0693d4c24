-- What a test answers, as a fact.
use Rattle.std.proofs.Common.{◌≡◌, ◌<◌, ◌+◌, ℕ, Bool, true, false, nat_eq, List, [], ◌∷◌, length, get_or, ap, sym, subst, ◌∙◌, refl, arith}
use Rattle.std.specs.Prelude.{IsTrue, ◌↔◌}
use Rattle.std.proofs.lemmas.List.{get_or_default}
use Rattle.dialect_core.specs.declared.numbers.BlockRef.{BlockRef}

pub no_true : {X : Type 0} → IsTrue false → X
no_true h = absurd (let e : false ≡ true = h in cc)

pub true_same : (t : Bool) (a b : ℕ) → t ≡ nat_eq a b → IsTrue t → a ≡ b
true_same t a b is h = by (nat_eq a b) refl (sym is ∙ h)
  where
    by : (u : Bool) → nat_eq a b ≡ u → u ≡ true → a ≡ b
    by true e k = grind (arith, e)
    by false e k = no_true k

pub same_true : (t : Bool) (a b : ℕ) → t ≡ nat_eq a b → a ≡ b → IsTrue t
same_true t a b is h = is ∙ by (nat_eq a b) refl
  where
    by : (u : Bool) → nat_eq a b ≡ u → u ≡ true
    by true e = refl
    by false e = absurd (grind (arith, e, h))

pub same_block : (a b : BlockRef) → a.0 ≡ b.0 → a ≡ b
same_block a b e = ap (λ (n : ℕ). let o : BlockRef = record { 0 = n } in o) e

-- a test that failed, of what has to hold
pub fails : {P : Type 0} (t : Bool) → (IsTrue t ↔ P) → t ≡ false → P → ⊥
fails t h is p = no_true (sym is ∙ h.1 p)

-- no such fact
pub never : {P : Type 0} → (P → ⊥) → IsTrue false ↔ P
never h = ((λ no. no_true no), (λ p. absurd (h p)))

pub always : {P : Type 0} → P → IsTrue true ↔ P
always p = ((λ t. p), (λ q. refl))

pub iff_trans : {P Q R : Type 0} → P ↔ Q → Q ↔ R → P ↔ R
iff_trans a b = ((λ p. b.0 (a.0 p)), (λ r. a.1 (b.1 r)))

-- what holds of each item below a place and of the one there holds of each below the next place
pub all_more : {X : Type 0} (P : X → Type 0) (xs : List X) (i : ℕ) (e : X) → ((k : ℕ) (d : X) → k < i → P (get_or xs k d)) → i < length xs → P (get_or xs i e) → (k : ℕ) (d : X) → k < i + 1 → P (get_or xs k d)
all_more {X} P xs i e before within here k d l = by (nat_eq k i) refl
  where
    by : (t : Bool) → nat_eq k i ≡ t → P (get_or xs k d)
    by true same =
        let f : i ≡ k = grind (arith, same) in
        subst P (ap (λ (n : ℕ). get_or xs n e) f ∙ get_or_default xs k e d (omega arith)) here
    by false differs = before k d (grind (arith, differs, l))

pub empty_is : {X : Type 0} (xs : List X) (t : Bool) → t ≡ nat_eq (length xs) 0 → IsTrue t ↔ xs ≡ []
empty_is [] t is = (λ h. refl, λ e. is)
empty_is (x ∷ xs) t is = (λ h. absurd (let e : length (x ∷ xs) ≡ 0 = true_same t (length (x ∷ xs)) 0 is h in omega arith), λ e. absurd (let f = ap length e in omega arith))

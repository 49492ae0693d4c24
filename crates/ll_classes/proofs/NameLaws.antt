-- A name is compared byte by byte.
use Rattle.std.proofs.Common.{◌≡◌, ◌<◌, ◌≤◌, ℕ, zero, suc, ◌-◌, Bool, true, false, ◌&&◌, nat_eq, List, [], ◌∷◌, length, get_or, drop, if◌then◌else◌, refl, sym, ap, ◌∙◌, arith}
use Rattle.std.specs.Str.{bytes_eq}
use Rattle.std.proofs.lemmas.Bool.{eqb-true}
use Rattle.std.proofs.lemmas.List.{drop_all}
use Rattle.std.proofs.Math.Seq.{drop-cons}
use Rattle.ll_classes.specs.Buckets.{Text}
use Rattle.ll_classes.specs.Names.{is_escaped, said, said_len, unescaped_from, unescaped}

-- the rest of an escape is passed over
skipped : (n : ℕ) (t : Text) → unescaped_from n t ≡ unescaped (drop n t)
skipped zero t = refl
skipped (suc n) [] = refl
skipped (suc n) (b ∷ bs) = skipped n bs

behind : (n : ℕ) (b : ℕ) (bs : Text) → 1 ≤ n → unescaped_from (n - 1) bs ≡ unescaped (drop n (b ∷ bs))
behind zero b bs some = absurd (omega arith)
behind (suc n) b bs some = let e : suc n - 1 ≡ n = omega arith in rw e (skipped n bs)

front : (t : Text) → 0 < length t → 1 ≤ said_len t → unescaped t ≡ said t ∷ unescaped (drop (said_len t) t)
front [] some len = absurd (omega arith)
front (b ∷ bs) some len = ap (λ (u : Text). said (b ∷ bs) ∷ u) (behind (said_len (b ∷ bs)) b bs len)

module _ (left name : Text) (i : ℕ) (d : ℕ) (total : Bool) (within : i < length name) (so_far : bytes_eq (unescaped left) (drop i name) ≡ total) where
  pub over : length left ≡ 0 → false ≡ total
  over none = by left none so_far
    where
      by : (t : Text) → length t ≡ 0 → bytes_eq (unescaped t) (drop i name) ≡ total → false ≡ total
      by [] e is = ap (λ (l : List ℕ). bytes_eq [] l) (sym (drop-cons name i d within)) ∙ is
      by (b ∷ bs) e is = absurd (omega arith)

  module _ (some : 0 < length left) (len : 1 ≤ said_len left) where
    compared : (nat_eq (said left) (get_or name i d) && bytes_eq (unescaped (drop (said_len left) left)) (drop (suc i) name)) ≡ total
    compared = sym (ap (λ (l : List ℕ). bytes_eq l (get_or name i d ∷ drop (suc i) name)) (front left some len)) ∙ sym (ap (bytes_eq (unescaped left)) (drop-cons name i d within)) ∙ so_far

    pub differs : nat_eq (said left) (get_or name i d) ≡ false → false ≡ total
    differs e = ap (λ (b : Bool). b && bytes_eq (unescaped (drop (said_len left) left)) (drop (suc i) name)) (sym e) ∙ compared

    pub goes_on : nat_eq (said left) (get_or name i d) ≡ true → bytes_eq (unescaped (drop (said_len left) left)) (drop (suc i) name) ≡ total
    goes_on e = ap (λ (b : Bool). b && bytes_eq (unescaped (drop (said_len left) left)) (drop (suc i) name)) (sym e) ∙ compared

pub unequal : (a b : ℕ) → (a ≡ b → ⊥) → nat_eq a b ≡ false
unequal a b other = by (nat_eq a b) refl
  where
    by : (t : Bool) → nat_eq a b ≡ t → t ≡ false
    by true e = absurd (other (eqb-true a b e))
    by false e = refl

pub some_len : (t : Text) → 1 ≤ said_len t
unfolding said_len
some_len t = by (is_escaped t)
  where
    by : (b : Bool) → 1 ≤ (if b then 3 else 1)
    by true = omega arith
    by false = omega arith

-- where the name is over, so is what is written, or it says more
pub all_read : (left name : Text) (i : ℕ) (total : Bool) → length name ≤ i → bytes_eq (unescaped left) (drop i name) ≡ total → nat_eq (length left) 0 ≡ total
all_read left name i total past so_far = is_over left ∙ ap (bytes_eq (unescaped left)) (sym (drop_all i name past)) ∙ so_far
  where
    is_over : (t : Text) → nat_eq (length t) 0 ≡ bytes_eq (unescaped t) []
    is_over [] = refl
    is_over (b ∷ bs) = unequal (suc (length bs)) 0 (λ e. absurd (omega arith))

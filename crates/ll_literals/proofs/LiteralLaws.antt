-- What integers a width has.
use Rattle.std.proofs.Common.{◌≡◌, ◌≤◌, ◌<◌, ◌+◌, ◌-◌, ◌*◌, ◌/◌, ◌^◌, ◌↔◌, ℕ, zero, suc, Bool, true, false, ◌&&◌, ◌==◌, nat_lt, nat_le, if◌then◌else◌, Option, Some, None, pow-suc, refl, sym, ap, subst, ◌∙◌, arith}
use Rattle.std.proofs.lemmas.Bool.{and_from, and_parts, leb-true, leb-false, ltb-true, ltb-false, le-leb, lt-ltb, eqb-true, ne_eqb}
use Rattle.std.proofs.lemmas.Nat.{pow_pos}
use Rattle.std.proofs.Math.Nat.{pow-le-pow_right}
use Rattle.llvm_core.specs.Parts.{IsIntAt}
use Rattle.ll_literals.specs.Numbers.{up_to}
use Rattle.ll_literals.specs.Literals.{if_number, at_width, negative_at_width}

-- ---- powers

wider : (w : ℕ) → w ≤ 128 → 2 ^ w ≤ 2 ^ 128
wider w most = pow-le-pow_right {n = 2} (omega arith) {i = w} {j = 128} most

wide : (w : ℕ) → 128 ≤ w → 2 ^ 128 ≤ 2 ^ w
wide w least = pow-le-pow_right {n = 2} (omega arith) {i = 128} {j = w} least

twice : (w : ℕ) → 1 ≤ w → 2 ^ w ≡ 2 * 2 ^ (w - 1)
twice zero h = absurd (omega arith)
twice (suc w) h = let e : suc w - 1 ≡ w = omega arith in rw e (omega (arith, pow-suc 2 w))

pub nonzero : (n : ℕ) → ¬ (n ≡ 0) → 1 ≤ n
nonzero n e = omega (arith, e)

-- the size of a width of at most 128 bits
pub size_by : (w g : ℕ) → (w < 128 → g + 1 ≡ 2 ^ w) → (128 ≤ w → g + 1 ≡ 2 ^ 128) → w ≤ 128 → g + 1 ≡ 2 ^ w
size_by w g bits most le = by (nat_lt w 128) refl
  where
    by : (b : Bool) → nat_lt w 128 ≡ b → g + 1 ≡ 2 ^ w
    by true e = bits (ltb-true w 128 e)
    by false e = let ge = ltb-false w 128 e in let same : w ≡ 128 = omega (arith, ge, le) in most ge ∙ ap (λ (k : ℕ). 2 ^ k) (sym same)

-- half of what is one less than a power
pub half_by : (w g n : ℕ) → 1 ≤ w → g + 1 ≡ 2 ^ w → n ≤ g / 2 + 1 ↔ 2 * n ≤ 2 ^ w
half_by w g n some is = let two = twice w some in let pos = pow_pos (w - 1) in (λ h. omega (arith, is, two, h, pos), λ h. omega (arith, is, two, h, pos))

-- ---- natural numbers

same_by : (a b : Bool) → (a ≡ true → b ≡ true) → (b ≡ true → a ≡ true) → a ≡ b
same_by true b to from = sym (to refl)
same_by false true to from = from refl
same_by false false to from = refl

module _ (w g : ℕ) (bits : w < 128 → g + 1 ≡ 2 ^ w) (most : 128 ≤ w → g + 1 ≡ 2 ^ 128) where
  at_most : (n : ℕ) → n ≤ g → IsIntAt w n
  at_most n h = by (nat_lt w 128) refl
    where
      by : (b : Bool) → nat_lt w 128 ≡ b → IsIntAt w n
      by true e = let lt = ltb-true w 128 e in let is = bits lt in let more = wider w (omega (arith, lt)) in (omega (arith, is, h), omega (arith, is, h, more))
      by false e = let le = ltb-false w 128 e in let is = most le in let more = wide w le in (omega (arith, is, h, more), omega (arith, is, h))

  below : (n : ℕ) → IsIntAt w n → n ≤ g
  below n h = by (nat_lt w 128) refl
    where
      by : (b : Bool) → nat_lt w 128 ≡ b → n ≤ g
      by true e = let is = bits (ltb-true w 128 e) in let one = h.0 in omega (arith, is, one)
      by false e = let is = most (ltb-false w 128 e) in let one = h.1 in omega (arith, is, one)

  tests_same : (n : ℕ) → nat_le n g ≡ (nat_lt n (2 ^ w) && nat_lt n (2 ^ 128))
  tests_same n = same_by (nat_le n g) (nat_lt n (2 ^ w) && nat_lt n (2 ^ 128))
      (λ e. let h = at_most n (leb-true n g e) in and_from (nat_lt n (2 ^ w)) (nat_lt n (2 ^ 128)) (lt-ltb n (2 ^ w) h.0) (lt-ltb n (2 ^ 128) h.1))
      (λ e. let h = and_parts (nat_lt n (2 ^ w)) (nat_lt n (2 ^ 128)) e in le-leb n g (below n (ltb-true n (2 ^ w) h.0, ltb-true n (2 ^ 128) h.1)))

  pub natural_is : (o : Option ℕ) → up_to g o ≡ if_number (at_width w) o
  natural_is None = refl
  natural_is (Some n) = ap (λ (b : Bool). if b then Some n else None) (tests_same n)

-- ---- negative ones

module _ (w low : ℕ) (none : 128 < w → low ≡ 0) (half : w ≤ 128 → (n : ℕ) → n ≤ low ↔ 2 * n ≤ 2 ^ w) where
  -- past the bound there is none
  past : (n : ℕ) → low < n → negative_at_width w n ≡ None
  past n more = by (n == 0) (nat_le w 128) (nat_le (2 * n) (2 ^ w)) refl refl refl
    where
      by : (z a b : Bool) → (n == 0) ≡ z → nat_le w 128 ≡ a → nat_le (2 * n) (2 ^ w) ≡ b → (if z then Some 0 else (if a && b then Some (2 ^ w - n) else None)) ≡ None
      by true a b e f g = let no = eqb-true n 0 e in absurd (omega (arith, no, more))
      by false true true e f g = let le = (half (leb-true w 128 f) n).1 (leb-true (2 * n) (2 ^ w) g) in absurd (omega (arith, le, more))
      by false true false e f g = refl
      by false false b e f g = refl

  -- up to it there is one
  within : (n : ℕ) → n ≤ low → 0 < n → (w ≤ 128) × (2 * n ≤ 2 ^ w)
  within n le some = by (nat_le w 128) refl
    where
      by : (b : Bool) → nat_le w 128 ≡ b → (w ≤ 128) × (2 * n ≤ 2 ^ w)
      by true e = let h = leb-true w 128 e in (h, (half h n).0 le)
      by false e = let zero = none (leb-false w 128 e) in absurd (omega (arith, zero, le, some))

  pub negative_none : (o : Option ℕ) → up_to low o ≡ None → None ≡ if_number (negative_at_width w) o
  negative_none None is = refl
  negative_none (Some n) is = by (nat_le n low) refl
    where
      by : (b : Bool) → nat_le n low ≡ b → None ≡ negative_at_width w n
      by true e = absurd (let some : Some n ≡ None = ap (λ (b : Bool). if b then Some n else None) (sym e) ∙ is in cc)
      by false e = sym (past n (leb-false n low e))

  -- what was read is a number up to it
  read : (o : Option ℕ) (n : ℕ) → up_to low o ≡ Some n → (o ≡ Some n) × (n ≤ low)
  read None n is = absurd cc
  read (Some m) n is = by (nat_le m low) refl
    where
      by : (b : Bool) → nat_le m low ≡ b → (Some m ≡ Some n) × (n ≤ low)
      by true e = let same : Some m ≡ Some n = ap (λ (b : Bool). if b then Some m else None) (sym e) ∙ is in let one : m ≡ n = cc in (same, subst (λ (k : ℕ). k ≤ low) one (leb-true m low e))
      by false e = absurd (let no : None ≡ Some n = ap (λ (b : Bool). if b then Some m else None) (sym e) ∙ is in cc)

  pub negative_zero : (o : Option ℕ) (n : ℕ) → up_to low o ≡ Some n → n ≡ 0 → Some 0 ≡ if_number (negative_at_width w) o
  negative_zero o n is none_left = let r = read o n is in rw (r.0, none_left) refl

  pub negative_some : (o : Option ℕ) (n g : ℕ) → (w < 128 → g + 1 ≡ 2 ^ w) → (128 ≤ w → g + 1 ≡ 2 ^ 128) → up_to low o ≡ Some n → 0 < n → Some (g - (n - 1)) ≡ if_number (negative_at_width w) o
  negative_some o n g bits most is some =
      let r = read o n is in
      let h = within n r.1 some in
      let size = size_by w g bits most h.0 in
      let value : g - (n - 1) ≡ 2 ^ w - n = omega (arith, size, some) in
      let nonzero : (n == 0) ≡ false = by_zero n some in
      rw (r.0, nonzero, le-leb w 128 h.0, le-leb (2 * n) (2 ^ w) h.1, value) refl
    where
      by_zero : (n : ℕ) → 0 < n → (n == 0) ≡ false
      by_zero zero h = absurd (omega arith)
      by_zero (suc n) h = ne_eqb (suc n) 0 (λ e. omega (arith, e))

  -- so it fits
  pub read_small : (o : Option ℕ) (n g : ℕ) → (w < 128 → g + 1 ≡ 2 ^ w) → (128 ≤ w → g + 1 ≡ 2 ^ 128) → up_to low o ≡ Some n → 0 < n → n - 1 ≤ g
  read_small o n g bits most is some =
      let r = read o n is in
      let h = within n r.1 some in
      let size = size_by w g bits most h.0 in
      let fits = h.1 in
      omega (arith, size, fits, some)

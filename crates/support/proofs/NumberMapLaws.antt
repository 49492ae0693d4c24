-- Maps by numbers: what a slot that is set or made does to the value of each number.
use Rattle.std.proofs.Common.{◌≡◌, ◌≢◌, ◌<◌, ◌≤◌, ◌+◌, ◌-◌, ℕ, zero, suc, Bool, true, false, nat_eq, nat_le, if◌then◌else◌, List, [], ◌∷◌, ◌++◌, Option, Some, None, length, slice_get, slice_set, sym, ap, ◌∙◌, refl, arith}
use Rattle.support.proofs.ListLaws.{slice_get-push, slice_get-set_same, slice_get-set_other, item_there}
use Rattle.support.proofs.OptionLaws.{or_else-none}
use Rattle.support.specs.Options.{or_else}
use Rattle.support.specs.Maps.{MapOf}
use Rattle.support.specs.NumberMaps.{far_at, slot_at, slot_or}

-- ---- in a list of slots

pushed_none : {V : Type 0} (xs : List (Option V)) (i : ℕ) → slot_or (slice_get (xs ++ None ∷ []) i) None ≡ slot_or (slice_get xs i) None
pushed_none [] zero = refl
pushed_none [] (suc i) = refl
pushed_none (x ∷ xs) zero = refl
pushed_none (x ∷ xs) (suc i) = pushed_none xs i

pushed_other : {V : Type 0} (xs : List (Option V)) (v : V) (i : ℕ) → i ≢ length xs → slot_or (slice_get (xs ++ Some v ∷ []) i) None ≡ slot_or (slice_get xs i) None
pushed_other [] v zero ne = absurd (ne refl)
pushed_other [] v (suc i) ne = refl
pushed_other (x ∷ xs) v zero ne = refl
pushed_other (x ∷ xs) v (suc i) ne = pushed_other xs v i (λ e. ne (ap suc e))

-- ---- by numbers

le_true : (a b : ℕ) → a ≤ b → nat_le a b ≡ true
le_true a b h = grind (arith, h)

-- a number from the first on has the slot at its distance
pub slot_from : {V : Type 0} (base : ℕ) (xs : List (Option V)) (q : ℕ) → base ≤ q → slot_at base xs q ≡ slice_get xs (q - base)
slot_from base xs q h = ap (λ (t : Bool). if t then slice_get xs (q - base) else None) (le_true base q h)

-- an empty slot behind the last says nothing
pub padded : {V : Type 0} (base : ℕ) (xs : List (Option V)) (q : ℕ) → slot_or (slot_at base (xs ++ None ∷ []) q) None ≡ slot_or (slot_at base xs q) None
padded {V} base xs q = by (nat_le base q)
  where
    by : (t : Bool) → slot_or (if t then slice_get (xs ++ None ∷ []) (q - base) else None) None ≡ slot_or (if t then slice_get xs (q - base) else None) None
    by false = refl
    by true = pushed_none xs (q - base)

-- a slot behind the last with a value
pub appended : {V : Type 0} (base : ℕ) (xs : List (Option V)) (v : V) (n q : ℕ) → n ≡ base + length xs
    → slot_or (slot_at base (xs ++ Some v ∷ []) q) None ≡ (if nat_eq n q then Some v else slot_or (slot_at base xs q) None)
appended {V} base xs v n q e = by (nat_eq n q) refl (nat_le base q) refl
  where
    by : (t : Bool) → nat_eq n q ≡ t → (u : Bool) → nat_le base q ≡ u
        → slot_or (if u then slice_get (xs ++ Some v ∷ []) (q - base) else None) None ≡ (if t then Some v else slot_or (if u then slice_get xs (q - base) else None) None)
    by true same true from = ap (λ (s : Option (Option V)). slot_or s None) (slice_get-push xs (Some v) (q - base) (grind (arith, same, e)))
    by true same false from = absurd (grind (arith, same, from, e))
    by false same false from = refl
    by false same true from = pushed_other xs v (q - base) (λ h. absurd (grind (arith, same, from, e, h)))

-- a slot that gets a value
pub replaced : {V : Type 0} (base : ℕ) (xs : List (Option V)) (v : V) (f : Option V) (n at q : ℕ) → base ≤ n → at ≡ n - base → at < length xs
    → slot_or (slot_at base (slice_set xs at (Some v)) q) f ≡ (if nat_eq n q then Some v else slot_or (slot_at base xs q) f)
replaced {V} base xs v f n at q least e within = by (nat_eq n q) refl (nat_le base q) refl
  where
    there : (x : Option V) × (slice_get xs at ≡ Some x)
    there = item_there xs at within

    by : (t : Bool) → nat_eq n q ≡ t → (u : Bool) → nat_le base q ≡ u
        → slot_or (if u then slice_get (slice_set xs at (Some v)) (q - base) else None) f ≡ (if t then Some v else slot_or (if u then slice_get xs (q - base) else None) f)
    by true same true from = ap (λ (i : ℕ). slot_or (slice_get (slice_set xs at (Some v)) i) f) (grind (arith, same, e)) ∙ ap (λ (s : Option (Option V)). slot_or s f) (slice_get-set_same xs at there.0 (Some v) there.1)
    by true same false from = absurd (grind (arith, same, from, least))
    by false same false from = refl
    by false same true from = ap (λ (s : Option (Option V)). slot_or s f) (slice_get-set_other xs at (q - base) (Some v) (λ h. absurd (grind (arith, same, from, least, e, h))))

-- slots of which there are none may begin anywhere
pub unslotted : {V : Type 0} (a b : ℕ) (xs : List (Option V)) (f : Option V) (q : ℕ) → xs ≡ [] → slot_or (slot_at a xs q) f ≡ slot_or (slot_at b xs q) f
unslotted {V} a b xs f q e = none a ∙ sym (none b)
  where
    gone : (s : List (Option V)) → s ≡ [] → (i : ℕ) → slot_or (slice_get s i) f ≡ f
    gone [] h i = refl
    gone (x ∷ s) h i = cc

    none : (c : ℕ) → slot_or (slot_at c xs q) f ≡ f
    none c = by (nat_le c q)
      where
        by : (t : Bool) → slot_or (if t then slice_get xs (q - c) else None) f ≡ f
        by false = refl
        by true = gone xs e (q - c)

-- slots that got one more, with nothing kept beside them
pub grown : {V : Type 0} (base : ℕ) (xs ys : List (Option V)) (far : Option (MapOf ℕ V)) (n : ℕ) (v : V) → far ≡ None
    → ((q : ℕ) → slot_or (slot_at base ys q) None ≡ (if nat_eq n q then Some v else slot_or (slot_at base xs q) None))
    → (q : ℕ) → slot_or (slot_at base ys q) (far_at far q) ≡ (if nat_eq n q then Some v else slot_or (slot_at base xs q) (far_at far q))
grown {V} base xs ys far n v none h q = ap (λ (f : Option (MapOf ℕ V)). slot_or (slot_at base ys q) (far_at f q)) none ∙ h q
    ∙ ap (λ (f : Option (MapOf ℕ V)). if nat_eq n q then Some v else slot_or (slot_at base xs q) (far_at f q)) (sym none)

-- ---- a value that is set

pub set_same : {V : Type 0} (old new : ℕ → Option V) (n : ℕ) (v : V) → ((q : ℕ) → new q ≡ (if nat_eq n q then Some v else old q)) → new n ≡ Some v
set_same {V} old new n v h = h n ∙ ap (λ (t : Bool). if t then Some v else old n) (let e : nat_eq n n ≡ true = grind arith in e)

pub set_other : {V : Type 0} (old new : ℕ → Option V) (n : ℕ) (v : V) → ((q : ℕ) → new q ≡ (if nat_eq n q then Some v else old q)) → (q : ℕ) → q ≢ n → new q ≡ old q
set_other {V} old new n v h q apart = h q ∙ by (nat_eq n q) refl
  where
    by : (t : Bool) → nat_eq n q ≡ t → (if t then Some v else old q) ≡ old q
    by true same = absurd (apart (let e : q ≡ n = grind (arith, same) in e))
    by false same = refl

-- ---- a value that is noted where there is none

pub noted : {V : Type 0} (old new : ℕ → Option V) (n : ℕ) (v : V) → old n ≡ None → ((q : ℕ) → new q ≡ (if nat_eq n q then Some v else old q))
    → (q : ℕ) → new q ≡ or_else (old q) (if nat_eq n q then Some v else None)
noted {V} old new n v none h q = h q ∙ by (nat_eq n q) refl
  where
    by : (t : Bool) → nat_eq n q ≡ t → (if t then Some v else old q) ≡ or_else (old q) (if t then Some v else None)
    by true same = ap (λ (o : Option V). or_else o (Some v)) (sym none ∙ ap old (let e : n ≡ q = grind (arith, same) in e))
    by false same = sym (or_else-none (old q))

pub stays : {V : Type 0} (old : ℕ → Option V) (n : ℕ) (v w : V) → old n ≡ Some w → (q : ℕ) → old q ≡ or_else (old q) (if nat_eq n q then Some v else None)
stays {V} old n v w some q = by (nat_eq n q) refl
  where
    by : (t : Bool) → nat_eq n q ≡ t → old q ≡ or_else (old q) (if t then Some v else None)
    by true same = let e : n ≡ q = grind (arith, same) in let there : old q ≡ Some w = ap old (sym e) ∙ some in there ∙ ap (λ (o : Option V). or_else o (Some v)) (sym there)
    by false same = sym (or_else-none (old q))

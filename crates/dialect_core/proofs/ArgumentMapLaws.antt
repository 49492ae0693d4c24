-- Maps of arguments: a slot more, a slot replaced, an argument noted.
use Rattle.std.proofs.Common.{◌≡◌, ◌≤◌, ◌+◌, ℕ, zero, suc, Bool, true, false, nat_eq, if◌then◌else◌, List, [], ◌∷◌, ◌++◌, Option, Some, None, length, slice_get, slice_set, refl, sym, ap, ap₂, ◌∙◌, eqb-true, arith}
use Rattle.std.specs.Prelude.{option_and_then, ◌&&◌}
use Rattle.std.proofs.lemmas.Bool.{and_parts, cond-true, cond-false}
use Rattle.std.proofs.lemmas.Option.{slice_get_past}
use Rattle.support.specs.Maps.{MapOf}
use Rattle.support.specs.Options.{or_else}
use Rattle.support.proofs.ListLaws.{slice_get-push, slice_get-set_same, slice_get-set_other}
use Rattle.dialect_core.specs.declared.numbers.BlockRef.{BlockRef}
use Rattle.dialect_core.specs.declared.ops.Value.{Value}
use Rattle.dialect_core.specs.declared.argument_map.Slot.{Slot}
use Rattle.dialect_core.specs.ArgumentMaps.{is_slot_of, said_by, slotted, far_at}
use Rattle.dialect_core.proofs.TestLemmas.{same_block}

-- what the tests say of two arguments that are one
same_argument : (c b : BlockRef) (j i : ℕ) → nat_eq c.0 b.0 && nat_eq j i ≡ true → (c ≡ b) × (j ≡ i)
same_argument c b j i h = let p = and_parts (nat_eq c.0 b.0) (nat_eq j i) h in (same_block c b (eqb-true c.0 b.0 p.0), eqb-true j i p.1)

-- a slot behind the others says nothing of what is not its own
other_behind : {V : Type 0} (xs : List (Slot V)) (x : Slot V) (b : BlockRef) (i k : ℕ) → is_slot_of x b i ≡ false
    → option_and_then (λ (y : Slot V). said_by y b i) (slice_get (xs ++ x ∷ []) k) ≡ option_and_then (λ (y : Slot V). said_by y b i) (slice_get xs k)
other_behind [] x b i zero miss = cond-false (is_slot_of x b i) (Some x.to) None miss
other_behind [] x b i (suc k) miss = refl
other_behind (y ∷ xs) x b i zero miss = refl
other_behind (y ∷ xs) x b i (suc k) miss = other_behind xs x b i k miss

other_more : {V : Type 0} (xs : List (Slot V)) (x : Slot V) (o : Option ℕ) (b : BlockRef) (i : ℕ) → is_slot_of x b i ≡ false → slotted (xs ++ x ∷ []) o b i ≡ slotted xs o b i
other_more xs x None b i miss = refl
other_more xs x (Some s) b i miss = other_behind xs x b i (s + i) miss

own_more : {V : Type 0} (xs : List (Slot V)) (x : Slot V) (s : ℕ) (b : BlockRef) (i : ℕ) → is_slot_of x b i ≡ true → s + i ≡ length xs → slotted (xs ++ x ∷ []) (Some s) b i ≡ Some x.to
own_more {V} xs x s b i hit at =
    ap (option_and_then (λ (y : Slot V). said_by y b i)) (slice_get-push xs x (s + i) at) ∙ cond-true (is_slot_of x b i) (Some x.to) None hit

-- a slot behind those of its block
pub pushed : {V : Type 0} (starts : ℕ → Option ℕ) (xs ys : List (Slot V)) (far : Option (MapOf Value V)) (c : BlockRef) (j : ℕ) (to : V) (s : ℕ) → starts c.0 ≡ Some s → s + j ≡ length xs → ys ≡ xs ++ record { block = c; place = j; to = to } ∷ [] → (b : BlockRef) (i : ℕ)
    → or_else (slotted ys (starts b.0) b i) (far_at far b i) ≡ (if nat_eq c.0 b.0 && nat_eq j i then Some to else or_else (slotted xs (starts b.0) b i) (far_at far b i))
pushed {V} starts xs ys far c j to s start at more b i = ap (λ (zs : List (Slot V)). or_else (slotted zs (starts b.0) b i) (far_at far b i)) more ∙ by (nat_eq c.0 b.0 && nat_eq j i) refl
  where
    x : Slot V
    x = record { block = c; place = j; to = to }

    by : (t : Bool) → nat_eq c.0 b.0 && nat_eq j i ≡ t → or_else (slotted (xs ++ x ∷ []) (starts b.0) b i) (far_at far b i) ≡ (if t then Some to else or_else (slotted xs (starts b.0) b i) (far_at far b i))
    by true hit =
        let p = same_argument c b j i hit in
        ap (λ (o : Option V). or_else o (far_at far b i))
        (ap (λ (o : Option ℕ). slotted (xs ++ x ∷ []) o b i) (sym (ap (λ (d : BlockRef). starts d.0) p.0) ∙ start) ∙ own_more xs x s b i hit (sym (ap (λ (n : ℕ). s + n) p.1) ∙ at))
    by false miss = ap (λ (o : Option V). or_else o (far_at far b i)) (other_more xs x (starts b.0) b i miss)

-- the first slot of a block
pub begun : {V : Type 0} (old new : ℕ → Option ℕ) (xs ys : List (Slot V)) (far : Option (MapOf Value V)) (c : BlockRef) (j : ℕ) (to : V) (n : ℕ) → n ≡ length xs → j ≡ 0 → old c.0 ≡ None
    → ((q : ℕ) → new q ≡ (if nat_eq c.0 q then Some n else old q)) → ys ≡ xs ++ record { block = c; place = j; to = to } ∷ [] → (b : BlockRef) (i : ℕ)
    → or_else (slotted ys (new b.0) b i) (far_at far b i) ≡ (if nat_eq c.0 b.0 && nat_eq j i then Some to else or_else (slotted xs (old b.0) b i) (far_at far b i))
begun {V} old new xs ys far c j to n len front none set more b i = ap (λ (zs : List (Slot V)). or_else (slotted zs (new b.0) b i) (far_at far b i)) more ∙ by (nat_eq c.0 b.0 && nat_eq j i) refl
  where
    x : Slot V
    x = record { block = c; place = j; to = to }

    -- no slot is behind the last
    unheld : (t : Bool) → nat_eq c.0 b.0 ≡ t → slotted xs (if t then Some n else old b.0) b i ≡ slotted xs (old b.0) b i
    unheld true same =
        ap (option_and_then (λ (y : Slot V). said_by y b i)) (slice_get_past xs (n + i) (omega (arith, len)))
        ∙ ap (λ (o : Option ℕ). slotted xs o b i) (sym (sym (ap old (eqb-true c.0 b.0 same)) ∙ none))
    unheld false differs = refl

    by : (t : Bool) → nat_eq c.0 b.0 && nat_eq j i ≡ t → or_else (slotted (xs ++ x ∷ []) (new b.0) b i) (far_at far b i) ≡ (if t then Some to else or_else (slotted xs (old b.0) b i) (far_at far b i))
    by true hit =
        let p = and_parts (nat_eq c.0 b.0) (nat_eq j i) hit in
        let first : j ≡ i = eqb-true j i p.1 in
        ap (λ (o : Option V). or_else o (far_at far b i))
        (ap (λ (o : Option ℕ). slotted (xs ++ x ∷ []) o b i) (set b.0 ∙ cond-true (nat_eq c.0 b.0) (Some n) (old b.0) p.0) ∙ own_more xs x n b i hit (omega (arith, first, front, len)))
    by false miss =
        ap (λ (o : Option V). or_else o (far_at far b i))
        (other_more xs x (new b.0) b i miss ∙ ap (λ (o : Option ℕ). slotted xs o b i) (set b.0) ∙ unheld (nat_eq c.0 b.0) refl)

-- a slot that is replaced by another of the same argument
other_set : {V : Type 0} (xs : List (Slot V)) (at : ℕ) (old new : Slot V) (b : BlockRef) (i : ℕ) → slice_get xs at ≡ Some old → is_slot_of old b i ≡ false → is_slot_of new b i ≡ false → (k : ℕ)
    → option_and_then (λ (y : Slot V). said_by y b i) (slice_get (slice_set xs at new) k) ≡ option_and_then (λ (y : Slot V). said_by y b i) (slice_get xs k)
other_set {V} xs at old new b i there not_old not_new k = by (nat_eq k at) refl
  where
    says : Option (Slot V) → Option V
    says = option_and_then (λ (y : Slot V). said_by y b i)

    by : (t : Bool) → nat_eq k at ≡ t → says (slice_get (slice_set xs at new) k) ≡ says (slice_get xs k)
    by true same =
        let e : k ≡ at = eqb-true k at same in
        ap (λ (n : ℕ). says (slice_get (slice_set xs at new) n)) e ∙ ap says (slice_get-set_same xs at old new there) ∙ cond-false (is_slot_of new b i) (Some new.to) None not_new
        ∙ sym (ap (λ (n : ℕ). says (slice_get xs n)) e ∙ ap says there ∙ cond-false (is_slot_of old b i) (Some old.to) None not_old)
    by false differs = ap says (slice_get-set_other xs at k new (λ e. absurd (grind (arith, differs, e))))

pub replaced : {V : Type 0} (starts : ℕ → Option ℕ) (xs : List (Slot V)) (far : Option (MapOf Value V)) (c : BlockRef) (j : ℕ) (to : V) (s : ℕ) (old : Slot V) → starts c.0 ≡ Some s → slice_get xs (s + j) ≡ Some old → is_slot_of old c j ≡ true → (b : BlockRef) (i : ℕ)
    → or_else (slotted (slice_set xs (s + j) (record { block = c; place = j; to = to })) (starts b.0) b i) (far_at far b i) ≡ (if nat_eq c.0 b.0 && nat_eq j i then Some to else or_else (slotted xs (starts b.0) b i) (far_at far b i))
replaced {V} starts xs far c j to s old start there own b i = by (nat_eq c.0 b.0 && nat_eq j i) refl
  where
    x : Slot V
    x = record { block = c; place = j; to = to }

    others : (o : Option ℕ) → nat_eq c.0 b.0 && nat_eq j i ≡ false → slotted (slice_set xs (s + j) x) o b i ≡ slotted xs o b i
    others None miss = refl
    others (Some n) miss =
        let p = same_argument old.block c old.place j own in
        other_set xs (s + j) old x b i there (ap₂ (λ (d : BlockRef) (k : ℕ). nat_eq d.0 b.0 && nat_eq k i) p.0 p.1 ∙ miss) miss (n + i)

    by : (t : Bool) → nat_eq c.0 b.0 && nat_eq j i ≡ t → or_else (slotted (slice_set xs (s + j) x) (starts b.0) b i) (far_at far b i) ≡ (if t then Some to else or_else (slotted xs (starts b.0) b i) (far_at far b i))
    by true hit =
        let p = same_argument c b j i hit in
        ap (λ (o : Option V). or_else o (far_at far b i))
        (ap (λ (o : Option ℕ). slotted (slice_set xs (s + j) x) o b i) (sym (ap (λ (d : BlockRef). starts d.0) p.0) ∙ start)
        ∙ ap (λ (n : ℕ). option_and_then (λ (y : Slot V). said_by y b i) (slice_get (slice_set xs (s + j) x) (s + n))) (sym p.1)
        ∙ ap (option_and_then (λ (y : Slot V). said_by y b i)) (slice_get-set_same xs (s + j) old x there) ∙ cond-true (is_slot_of x b i) (Some to) None hit)
    by false miss = ap (λ (o : Option V). or_else o (far_at far b i)) (others (starts b.0) miss)

-- an argument whose slot would be behind the last, or is another's
pub without_slot : {V : Type 0} (xs : List (Slot V)) (s : ℕ) (b : BlockRef) (i : ℕ) → length xs ≤ s + i → slotted xs (Some s) b i ≡ None
without_slot {V} xs s b i past = ap (option_and_then (λ (y : Slot V). said_by y b i)) (slice_get_past xs (s + i) past)

pub slot_of_another : {V : Type 0} (xs : List (Slot V)) (s : ℕ) (b : BlockRef) (i : ℕ) (x : Slot V) → slice_get xs (s + i) ≡ Some x → is_slot_of x b i ≡ false → slotted xs (Some s) b i ≡ None
slot_of_another {V} xs s b i x there miss = ap (option_and_then (λ (y : Slot V). said_by y b i)) there ∙ cond-false (is_slot_of x b i) (Some x.to) None miss

-- an argument that was not mapped
pub argument_noted : {V : Type 0} (old new : BlockRef → ℕ → Option V) (c : BlockRef) (j : ℕ) (v : V) → old c j ≡ None
    → ((b : BlockRef) (i : ℕ) → new b i ≡ (if nat_eq c.0 b.0 && nat_eq j i then Some v else old b i)) → (b : BlockRef) (i : ℕ) → new b i ≡ or_else (old b i) (if nat_eq c.0 b.0 && nat_eq j i then Some v else None)
argument_noted {V} old new c j v none set b i = set b i ∙ by (nat_eq c.0 b.0 && nat_eq j i) refl
  where
    right : (o : Option V) → o ≡ or_else o None
    right None = refl
    right (Some w) = refl

    by : (t : Bool) → nat_eq c.0 b.0 && nat_eq j i ≡ t → (if t then Some v else old b i) ≡ or_else (old b i) (if t then Some v else None)
    by true hit = let p = same_argument c b j i hit in ap (λ (o : Option V). or_else o (Some v)) (sym none ∙ ap₂ old p.0 p.1)
    by false miss = right (old b i)

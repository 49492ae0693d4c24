-- Numbers that are noted one after another.
use Rattle.std.proofs.Common.{◌≡◌, ℕ, ◌+◌, ◌<◌, ◌≤◌, Bool, true, false, nat_eq, nat_lt, ◌==◌, if◌then◌else◌, cond, List, [], ◌∷◌, ◌++◌, length, length-append, Option, Some, None, refl, ap, sym, ◌∙◌, subst, eq-eqb, ne_eqb, eqb-true, lt-ltb, append_assoc, arith}
use Rattle.std.proofs.lemmas.Bool.Decides.{nat_tests}
use Rattle.std.proofs.lemmas.List.{append-nil}
use Rattle.support.specs.Options.{or_else}
use Rattle.ll_literals.specs.Text.{Text}
use Rattle.ll_print.specs.declared.numbers.Numbers.{Numbers}
use Rattle.ll_print.specs.declared.places.Place.{Place}
use Rattle.ll_print.specs.declared.places.Place.TheVariants as P
use Rattle.ll_print.specs.Printing.{Unnamed, same_unnamed, if_unnamed}
use Rattle.ll_print.specs.Numbering.{thing_of, same_place, noted_at, or_number, place_in, IsNumbering, Counts}
use Rattle.ll_print.proofs.PositionLaws.{position, position_le, position_front, position_behind, position_cons, position_here}

-- ---- places

place_there : (xs : List Unnamed) (x : Unnamed) → position x xs < length xs → place_in xs x ≡ Some (position x xs)
place_there xs x h = rw (lt-ltb (position x xs) (length xs) h) refl

place_not : (xs : List Unnamed) (x : Unnamed) → length xs ≤ position x xs → place_in xs x ≡ None
place_not xs x h = let e : nat_lt (position x xs) (length xs) ≡ false = grind (arith, nat_tests) in rw e refl

-- the number that is printed of a thing
pub place_number : (xs : List Unnamed) (x : Unnamed) → or_number (place_in xs x) (length xs) ≡ position x xs
place_number xs x = by (nat_lt (position x xs) (length xs)) refl
  where
    by : (b : Bool) → nat_lt (position x xs) (length xs) ≡ b → or_number (cond b (Some (position x xs)) None) (length xs) ≡ position x xs
    by true e = refl
    by false e = let g : length xs ≤ position x xs = grind (arith, nat_tests) in omega (arith, g, position_le x xs)

-- one thing more
pub place_more : (xs : List Unnamed) (y x : Unnamed) → place_in (xs ++ y ∷ []) x ≡ or_else (place_in xs x) (if same_unnamed x y then Some (length xs) else None)
place_more xs y x = by (nat_lt (position x xs) (length xs)) refl
  where
    size : length (xs ++ y ∷ []) ≡ length xs + 1
    size = length-append xs (y ∷ [])

    new : position x xs ≡ length xs → (b : Bool) → same_unnamed x y ≡ b → place_in (xs ++ y ∷ []) x ≡ cond b (Some (length xs)) None
    new h true e =
        let at : position x (xs ++ y ∷ []) ≡ length xs = omega (arith, position_behind x xs (y ∷ []) h, position_here x y [] e) in
        place_there (xs ++ y ∷ []) x (omega (arith, at, size)) ∙ ap (λ (k : ℕ). Some k) at
    new h false e = place_not (xs ++ y ∷ []) x (omega (arith, position_behind x xs (y ∷ []) h, position_cons x y [] e, size))

    by : (b : Bool) → nat_lt (position x xs) (length xs) ≡ b → place_in (xs ++ y ∷ []) x ≡ or_else (cond b (Some (position x xs)) None) (if same_unnamed x y then Some (length xs) else None)
    by true e =
        let h : position x xs < length xs = grind (arith, nat_tests) in
        let at = position_front x xs (y ∷ []) h in
        place_there (xs ++ y ∷ []) x (omega (arith, at, size, h)) ∙ ap (λ (k : ℕ). Some k) at
    by false e = let h : length xs ≤ position x xs = grind (arith, nat_tests) in new (omega (arith, h, position_le x xs)) (same_unnamed x y) refl

eq_sym : (i j : ℕ) → nat_eq i j ≡ nat_eq j i
eq_sym i j = by (nat_eq i j) refl
  where
    by : (b : Bool) → nat_eq i j ≡ b → b ≡ nat_eq j i
    by true e = sym (eq-eqb j i (sym (eqb-true i j e)))
    by false e = sym (ne_eqb j i (λ same. let g : nat_eq i j ≡ true = eq-eqb i j (sym same) in cc))

-- ---- steps

-- the key of a thing was given the number
abbrev pub Notes : Numbers → Numbers → Place → Type 0
Notes old new p = (q : Place) → noted_at new q ≡ or_else (noted_at old q) (if same_place p q then Some old.count else None)

-- keys are equal where the things are
same_key : (p q : Place) → same_place p q ≡ same_unnamed (thing_of q) (thing_of p)
same_key (P.Param i) (P.Param j) = eq_sym i j
same_key (P.Block b) (P.Block c) = eq_sym b.0 c.0
same_key (P.Result i) (P.Result j) = eq_sym i.0 j.0
same_key (P.Param i) (P.Block c) = refl
same_key (P.Param i) (P.Result j) = refl
same_key (P.Block b) (P.Param j) = refl
same_key (P.Block b) (P.Result j) = refl
same_key (P.Result i) (P.Param j) = refl
same_key (P.Result i) (P.Block c) = refl

pub counts_one : (old new : Numbers) (p : Place) → new.function ≡ old.function → new.count ≡ old.count + 1 → Notes old new p → Counts old new (thing_of p ∷ [])
counts_one old new p same count notes = record {
  function = same;
  more = λ xs h. record {
    count = omega (arith, count, h.count, length-append xs (thing_of p ∷ []));
    numbers = λ q.
        let is = same_unnamed (thing_of q) (thing_of p) in
        notes q
        ∙ ap (λ (b : Bool). or_else (noted_at old q) (if b then Some old.count else None)) (same_key p q)
        ∙ ap (λ (o : Option ℕ). or_else o (if is then Some old.count else None)) (h.numbers q)
        ∙ ap (λ (n : ℕ). or_else (place_in xs (thing_of q)) (if is then Some n else None)) h.count
        ∙ sym (place_more xs (thing_of p) (thing_of q));
  };
}

pub counts_none : (old : Numbers) → Counts old old []
counts_none old = record { function = refl; more = λ xs h. subst (IsNumbering old) (sym (append-nil xs)) h }

pub counts_then : (old mid new : Numbers) (xs ys : List Unnamed) → Counts old mid xs → Counts mid new ys → Counts old new (xs ++ ys)
counts_then old mid new xs ys a b = record {
  function = b.function ∙ a.function;
  more = λ zs h. subst (IsNumbering new) (append_assoc zs xs ys) (b.more (zs ++ xs) (a.more zs h));
}

pub counts_unnamed : (old new : Numbers) (n : Text) (x : Unnamed) → (length n == 0) ≡ true → Counts old new (x ∷ []) → Counts old new (if_unnamed n x)
counts_unnamed old new [] x e h = h
counts_unnamed old new (b ∷ bs) x e h = let g : (length (b ∷ bs) == 0) ≡ false = ne_eqb (length (b ∷ bs)) 0 (λ f. omega (arith, f)) in absurd cc

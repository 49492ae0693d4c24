-- Where a thing stands in a list of unnamed things.
use Rattle.std.proofs.Common.{◌≡◌, ℕ, suc, ◌+◌, ◌<◌, ◌≤◌, Bool, true, false, List, [], ◌∷◌, ◌++◌, length, refl, sym, ◌∙◌, arith}
use Rattle.std.specs.List.{position_or_len}
use Rattle.ll_print.specs.Printing.{Unnamed, same_unnamed}

abbrev pub position : Unnamed → List Unnamed → ℕ
position x xs = position_or_len (same_unnamed x) xs

pub position_cons : (x y : Unnamed) (ys : List Unnamed) → same_unnamed x y ≡ false → position x (y ∷ ys) ≡ 1 + position x ys
position_cons x y ys h = rw h (omega arith)

pub position_here : (x y : Unnamed) (ys : List Unnamed) → same_unnamed x y ≡ true → position x (y ∷ ys) ≡ 0
position_here x y ys h = rw h refl

pub position_le : (x : Unnamed) (xs : List Unnamed) → position x xs ≤ length xs
position_le x [] = omega arith
position_le x (y ∷ xs) = by (position_le x xs) (same_unnamed x y) refl
  where
    by : position x xs ≤ length xs → (b : Bool) → same_unnamed x y ≡ b → position x (y ∷ xs) ≤ length (y ∷ xs)
    by o true e = omega (arith, position_here x y xs e)
    by o false e = omega (arith, position_cons x y xs e, o)

-- what stands in a front stands there in the whole
pub position_front : (x : Unnamed) (xs ys : List Unnamed) → position x xs < length xs → position x (xs ++ ys) ≡ position x xs
position_front x [] ys h = absurd (omega arith)
position_front x (y ∷ xs) ys h = by (position_front x xs ys) (same_unnamed x y) refl
  where
    by : (position x xs < length xs → position x (xs ++ ys) ≡ position x xs) → (b : Bool) → same_unnamed x y ≡ b → position x (y ∷ (xs ++ ys)) ≡ position x (y ∷ xs)
    by further true e = position_here x y (xs ++ ys) e ∙ sym (position_here x y xs e)
    by further false e =
        let c = position_cons x y xs e in
        let o = further (omega (arith, c)) in
        omega (arith, c, position_cons x y (xs ++ ys) e, o)

-- and what does not, stands behind it
pub position_behind : (x : Unnamed) (xs ys : List Unnamed) → position x xs ≡ length xs → position x (xs ++ ys) ≡ length xs + position x ys
position_behind x [] ys h = omega arith
position_behind x (y ∷ xs) ys h = by (position_behind x xs ys) (same_unnamed x y) refl
  where
    by : (position x xs ≡ length xs → position x (xs ++ ys) ≡ length xs + position x ys) → (b : Bool) → same_unnamed x y ≡ b → position x (y ∷ (xs ++ ys)) ≡ suc (length xs) + position x ys
    by further true e = absurd (omega (arith, position_here x y xs e))
    by further false e =
        let c = position_cons x y xs e in
        let o = further (omega (arith, c)) in
        omega (arith, position_cons x y (xs ++ ys) e, o)

-- Where a thing stands in a list of unnamed things.
use Rattle.std.proofs.Common.{◌≡◌, ℕ, suc, ◌+◌, ◌≤◌, Bool, true, false, List, [], ◌∷◌, ◌++◌, length, refl, ap, eq-eqb, eqb-true, arith}
use Rattle.std.specs.List.{position_or_len}
use Rattle.ll_said.specs.Naming.{Unnamed, ParamAt, BlockOf, ResultOf, same_unnamed}

abbrev pub position : Unnamed → List Unnamed → ℕ
position x xs = position_or_len (same_unnamed x) xs

pub position_cons : (x y : Unnamed) (ys : List Unnamed) → same_unnamed x y ≡ false → position x (y ∷ ys) ≡ 1 + position x ys
position_cons x y ys h = rw h (omega arith)

pub position_here : (x y : Unnamed) (ys : List Unnamed) → same_unnamed x y ≡ true → position x (y ∷ ys) ≡ 0
position_here x y ys h = rw h refl

pub position_le : (x : Unnamed) (xs : List Unnamed) → position x xs ≤ length xs
position_le x [] = omega arith
position_le x (y ∷ xs) = by (position_le x xs) (same_unnamed x y) refl
  where
    by : position x xs ≤ length xs → (b : Bool) → same_unnamed x y ≡ b → position x (y ∷ xs) ≤ length (y ∷ xs)
    by o true e = omega (arith, position_here x y xs e)
    by o false e = omega (arith, position_cons x y xs e, o)

-- and what does not, stands behind it
pub position_behind : (x : Unnamed) (xs ys : List Unnamed) → position x xs ≡ length xs → position x (xs ++ ys) ≡ length xs + position x ys
position_behind x [] ys h = omega arith
position_behind x (y ∷ xs) ys h = by (position_behind x xs ys) (same_unnamed x y) refl
  where
    by : (position x xs ≡ length xs → position x (xs ++ ys) ≡ length xs + position x ys) → (b : Bool) → same_unnamed x y ≡ b → position x (y ∷ (xs ++ ys)) ≡ suc (length xs) + position x ys
    by further true e = absurd (omega (arith, position_here x y xs e))
    by further false e =
        let c = position_cons x y xs e in
        let o = further (omega (arith, c)) in
        omega (arith, position_cons x y (xs ++ ys) e, o)

pub same_self : (x : Unnamed) → same_unnamed x x ≡ true
same_self (ParamAt i) = eq-eqb i i refl
same_self (BlockOf i) = eq-eqb i i refl
same_self (ResultOf i) = eq-eqb i i refl

pub same_is : (x y : Unnamed) → same_unnamed x y ≡ true → x ≡ y
same_is (ParamAt i) (ParamAt j) h = ap ParamAt (eqb-true i j h)
same_is (BlockOf i) (BlockOf j) h = ap BlockOf (eqb-true i j h)
same_is (ResultOf i) (ResultOf j) h = ap ResultOf (eqb-true i j h)
same_is (ParamAt i) (BlockOf j) h = absurd cc
same_is (ParamAt i) (ResultOf j) h = absurd cc
same_is (BlockOf i) (ParamAt j) h = absurd cc
same_is (BlockOf i) (ResultOf j) h = absurd cc
same_is (ResultOf i) (ParamAt j) h = absurd cc
same_is (ResultOf i) (BlockOf j) h = absurd cc

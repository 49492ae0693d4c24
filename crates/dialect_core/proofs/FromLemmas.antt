-- What is left of a block's list from an operation on, and going through it.
use Rattle.std.proofs.Common.{◌≡◌, ◌<◌, ℕ, Bool, true, false, nat_eq, if◌then◌else◌, List, [], ◌∷◌, ◌⊎◌, Option, Some, None, All, length, slice_get, get_or, ap, sym, subst, ◌∙◌, refl, inl, inr, arith}
use Rattle.std.specs.Prelude.{IsTrue, ◌↔◌}
use Rattle.std.specs.Option.{option_and_then}
use Rattle.std.proofs.lemmas.Option.{slice_get_within, get_or_from_slice_get, none-some, same_Some}
use Rattle.dialect_core.specs.declared.numbers.OpRef.{OpRef}
use Rattle.dialect_core.specs.declared.numbers.BlockRef.{BlockRef}
use Rattle.dialect_core.specs.Lists.{Lists, Has, AllApart, Stands, list_at, next_of, next_in, from_op}
use Rattle.dialect_core.specs.Checking.{Each}
use Rattle.dialect_core.proofs.HoldLemmas.{has_stands}
use Rattle.dialect_core.proofs.TestLemmas.{no_true}

-- from the first on it is all
pub from_first : (xs : List OpRef) → from_op (slice_get xs 0) xs ≡ xs
from_first [] = refl
from_first (x ∷ xs) = by (nat_eq x.0 x.0) refl
  where
    by : (t : Bool) → nat_eq x.0 x.0 ≡ t → (if t then x ∷ xs else from_op (Some x) xs) ≡ x ∷ xs
    by true is = refl
    by false is = absurd (grind (arith, is))

-- an operation that something begins with stands there
from_has : (o : OpRef) (xs : List OpRef) → Some o ≡ slice_get (from_op (Some o) xs) 0 → Has o.0 xs
from_has o [] h = absurd (none-some o (sym h))
from_has o (x ∷ xs) h = by (nat_eq x.0 o.0) refl (from_has o xs) h
  where
    by : (t : Bool) → nat_eq x.0 o.0 ≡ t → (Some o ≡ slice_get (from_op (Some o) xs) 0 → Has o.0 xs) → Some o ≡ slice_get (if t then x ∷ xs else from_op (Some o) xs) 0 → (x.0 ≡ o.0) ⊎ Has o.0 xs
    by true is later h = inl (grind (arith, is))
    by false is later h = inr (later h)

-- what is left of a longer list, from an operation that is not its first
from_later : (x : OpRef) (xs : List OpRef) (n : Option OpRef) → ¬ Has x.0 xs → n ≡ slice_get (from_op n xs) 0 → from_op n (x ∷ xs) ≡ from_op n xs
from_later x xs None fresh h = refl
from_later x xs (Some p) fresh h = by (nat_eq x.0 p.0) refl
  where
    by : (t : Bool) → nat_eq x.0 p.0 ≡ t → (if t then x ∷ xs else from_op (Some p) xs) ≡ from_op (Some p) xs
    by true is =
        let e : p.0 ≡ x.0 = grind (arith, is) in
        let P : ℕ → Type 0 = λ n. Has n xs in
        absurd (fresh (subst P e (from_has p xs h)))
    by false is = refl

-- the list from an operation on is it and the list from the next on
from_next : (o : OpRef) (xs : List OpRef) → AllApart xs → Some o ≡ slice_get (from_op (Some o) xs) 0 → (from_op (Some o) xs ≡ o ∷ from_op (next_of o.0 xs) xs) × (next_of o.0 xs ≡ slice_get (from_op (next_of o.0 xs) xs) 0)
from_next o [] apart h = absurd (none-some o (sym h))
from_next o (x ∷ xs) apart h = by (nat_eq x.0 o.0) refl h (from_next o xs apart.1)
  where
    first : (n : Option OpRef) → n ≡ slice_get xs 0 → from_op n xs ≡ xs
    first n is = ap (λ (n : Option OpRef). from_op n xs) is ∙ from_first xs

    by : (t : Bool) → nat_eq x.0 o.0 ≡ t → Some o ≡ slice_get (if t then x ∷ xs else from_op (Some o) xs) 0
        → (Some o ≡ slice_get (from_op (Some o) xs) 0 → (from_op (Some o) xs ≡ o ∷ from_op (next_of o.0 xs) xs) × (next_of o.0 xs ≡ slice_get (from_op (next_of o.0 xs) xs) 0))
        → ((if t then x ∷ xs else from_op (Some o) xs) ≡ o ∷ from_op (if t then slice_get xs 0 else next_of o.0 xs) (x ∷ xs)) × ((if t then slice_get xs 0 else next_of o.0 xs) ≡ slice_get (from_op (if t then slice_get xs 0 else next_of o.0 xs) (x ∷ xs)) 0)
    by true is h later =
        let all = from_first xs in
        let head : slice_get xs 0 ≡ slice_get (from_op (slice_get xs 0) xs) 0 = ap (λ (ys : List OpRef). slice_get ys 0) (sym all) in
        let e : from_op (slice_get xs 0) (x ∷ xs) ≡ xs = from_later x xs (slice_get xs 0) apart.0 head ∙ all in
        let f : o ≡ x = same_Some o x h in
        (ap (λ (o : OpRef). o ∷ xs) (sym f) ∙ ap (λ (ys : List OpRef). o ∷ ys) (sym e), ap (λ (ys : List OpRef). slice_get ys 0) (sym e))
    by false is h later =
        let rest = later h in
        let e : from_op (next_of o.0 xs) (x ∷ xs) ≡ from_op (next_of o.0 xs) xs = from_later x xs (next_of o.0 xs) apart.0 rest.1 in
        (rest.0 ∙ ap (λ (ys : List OpRef). o ∷ ys) (sym e), rest.1 ∙ ap (λ (ys : List OpRef). slice_get ys 0) (sym e))

-- what a block's operation is followed by
pub next_is : (l : Lists) (b : BlockRef) (o : OpRef) (n : Option OpRef) → AllApart (list_at l.lists b) → All (λ (o : OpRef). slice_get l.parents o.0 ≡ Some (Some b)) (list_at l.lists b) → Some o ≡ slice_get (from_op (Some o) (list_at l.lists b)) 0 → n ≡ next_in l o
    → (from_op (Some o) (list_at l.lists b) ≡ o ∷ from_op n (list_at l.lists b)) × (n ≡ slice_get (from_op n (list_at l.lists b)) 0)
next_is l b o n apart standing here is =
    let t = has_stands o (list_at l.lists b) (from_has o (list_at l.lists b) here) in
    let at : get_or (list_at l.lists b) t.0 o ≡ o = get_or_from_slice_get (list_at l.lists b) t.0 o o t.1 in
    let parent : slice_get l.parents o.0 ≡ Some (Some b) = ap (λ (o : OpRef). slice_get l.parents o.0) (sym at) ∙ standing t.0 o (slice_get_within (list_at l.lists b) t.0 o t.1) in
    let e : next_of o.0 (list_at l.lists b) ≡ n = sym (is ∙ ap (λ (p : Option (Option BlockRef)). option_and_then (λ (b : BlockRef). next_of o.0 (list_at l.lists b)) (option_and_then (λ (p : Option BlockRef). p) p)) parent) in
    let P : Option OpRef → Type 0 = λ n. (from_op (Some o) (list_at l.lists b) ≡ o ∷ from_op n (list_at l.lists b)) × (n ≡ slice_get (from_op n (list_at l.lists b)) 0) in
    subst P e (from_next o (list_at l.lists b) apart here)

-- ---- going through a list

-- what holds of the whole holds of what is left, and the other way round
pub record Going (P : OpRef → List OpRef → Type 0) (whole list : List OpRef) (next : Option OpRef) : Type 0 where
  pub head : next ≡ slice_get (from_op next list) 0
  pub same : Each P whole ↔ Each P (from_op next list)

module _ (P : OpRef → List OpRef → Type 0) (whole list : List OpRef) where
  pub going_first : (next : Option OpRef) → next ≡ slice_get (from_op next list) 0 → whole ≡ from_op next list → Going P whole list next
  going_first next head is = record { head = head; same = let Q : List OpRef → Type 0 = λ ys. Each P whole ↔ Each P ys in subst Q is ((λ h. h), (λ h. h)) }

  pub here_is : (next : Option OpRef) (o : OpRef) → Going P whole list next → next ≡ Some o → Some o ≡ slice_get (from_op (Some o) list) 0
  here_is next o g is = let Q : Option OpRef → Type 0 = λ n. n ≡ slice_get (from_op n list) 0 in subst Q is g.head

  -- so it stands in the list
  pub here_stands : (next : Option OpRef) (o : OpRef) → Going P whole list next → next ≡ Some o → Stands o list
  here_stands next o g is = has_stands o list (from_has o list (here_is next o g is))

  rest_is : (next : Option OpRef) (o : OpRef) (n : Option OpRef) → Going P whole list next → next ≡ Some o → from_op (Some o) list ≡ o ∷ from_op n list → Each P whole ↔ (P o (from_op n list) × Each P (from_op n list))
  rest_is next o n g is rest =
      let Q : List OpRef → Type 0 = λ ys. Each P whole ↔ Each P ys in
      subst Q (ap (λ (n : Option OpRef). from_op n list) is ∙ rest) g.same

  pub going_next : (next : Option OpRef) (o : OpRef) (n : Option OpRef) → Going P whole list next → next ≡ Some o → from_op (Some o) list ≡ o ∷ from_op n list → n ≡ slice_get (from_op n list) 0 → P o (from_op n list) → Going P whole list n
  going_next next o n g is rest head holds = let e = rest_is next o n g is rest in record { head = head; same = (λ h. (e.0 h).1, λ h. e.1 (holds, h)) }

  pub going_fails : (next : Option OpRef) (o : OpRef) (n : Option OpRef) → Going P whole list next → next ≡ Some o → from_op (Some o) list ≡ o ∷ from_op n list → (P o (from_op n list) → ⊥) → IsTrue false ↔ Each P whole
  going_fails next o n g is rest not_so = let e = rest_is next o n g is rest in (λ f. no_true f, λ h. absurd (not_so (e.0 h).0))

  pub going_ends : (next : Option OpRef) → Going P whole list next → next ≡ None → IsTrue true ↔ Each P whole
  going_ends next g is = let Q : List OpRef → Type 0 = λ ys. Each P whole ↔ Each P ys in let e : Each P whole ↔ Unit {0} = subst Q (ap (λ (n : Option OpRef). from_op n list) is) g.same in (λ t. e.1 tt, λ h. refl)

  pub going_falls : (next : Option OpRef) (o : OpRef) (n : Option OpRef) → next ≡ Some o → from_op (Some o) list ≡ o ∷ from_op n list → length (from_op n list) < length (from_op next list)
  going_falls next o n is rest = let e = ap length (ap (λ (n : Option OpRef). from_op n list) is ∙ rest) in omega arith

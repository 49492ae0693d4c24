-- Going from a block's first operation to the next and the next meets its list in order.
use Rattle.std.proofs.Common.{◌≡◌, ◌<◌, ◌≤◌, ◌+◌, ◌-◌, ℕ, zero, suc, Bool, true, false, nat_eq, nat_lt, if◌then◌else◌, List, [], ◌∷◌, ◌++◌, Option, Some, None, All, length, slice_get, get_or, take, ap, sym, subst, refl, ◌∙◌, inl, inr, arith, length-append}
use Rattle.std.specs.Option.{option_and_then}
use Rattle.std.proofs.lemmas.Option.{slice_get_within, slice_get-get_or, get_or_from_slice_get, same_Some, none-some}
use Rattle.std.proofs.lemmas.List.{take_more}
use Rattle.dialect_core.specs.declared.numbers.OpRef.{OpRef}
use Rattle.dialect_core.specs.declared.numbers.BlockRef.{BlockRef}
use Rattle.dialect_core.specs.Lists.{Lists, Has, AllApart, list_at, next_of, next_in}

has_at : (xs : List OpRef) (k : ℕ) (o : OpRef) → slice_get xs k ≡ Some o → Has o.0 xs
has_at [] k o h = cc
has_at (x ∷ xs) zero o h = inl (ap (λ (o : OpRef). o.0) (same_Some x o h))
has_at (x ∷ xs) (suc k) o h = inr (has_at xs k o h)

-- the operation after that at a place stands at the next place
pub next_of-at : (xs : List OpRef) (k : ℕ) (o : OpRef) → AllApart xs → slice_get xs k ≡ Some o → next_of o.0 xs ≡ slice_get xs (suc k)
next_of-at [] k o apart h = cc
next_of-at (x ∷ xs) zero o apart h = by (nat_eq x.0 o.0) refl (ap (λ (o : OpRef). o.0) (same_Some x o h))
  where
    by : (t : Bool) → nat_eq x.0 o.0 ≡ t → x.0 ≡ o.0 → (if t then slice_get xs 0 else next_of o.0 xs) ≡ slice_get xs 0
    by true is same = refl
    by false is same = absurd (grind (arith, is, same))
next_of-at (x ∷ xs) (suc k) o apart h = by (nat_eq x.0 o.0) refl (next_of-at xs k o apart.1 h)
  where
    by : (t : Bool) → nat_eq x.0 o.0 ≡ t → next_of o.0 xs ≡ slice_get xs (suc k) → (if t then slice_get xs 0 else next_of o.0 xs) ≡ slice_get xs (suc k)
    by true is later =
        let same : o.0 ≡ x.0 = grind (arith, is) in
        let P : ℕ → Type 0 = λ n. Has n xs in
        absurd (apart.0 (subst P same (has_at xs k o h)))
    by false is later = later

pub next_in-at : (l : Lists) (b : BlockRef) (k : ℕ) (o : OpRef) → slice_get l.parents o.0 ≡ Some (Some b) → AllApart (list_at l.lists b) → slice_get (list_at l.lists b) k ≡ Some o → next_in l o ≡ slice_get (list_at l.lists b) (suc k)
next_in-at l b k o parent apart at =
    ap (λ (p : Option (Option BlockRef)). option_and_then (λ (b : BlockRef). next_of o.0 (list_at l.lists b)) (option_and_then (λ (p : Option BlockRef). p) p)) parent
    ∙ next_of-at (list_at l.lists b) k o apart at

-- the operations so far are the first of the list, and the next one follows them
pub record Walked (list ops : List OpRef) (next : Option OpRef) : Type 0 where
  pub so_far : ops ≡ take (length ops) list
  pub follows : next ≡ slice_get list (length ops)

pub walked_none : (list : List OpRef) (next : Option OpRef) → next ≡ slice_get list 0 → Walked list [] next
walked_none list next h = record { so_far = refl; follows = h }

pub walked_more : (l : Lists) (b : BlockRef) (ops : List OpRef) (o : OpRef) (next : Option OpRef) → AllApart (list_at l.lists b) → All (λ (o : OpRef). slice_get l.parents o.0 ≡ Some (Some b)) (list_at l.lists b) → Walked (list_at l.lists b) ops (Some o) → next ≡ next_in l o → Walked (list_at l.lists b) (ops ++ o ∷ []) next
walked_more l b ops o next apart standing w is_next =
    let list = list_at l.lists b in
    let at : slice_get list (length ops) ≡ Some o = sym w.follows in
    let within = slice_get_within list (length ops) o at in
    let is = get_or_from_slice_get list (length ops) o o at in
    let parent : slice_get l.parents o.0 ≡ Some (Some b) = ap (λ (x : OpRef). slice_get l.parents x.0) (sym is) ∙ standing (length ops) o within in
    let longer : length (ops ++ o ∷ []) ≡ length ops + 1 = omega (arith, length-append ops (o ∷ [])) in
    record {
      so_far = rw longer (sym (take_more list (length ops) o within ∙ ap (λ (xs : List OpRef). xs ++ get_or list (length ops) o ∷ []) (sym w.so_far) ∙ ap (λ (x : OpRef). ops ++ x ∷ []) is));
      follows = is_next ∙ next_in-at l b (length ops) o parent apart at ∙ ap (slice_get list) (let e : suc (length ops) ≡ length (ops ++ o ∷ []) = omega (arith, longer) in e);
    }

pub walked_within : (list ops : List OpRef) (o : OpRef) → Walked list ops (Some o) → length ops < length list
walked_within list ops o w = slice_get_within list (length ops) o (sym w.follows)

-- one operation more leaves fewer
pub walked_less : (list ops more : List OpRef) (o : OpRef) → Walked list ops (Some o) → more ≡ ops ++ o ∷ [] → length list - length more < length list - length ops
walked_less list ops more o w is =
    let within = walked_within list ops o w in
    let longer : length more ≡ length ops + 1 = ap length is ∙ length-append ops (o ∷ []) in
    omega (arith, within, longer)

-- an operation that is met is there
pub walked_there : (parents : List (Option BlockRef)) (n : ℕ) (b : BlockRef) (list ops : List OpRef) (o : OpRef) → length parents ≡ n → Walked list ops (Some o) → All (λ (o : OpRef). slice_get parents o.0 ≡ Some (Some b)) list → o.0 < n
walked_there parents n b list ops o few w standing =
    let at : slice_get list (length ops) ≡ Some o = sym w.follows in
    let parent : slice_get parents o.0 ≡ Some (Some b) = ap (λ (x : OpRef). slice_get parents x.0) (sym (get_or_from_slice_get list (length ops) o o at)) ∙ standing (length ops) o (walked_within list ops o w) in
    omega (arith, few, slice_get_within parents o.0 _ parent)

take_whole : {X : Type 0} (xs : List X) (n : ℕ) → length xs ≤ n → take n xs ≡ xs
take_whole [] zero h = refl
take_whole [] (suc n) h = refl
take_whole (x ∷ xs) zero h = absurd (omega arith)
take_whole (x ∷ xs) (suc n) h = ap (λ (ys : List _). x ∷ ys) (take_whole xs n (omega arith))

pub walked_all : (list ops : List OpRef) → Walked list ops None → ops ≡ list
walked_all list ops w = w.so_far ∙ take_whole list (length ops) (by (nat_lt (length ops) (length list)) refl)
  where
    by : (t : Bool) → nat_lt (length ops) (length list) ≡ t → length list ≤ length ops
    by true is =
        let d : OpRef = record { 0 = 0 } in
        let within : length ops < length list = grind (arith, is) in
        absurd (none-some (get_or list (length ops) d) (w.follows ∙ slice_get-get_or list (length ops) d within))
    by false is = grind (arith, is)

-- each of them is there
pub listed_within : (parents : List (Option BlockRef)) (n : ℕ) (b : BlockRef) (list ops : List OpRef) → length parents ≡ n → ops ≡ list → All (λ (o : OpRef). slice_get parents o.0 ≡ Some (Some b)) list → All (λ (o : OpRef). o.0 < n) ops
listed_within parents n b list ops few same standing = rw same (λ k d l. omega (arith, few, slice_get_within parents (get_or list k d).0 _ (standing k d l)))

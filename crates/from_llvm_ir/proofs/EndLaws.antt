-- Lists that end in the only item that passes a test.
use Rattle.std.proofs.Common.{ℕ, ◌≡◌, ◌-◌, refl, ap, subst, ◌∙◌, Bool, true, false, cond, ◌&&◌, not, List, [], ◌∷◌, ◌++◌, All, filter, length, take, slice_get, arith}
use Rattle.std.specs.List.{list_any}
use Rattle.std.specs.Option.{option_map_or}
use Rattle.std.proofs.lemmas.Bool.{and_parts, not-true, or_parts}
use Rattle.std.proofs.lemmas.List.Elements.{All-nil, All-cons, All-head, All-tail, All-filter, filter-append}
use Rattle.llvm_core.specs.Checked.{ends_in_only}
use Rattle.meaning.specs.Pairs.{Matched}

pub record Ends {X : Type 0} (test : X → Bool) (xs : List X) : Type 0 where
  pub front : List X
  pub last : X
  pub are : xs ≡ front ++ last ∷ []
  pub ends : test last ≡ true
  pub before : All (λ (x : X). test x ≡ false) front

pub ends_from : {X : Type 0} (test : X → Bool) (xs : List X) → ends_in_only test xs ≡ true → Ends test xs
ends_from test [] e = cc
ends_from test (x ∷ []) e = record { front = []; last = x; are = refl; ends = (and_parts _ _ e).0; before = All-nil _ }
ends_from {X = X} test (x ∷ y ∷ xs) e =
    let len : length (x ∷ y ∷ xs) - 1 ≡ ℕ.suc (length (y ∷ xs) - 1) = omega arith in
    let at_end : (option_map_or test (slice_get (x ∷ y ∷ xs) (ℕ.suc (length (y ∷ xs) - 1))) false && not (list_any test (take (ℕ.suc (length (y ∷ xs) - 1)) (x ∷ y ∷ xs)))) ≡ true = rw len at e in
    let parts = and_parts _ _ at_end in
    let none = or_parts (test x) (list_any test (take (length (y ∷ xs) - 1) (y ∷ xs))) (not-true _ parts.1) in
    one_more (ends_from test (y ∷ xs) (both parts.0 none.1)) none.0
  where
    one_more : Ends test (y ∷ xs) → test x ≡ false → Ends test (x ∷ y ∷ xs)
    one_more r e = record {
      front = x ∷ r.front;
      last = r.last;
      are = ap (λ (zs : List X). x ∷ zs) r.are;
      ends = r.ends;
      before = All-cons (λ (z : X). test z ≡ false) x r.front e r.before;
    }

    both : {a b : Bool} → a ≡ true → b ≡ false → (a && not b) ≡ true
    both p q = rw (p, q) refl

-- what is left out ends nothing
pub ends_filter : {X : Type 0} (test keep : X → Bool) (xs : List X) → ((x : X) → test x ≡ true → keep x ≡ true) → Ends test xs → Ends test (filter keep xs)
ends_filter {X = X} test keep xs k h = record {
  front = filter keep h.front;
  last = h.last;
  are = ap (filter keep) h.are ∙ filter-append keep h.front (h.last ∷ []) ∙ ap (λ (b : Bool). filter keep h.front ++ cond b (h.last ∷ []) []) (k h.last h.ends);
  ends = h.ends;
  before = All-filter keep (λ (x : X). test x ≡ false) h.front h.before;
}

-- item by item as in another list
pub record Split {X Y : Type 0} (P : X → Y → Type 0) (front : List X) (last : X) (ys : List Y) : Type 0 where
  pub front' : List Y
  pub last' : Y
  pub are : ys ≡ front' ++ last' ∷ []
  pub pairs : Matched P front front'
  pub pair : P last last'

pub split_last : {X Y : Type 0} (P : X → Y → Type 0) (front : List X) (last : X) (ys : List Y) → Matched P (front ++ last ∷ []) ys → Split P front last ys
split_last P [] last [] h = elim h [ ]
split_last P [] last (y ∷ []) h = record { front' = []; last' = y; are = refl; pairs = tt; pair = h.0 }
split_last P [] last (y ∷ z ∷ ys) h = elim h.1 [ ]
split_last P (x ∷ front) last [] h = elim h [ ]
split_last {Y = Y} P (x ∷ front) last (y ∷ ys) h =
    let r = split_last P front last ys h.1 in
    record { front' = y ∷ r.front'; last' = r.last'; are = ap (λ (zs : List Y). y ∷ zs) r.are; pairs = (h.0, r.pairs); pair = r.pair }

pub ends_as : {X Y : Type 0} (test : X → Bool) (test' : Y → Bool) (P : X → Y → Type 0) (xs : List X) (ys : List Y) → ((x : X) (y : Y) → P x y → test' y ≡ test x) → Matched P xs ys → Ends test xs → Ends test' ys
ends_as {X = X} {Y = Y} test test' P xs ys same m h =
    let s = split_last P h.front h.last ys (subst (λ (zs : List X). Matched P zs ys) h.are m) in
    record {
      front = s.front';
      last = s.last';
      are = s.are;
      ends = same h.last s.last' s.pair ∙ h.ends;
      before = none h.front s.front' s.pairs h.before;
    }
  where
    none : (us : List X) (ws : List Y) → Matched P us ws → All (λ (x : X). test x ≡ false) us → All (λ (y : Y). test' y ≡ false) ws
    none [] [] m all = All-nil _
    none [] (w ∷ ws) m all = elim m [ ]
    none (u ∷ us) [] m all = elim m [ ]
    none (u ∷ us) (w ∷ ws) m all = All-cons (λ (y : Y). test' y ≡ false) w ws (same u w m.0 ∙ All-head (λ (x : X). test x ≡ false) u us all) (none us ws m.1 (All-tail (λ (x : X). test x ≡ false) u us all))

-- The blocks of a function in an order.
use Rattle.std.proofs.Common.{ℕ, ◌≡◌, ◌≢◌, ◌<◌, ◌+◌, inl, inr, get_or, slice_set, refl, sym, ap, ◌∙◌, Bool, true, false, cond, nat_eq, List, [], ◌∷◌, Some, length, map, slice_get, arith, eq-eqb}
use Rattle.std.specs.Prelude.{slice_index_or}
use Rattle.std.specs.List.{position_from}
use Rattle.std.specs.Option.{option_and_then}
use Rattle.std.proofs.lemmas.Bool.{cases_lt}
use Rattle.std.proofs.lemmas.List.Elements.{All-get_or}
use Rattle.std.proofs.lemmas.Option.{slice_get_within, same_Some, get_or_from_slice_get, slice_get-get_or}
use Rattle.support.proofs.ListLaws.{item_there}
use Rattle.dialect_core.proofs.ListLemmas.{slice_get-set_same, slice_get-set_other}
use Rattle.support.specs.Interned.{IsDistinctList}
use Rattle.llvm_core.specs.Data as L
use Rattle.llvm_core.proofs.DataLemmas.{length-filter_map_all, slice_get-filter_map_all, within_at}
use Rattle.from_llvm_ir.specs.Match.{IsPlaces}
use Rattle.from_llvm_ir.specs.Imported.{counting, in_order}
use Rattle.from_llvm_ir.specs.Order.{IsInverse, ordered}
use Rattle.from_llvm_ir.proofs.PlaceLaws.{filter_map_beside}

-- ---- counting

pub counting_at : {A : Type 0} (n : ℕ) (xs : List A) (i : ℕ) → i < length xs → slice_get (counting n xs) i ≡ Some (n + i)
counting_at n [] i lt = absurd (omega arith)
counting_at n (x ∷ xs) ℕ.zero lt = ap Some (let e : n ≡ n + 0 = omega arith in e)
counting_at n (x ∷ xs) (ℕ.suc i) lt = counting_at (ℕ.suc n) xs i (omega arith) ∙ ap Some (let e : ℕ.suc n + i ≡ n + ℕ.suc i = omega arith in e)

pub length-counting : {A : Type 0} (n : ℕ) (xs : List A) → length (counting n xs) ≡ length xs
length-counting n [] = refl
length-counting n (x ∷ xs) = ap ℕ.suc (length-counting (ℕ.suc n) xs)

-- ---- the place of a number in a list of distinct ones

pub position_at : (t : ℕ → Bool) (from : ℕ) (xs : List ℕ) (i x : ℕ) → slice_get xs i ≡ Some x → t x ≡ true → ((j y : ℕ) → slice_get xs j ≡ Some y → t y ≡ true → j ≡ i) → position_from t from xs ≡ Some (from + i)
position_at t from [] i x at passes one = cc
position_at t from (y ∷ xs) ℕ.zero x at passes one =
    let same = same_Some y x at in
    ap (λ (b : Bool). cond b (Some from) (position_from t (from + 1) xs)) (ap t same ∙ passes) ∙ ap Some (let e : from ≡ from + 0 = omega arith in e)
position_at t from (y ∷ xs) (ℕ.suc i) x at passes one =
    ap (λ (b : Bool). cond b (Some from) (position_from t (from + 1) xs)) (other (t y) refl)
    ∙ position_at t (from + 1) xs i x at passes (λ j z here is. let s = one (ℕ.suc j) z here is in omega (arith, s))
    ∙ ap Some (let e : from + 1 + i ≡ from + ℕ.suc i = omega arith in e)
  where
    other : (b : Bool) → t y ≡ b → t y ≡ false
    other true e = let no : 0 ≡ ℕ.suc i = one 0 y refl e in absurd (omega (arith, no))
    other false e = e

-- ---- blocks in an order

pub record OrderedAt (order : List ℕ) (blocks : List L.Block) (j : ℕ) (b : L.Block) : Type 0 where
  pub place : ℕ
  pub here : slice_get order j ≡ Some place
  pub at : slice_get blocks place ≡ Some b

module _ (order : List ℕ) (blocks : List L.Block) (h : IsPlaces (length blocks) order) where
  each_there : (j : ℕ) (i : ℕ) → slice_get order j ≡ Some i → (b : L.Block) × (slice_get blocks i ≡ Some b)
  each_there j i at = item_there blocks i (within_at order (λ (p : ℕ). p < length blocks) h.within j i at)

  pub ordered_length : length (ordered order blocks) ≡ length blocks
  ordered_length = length-filter_map_all (slice_get blocks) order each_there ∙ h.count

  pub ordered_here : (j i : ℕ) (b : L.Block) → slice_get order j ≡ Some i → slice_get blocks i ≡ Some b → slice_get (ordered order blocks) j ≡ Some b
  ordered_here j i b at is = slice_get-filter_map_all (slice_get blocks) order each_there j i b at is

  pub ordered_at : (j : ℕ) (b : L.Block) → slice_get (ordered order blocks) j ≡ Some b → OrderedAt order blocks j b
  ordered_at j b at =
      let o = item_there order j (omega (arith, slice_get_within (ordered order blocks) j b at, ordered_length, h.count)) in
      let x = each_there j o.0 o.1 in
      let same : x.0 ≡ b = same_Some x.0 b (sym (ordered_here j o.0 x.0 o.1 x.1) ∙ at) in
      record { place = o.0; here = o.1; at = x.1 ∙ ap Some same }

  -- each block stands in the order
  pub placed : (i : ℕ) (b : L.Block) → slice_get blocks i ≡ Some b → (j : ℕ) × (slice_get order j ≡ Some i) × (slice_get (ordered order blocks) j ≡ Some b)
  placed i b at = let o = h.onto i (slice_get_within blocks i b at) in (o.0, o.1, ordered_here o.0 i b o.1 at)

  -- the first is the first
  pub ordered_first : (b : L.Block) → slice_get (ordered order blocks) 0 ≡ Some b → slice_get blocks 0 ≡ Some b
  ordered_first b at =
      let o = ordered_at 0 b at in
      let lt : 0 < length blocks = omega (arith, slice_get_within (ordered order blocks) 0 b at, ordered_length) in
      let zero : o.place ≡ 0 = same_Some o.place 0 (sym o.here ∙ h.first lt) in
      ap (slice_get blocks) (sym zero) ∙ o.at

  pub not_first : (j i : ℕ) → slice_get order j ≡ Some (ℕ.suc i) → (k : ℕ) × (j ≡ ℕ.suc k)
  not_first ℕ.zero i at =
      let lt : 0 < length blocks = omega (arith, slice_get_within order 0 (ℕ.suc i) at, h.count) in
      let no : ℕ.suc i ≡ 0 = same_Some (ℕ.suc i) 0 (sym at ∙ h.first lt) in absurd (omega (arith, no))
  not_first (ℕ.suc k) i at = (k, refl)

  -- blocks of distinct numbers stand at distinct places
  pub ordered_apart : IsDistinctList (map (λ (b : L.Block). b.number) blocks) → ((i j : ℕ) (x y : L.Block) → slice_get blocks i ≡ Some x → slice_get blocks j ≡ Some y → x.number ≡ y.number → i ≡ j)
      → (i j : ℕ) (x y : L.Block) → slice_get (ordered order blocks) i ≡ Some x → slice_get (ordered order blocks) j ≡ Some y → x.number ≡ y.number → i ≡ j
  ordered_apart d one i j x y at_i at_j same =
      let a = ordered_at i x at_i in
      let b = ordered_at j y at_j in
      let e = one a.place b.place x y a.at b.at same in
      h.apart i j a.place a.here (b.here ∙ ap Some (sym e))

  -- ---- the places that an order gives

  module _ (places : List ℕ) (inverse : IsInverse order places) (p : IsPlaces (length blocks) places) where
    pub place_is : (j i : ℕ) → slice_get order j ≡ Some i → slice_index_or places i i ≡ j
    place_is j i at = get_or_from_slice_get places i j i (inverse j i at)

    pub in_order_is : in_order places blocks ≡ ordered order blocks
    in_order_is =
        filter_map_beside (λ (j : ℕ). option_and_then (slice_get blocks) (position_from (nat_eq j) 0 places)) (slice_get blocks) (counting 0 places) order
        (length-counting 0 places ∙ p.count ∙ sym h.count)
        (λ j x i at_x at_i. same j x i at_x at_i)
      where
        test : (j y : ℕ) → nat_eq j y ≡ true → j ≡ y
        test j y e = grind arith

        same : (j x i : ℕ) → slice_get (counting 0 places) j ≡ Some x → slice_get order j ≡ Some i → option_and_then (slice_get blocks) (position_from (nat_eq x) 0 places) ≡ slice_get blocks i
        same j x i at_x at_i =
            let lt : j < length places = omega (arith, slice_get_within order j i at_i, h.count, p.count) in
            let is : x ≡ j = same_Some x j (sym at_x ∙ counting_at 0 places j lt ∙ ap Some (let e : 0 + j ≡ j = omega arith in e)) in
            let pos = position_at (nat_eq x) 0 places i j (inverse j i at_i) (eq-eqb x j is) (λ k y at_k passes. p.apart k i j (at_k ∙ ap Some (sym (test x y passes) ∙ is)) (inverse j i at_i)) in
            ap (option_and_then (slice_get blocks)) pos ∙ ap (slice_get blocks) (let e : 0 + i ≡ i = omega arith in e)

-- an order's inverse is one
pub inverse_places : (n : ℕ) (order places : List ℕ) → IsPlaces n order → IsInverse order places → length places ≡ n → IsPlaces n places
inverse_places n order places h inverse count = record {
  count = count;
  within = λ i d lt. let o = h.onto i (omega (arith, lt, count)) in let e = get_or_from_slice_get places i o.0 d (inverse o.0 i o.1) in let lt' = slice_get_within order o.0 i o.1 in omega (arith, e, lt', h.count);
  apart = λ i k x at_i at_k.
      let o = h.onto i (omega (arith, slice_get_within places i x at_i, count)) in
      let q = h.onto k (omega (arith, slice_get_within places k x at_k, count)) in
      let a : o.0 ≡ x = same_Some o.0 x (sym (inverse o.0 i o.1) ∙ at_i) in
      let b : q.0 ≡ x = same_Some q.0 x (sym (inverse q.0 k q.1) ∙ at_k) in
      same_Some i k (sym o.1 ∙ ap (slice_get order) (a ∙ sym b) ∙ q.1);
  onto = λ p lt. let o = item_there order p (omega (arith, lt, h.count)) in (o.0, inverse p o.0 o.1);
  first = λ lt. inverse 0 0 (h.first lt);
}

-- ---- an order turned round

abbrev pub AreTurned : (order : List ℕ) (done : ℕ) (places : List ℕ) → Type 0
AreTurned order done places = (j i : ℕ) → j < done → slice_get order j ≡ Some i → slice_get places i ≡ Some j

pub turned_more : (order : List ℕ) (n j d : ℕ) (places : List ℕ) → IsPlaces n order → length places ≡ n → j < length order → AreTurned order j places → AreTurned order (j + 1) (slice_set places (get_or order j d) j)
turned_more order n j d places h count lt old q i small at =
    elim (cases_lt q j) [
      | inl before ↦
          let other : i ≢ get_or order j d = λ same. let e = h.apart q j i at (slice_get-get_or order j d lt ∙ ap Some (sym same)) in omega (arith, e, before) in
          slice_get-set_other places (get_or order j d) i j other ∙ old q i before at
      | inr last ↦
          let is : q ≡ j = omega (arith, small, last) in
          let same : i ≡ get_or order j d = same_Some i (get_or order j d) (sym at ∙ ap (slice_get order) is ∙ slice_get-get_or order j d lt) in
          let within = All-get_or (λ (p : ℕ). p < n) order j d lt h.within in
          rw (same, is) (slice_get-set_same places (get_or order j d) j (omega (arith, within, count)))
    ]

-- the order of one block is its own inverse
pub self_inverse : (order : List ℕ) → IsPlaces (length order) order → length order ≡ 1 → IsInverse order order
self_inverse order h one j i at =
    let lt = slice_get_within order j i at in
    let first = h.first (omega (arith, one)) in
    let zero : j ≡ 0 = omega (arith, lt, one) in
    let same : i ≡ 0 = same_Some i 0 (sym at ∙ ap (slice_get order) zero ∙ first) in
    ap (slice_get order) same ∙ first ∙ ap Some (sym zero)

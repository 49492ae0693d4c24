-- Places in an order that names each once, and what the blocks give that are taken in it.
use Rattle.std.proofs.Common.{◌≡◌, ◌<◌, ◌≤◌, ◌+◌, inl, inr, ℕ, zero, suc, Bool, true, false, cond, if◌then◌else◌, not, nat_eq, List, [], ◌∷◌, ◌++◌, Option, Some, None, length, filter, take, drop, slice_get, refl, sym, ap, ◌∙◌, arith, eq-eqb, ne_eqb, eqb-true, ⊎_elim, length-append}
use Rattle.std.specs.List.{flat_map, filter_map, cons_option, find, position_or_len}
use Rattle.std.specs.Option.{option_map, option_map_or}
use Rattle.std.proofs.lemmas.Bool.{cases_order}
use Rattle.std.proofs.lemmas.Option.{same_Some, none-some, slice_get_within, slice_get-map}
use Rattle.std.proofs.lemmas.List.{append_assoc}
use Rattle.std.proofs.lemmas.List.Concat.{flat_map-append}
use Rattle.support.specs.Interned.{IsDistinctList}
use Rattle.support.proofs.ListLaws.{distinct_nil, slice_get-kept, all_from, item_there, slice_get-behind, slice_get-behind_cases, in_joined, from_joined, distinct_rest}
use Rattle.llvm_core.proofs.NameLemmas.{slice_get-taken}
use Rattle.llvm_core.proofs.DataLemmas.{length-filter_map_all, slice_get-filter_map_all}
use Rattle.block_order.specs.Order.{IsOrder}
use Rattle.block_order.proofs.ListLemmas.{same_place}
use Rattle.dialect_types.specs.Trees.{TypeTree}
use Rattle.dialect_core.specs.declared.ops.Value.{Value}
use Rattle.dialect_core.specs.declared.ops.Value.TheVariants.{Argument}
use Rattle.dialect_core.specs.Data.{DialectOp, DialectBlock, Func}
use Rattle.dialect_core.specs.Form.{IsFormFunc, is_constant, others_of}
use Rattle.to_llvm_ir.specs.Order.{turn_of}
use Rattle.to_llvm_ir.specs.Exported.{result, phi_values}
use Rattle.to_llvm_ir.specs.Made.{result_values, values_from, values, block_values, values_by}
use Rattle.to_llvm_ir.proofs.ListLaws.{AreNumbered, numbered_rest, find_numbered, found_numbered, filter_none, all_at, at_contains, split_at, distinct_append}
use Rattle.to_llvm_ir.proofs.PlaceLaws.{argument_at, from_distinct}
use Rattle.to_llvm_ir.proofs.LookupLaws.{other_at}

-- ---- lists of lists

-- no item twice, where none is in two of the lists
distinct_flat : {A X : Type 0} (f : A → List X) (ps : List A) → IsDistinctList ps → ((k : ℕ) (p : A) → slice_get ps k ≡ Some p → IsDistinctList (f p))
    → ((k l i j : ℕ) (p q : A) (x : X) → slice_get ps k ≡ Some p → slice_get ps l ≡ Some q → slice_get (f p) i ≡ Some x → slice_get (f q) j ≡ Some x → p ≡ q) → IsDistinctList (flat_map f ps)
distinct_flat f [] h each apart = distinct_nil
distinct_flat f (p ∷ ps) h each apart =
    distinct_append (f p) (flat_map f ps) (each 0 p refl)
    (distinct_flat f ps (distinct_rest p ps h) (λ k q at. each (suc k) q at) (λ k l i j q r x at at' is is'. apart (suc k) (suc l) i j q r x at at' is is'))
    (λ i j x at at'.
    let r = from_joined f ps j x at' in
    let same = apart 0 (suc r.0) i r.1 p r.2 x refl r.3 at r.4 in
    let e : 0 ≡ suc r.0 = h 0 (suc r.0) p refl (r.3 ∙ ap Some (sym same)) in
    omega (arith, e))

-- ---- places in an order

first_turn : (xs : List ℕ) (p j : ℕ) → slice_get xs j ≡ Some p → ((i : ℕ) → slice_get xs i ≡ Some p → i ≡ j) → turn_of xs p ≡ j
first_turn [] p j at one = absurd (none-some p at)
first_turn (x ∷ xs) p zero at one =
    ap (λ (b : Bool). cond (not b) (1 + position_or_len (nat_eq p) xs) 0) (eq-eqb p x (sym (same_Some x p at)))
first_turn (x ∷ xs) p (suc j) at one =
    let other : p ≡ x → ⊥ = λ same. let no : 0 ≡ suc j = one 0 (ap Some (sym same)) in omega (arith, no) in
    ap (λ (b : Bool). cond (not b) (1 + position_or_len (nat_eq p) xs) 0) (ne_eqb p x other)
    ∙ ap (λ (k : ℕ). 1 + k) (first_turn xs p j at (λ i at'. let s = one (suc i) at' in omega (arith, s)))
    ∙ (let e : 1 + j ≡ suc j = omega arith in e)

module _ (n : ℕ) (order : List ℕ) (h : IsOrder n order) where
  pub named : (p : ℕ) → p < n → (j : ℕ) × (slice_get order j ≡ Some p)
  named p lt = at_contains order p (h.each p lt)

  pub named_once : (i j p : ℕ) → slice_get order i ≡ Some p → slice_get order j ≡ Some p → i ≡ j
  named_once i j p at at' = same_place order i j p h.once at at'

  pub named_within : (j p : ℕ) → slice_get order j ≡ Some p → p < n
  named_within j p at = all_at (λ (x : ℕ). x < n) order j p h.within at

  pub turn_is : (j p : ℕ) → slice_get order j ≡ Some p → turn_of order p ≡ j
  turn_is j p at = first_turn order p j at (λ i at'. named_once i j p at' at)

  pub turn_at : (p : ℕ) → p < n → slice_get order (turn_of order p) ≡ Some p
  turn_at p lt = let r = named p lt in ap (slice_get order) (turn_is r.0 p r.1) ∙ r.1

  -- two places have two turns
  pub turns_apart : (p q : ℕ) → p < n → q < n → turn_of order p ≡ turn_of order q → p ≡ q
  turns_apart p q lt lt' e = same_Some p q (sym (turn_at p lt) ∙ ap (slice_get order) e ∙ turn_at q lt')

  pub turn_within : (p : ℕ) → p < n → turn_of order p < length order
  turn_within p lt = slice_get_within order (turn_of order p) p (turn_at p lt)

  pub order_distinct : IsDistinctList order
  order_distinct i j p at at' = named_once i j p at at'

-- ---- items in an order

module _ {X : Type 0} (xs : List X) (order : List ℕ) (h : IsOrder (length xs) order) where
  each_there : (j p : ℕ) → slice_get order j ≡ Some p → (x : X) × (slice_get xs p ≡ Some x)
  each_there j p at = item_there xs p (named_within (length xs) order h j p at)

  pub taken_at : (j p : ℕ) (x : X) → slice_get order j ≡ Some p → slice_get xs p ≡ Some x → slice_get (filter_map (slice_get xs) order) j ≡ Some x
  taken_at j p x at is = slice_get-filter_map_all (slice_get xs) order each_there j p x at is

  pub taken_here : (p : ℕ) (x : X) → slice_get xs p ≡ Some x → slice_get (filter_map (slice_get xs) order) (turn_of order p) ≡ Some x
  taken_here p x at = taken_at (turn_of order p) p x (turn_at (length xs) order h p (slice_get_within xs p x at)) at

  pub taken_length : length (filter_map (slice_get xs) order) ≡ length xs
  taken_length = length-filter_map_all (slice_get xs) order each_there ∙ h.count

  pub taken_from : (j : ℕ) (x : X) → slice_get (filter_map (slice_get xs) order) j ≡ Some x → (p : ℕ) × (slice_get order j ≡ Some p) × (slice_get xs p ≡ Some x)
  taken_from j x at =
      let lt = slice_get_within (filter_map (slice_get xs) order) j x at in
      let o = item_there order j (let e = taken_length in let k = h.count in omega (arith, lt, e, k)) in
      let y = each_there j o.0 o.1 in
      let same : y.0 ≡ x = same_Some y.0 x (sym (taken_at j o.0 y.0 o.1 y.1) ∙ at) in
      (o.0, o.1, y.1 ∙ ap Some same)

module _ {X : Type 0} (number : X → ℕ) (m : ℕ) where
  abbrev is_m : X → Bool
  is_m x = nat_eq (number x) m

  -- one item has the number, or none
  filter_found : (xs : List X) → AreNumbered number xs → filter is_m xs ≡ cons_option (find is_m xs) []
  filter_found [] h = refl
  filter_found (x ∷ xs) h = by (filter_found xs (numbered_rest number x xs h)) (nat_eq (number x) m) refl
    where
      by : filter is_m xs ≡ cons_option (find is_m xs) [] → (b : Bool) → nat_eq (number x) m ≡ b → (if b then x ∷ filter is_m xs else filter is_m xs) ≡ cons_option (if b then Some x else find is_m xs) []
      by rest false e = rest
      by rest true e =
          let is = eqb-true (number x) m e in
          ap (λ ys. x ∷ ys) (filter_none is_m xs (all_from (λ y. is_m y ≡ false) xs (λ i y at. ne_eqb (number y) m (λ f. let k : 0 ≡ suc i = h 0 (suc i) x y refl at (is ∙ sym f) in omega (arith, k)))))

  module _ (xs : List X) (order : List ℕ) (h : IsOrder (length xs) order) (numbered : AreNumbered number xs) where
    taken_numbered : AreNumbered number (filter_map (slice_get xs) order)
    taken_numbered i j a b at at' e =
        let p = taken_from xs order h i a at in
        let q = taken_from xs order h j b at' in
        let same : p.0 ≡ q.0 = numbered p.0 q.0 a b p.2 q.2 e in
        named_once (length xs) order h i j p.0 p.1 (q.1 ∙ ap Some (sym same))

    found_taken : find is_m (filter_map (slice_get xs) order) ≡ find is_m xs
    found_taken = by (find is_m xs) refl (find is_m (filter_map (slice_get xs) order)) refl
      where
        by : (o : Option X) → find is_m xs ≡ o → (u : Option X) → find is_m (filter_map (slice_get xs) order) ≡ u → find is_m (filter_map (slice_get xs) order) ≡ o
        by (Some x) e u f =
            let r = found_numbered number xs m x e in
            find_numbered number (filter_map (slice_get xs) order) (turn_of order r.0) m x taken_numbered (taken_here xs order h r.0 x r.1) r.2
        by None e None f = f
        by None e (Some x) f =
            let r = found_numbered number (filter_map (slice_get xs) order) m x f in
            let p = taken_from xs order h r.0 x r.1 in
            absurd (none-some x (sym e ∙ find_numbered number xs p.0 m x numbered p.2 r.2))

    pub filter_taken : filter is_m (filter_map (slice_get xs) order) ≡ filter is_m xs
    filter_taken = filter_found (filter_map (slice_get xs) order) taken_numbered ∙ ap (λ (o : Option X). cons_option o []) found_taken ∙ sym (filter_found xs numbered)

-- ---- the values of blocks, one block after another

pub values_append : (p : ℕ) (cs ds : List DialectBlock) → values_from p (cs ++ ds) ≡ values_from p cs ++ values_from (p + length cs) ds
values_append p [] ds = ap (λ (q : ℕ). values_from q ds) (let e : p ≡ p + 0 = omega arith in e)
values_append p (c ∷ cs) ds =
    ap (λ (vs : List Value). (phi_values p c ++ result_values c.ops) ++ vs) (values_append (suc p) cs ds ∙ ap (λ (q : ℕ). values_from (suc p) cs ++ values_from q ds) (let e : suc p + length cs ≡ p + suc (length cs) = omega arith in e))
    ∙ sym (append_assoc (phi_values p c ++ result_values c.ops) (values_from (suc p) cs) (values_from (p + suc (length cs)) ds))

values_split : (cs : List DialectBlock) (j : ℕ) (c : DialectBlock) → slice_get cs j ≡ Some c → values_from 0 cs ≡ values_from 0 (take j cs) ++ ((phi_values j c ++ result_values c.ops) ++ values_from (suc j) (drop (suc j) cs))
values_split cs j c at =
    let s = split_at cs j c at in
    ap (values_from 0) s.0 ∙ values_append 0 (take j cs) (c ∷ drop (suc j) cs)
    ∙ ap (λ (q : ℕ). values_from 0 (take j cs) ++ values_from q (c ∷ drop (suc j) cs)) (let len = s.1 in let e : 0 + length (take j cs) ≡ j = omega (arith, len) in e)

take_take : {X : Type 0} (i j : ℕ) (xs : List X) → i ≤ j → take i (take j xs) ≡ take i xs
take_take zero j xs le = refl
take_take (suc i) zero xs le = absurd (omega (arith, le))
take_take (suc i) (suc j) [] le = refl
take_take (suc i) (suc j) (x ∷ xs) le = ap (λ ys. x ∷ ys) (take_take i j xs (omega (arith, le)))

-- a value of a block of the list
in_block : (p : ℕ) (cs : List DialectBlock) (i : ℕ) (v : Value) → slice_get (values_from p cs) i ≡ Some v → (j : ℕ) × (l : ℕ) × (c : DialectBlock) × (slice_get cs j ≡ Some c) × (slice_get (phi_values (p + j) c ++ result_values c.ops) l ≡ Some v)
in_block p [] i v at = absurd (none-some v at)
in_block p (c ∷ cs) i v at = ⊎_elim
    (λ here. (0, i, c, refl, ap (λ (q : ℕ). slice_get (phi_values q c ++ result_values c.ops) i) (let e : p + 0 ≡ p = omega arith in e) ∙ here))
    (λ later.
    let r = in_block (suc p) cs later.0 v later.2 in
    (suc r.0, r.1, r.2, r.3, ap (λ (q : ℕ). slice_get (phi_values q r.2 ++ result_values r.2.ops) r.1) (let e : p + suc r.0 ≡ suc p + r.0 = omega arith in e) ∙ r.4))
    (slice_get-behind_cases (phi_values p c ++ result_values c.ops) (values_from (suc p) cs) i v at)

module _ (g : Func) where
  -- how many values stand before the block at a place
  abbrev start : ℕ → ℕ
  start p = length (values_from 0 (take p g.blocks))

  pub block_values_at : (p : ℕ) (c : DialectBlock) → slice_get g.blocks p ≡ Some c → block_values g p ≡ phi_values p c ++ result_values c.ops
  block_values_at p c at = ap (λ (o : Option DialectBlock). option_map_or (λ (c : DialectBlock). phi_values p c ++ result_values c.ops) o []) at

  pub of_block : (p i : ℕ) (v : Value) → slice_get (block_values g p) i ≡ Some v → (c : DialectBlock) × (slice_get g.blocks p ≡ Some c) × (slice_get (phi_values p c ++ result_values c.ops) i ≡ Some v)
  of_block p i v at = by (slice_get g.blocks p) refl at
    where
      by : (o : Option DialectBlock) → slice_get g.blocks p ≡ o → slice_get (option_map_or (λ (c : DialectBlock). phi_values p c ++ result_values c.ops) o []) i ≡ Some v → (c : DialectBlock) × (slice_get g.blocks p ≡ Some c) × (slice_get (phi_values p c ++ result_values c.ops) i ≡ Some v)
      by None e f = absurd (none-some v f)
      by (Some c) e f = (c, e, f)

  at_start : (p i : ℕ) (c : DialectBlock) (v : Value) → slice_get g.blocks p ≡ Some c → slice_get (phi_values p c ++ result_values c.ops) i ≡ Some v → slice_get (values g) (start p + i) ≡ Some v
  at_start p i c v at is =
      ap (λ (vs : List Value). slice_get vs (start p + i)) (values_split g.blocks p c at)
      ∙ slice_get-behind (values_from 0 (take p g.blocks)) ((phi_values p c ++ result_values c.ops) ++ values_from (suc p) (drop (suc p) g.blocks)) i
      ∙ slice_get-kept (phi_values p c ++ result_values c.ops) (values_from (suc p) (drop (suc p) g.blocks)) i v is

  starts_apart : (p q : ℕ) (c : DialectBlock) → slice_get g.blocks p ≡ Some c → p < q → start p + length (phi_values p c ++ result_values c.ops) ≤ start q
  starts_apart p q c at lt =
      let here = phi_values p c ++ result_values c.ops in
      let cs = take q g.blocks in
      let rest = values_from (suc p) (drop (suc p) cs) in
      let front = values_from 0 (take p cs) in
      let whole = ap (λ (vs : List Value). length vs) (values_split cs p c (slice_get-taken q g.blocks p c lt at)) in
      let two = length-append front (here ++ rest) in
      let more = length-append here rest in
      let same : length front ≡ start p = ap (λ (ds : List DialectBlock). length (values_from 0 ds)) (take_take p q g.blocks (omega (arith, lt))) in
      omega (arith, whole, two, more, same)

  module _ (form : IsFormFunc g) where
    pub values_distinct : IsDistinctList (values g)
    values_distinct = from_distinct 0 g.blocks form.block_numbers form.numbers

    one_block : (p q i j : ℕ) (v : Value) → slice_get (block_values g p) i ≡ Some v → slice_get (block_values g q) j ≡ Some v → p ≡ q
    one_block p q i j v at at' =
        let a = of_block p i v at in
        let b = of_block q j v at' in
        let same = values_distinct (start p + i) (start q + j) v (at_start p i a.0 v a.1 a.2) (at_start q j b.0 v b.1 b.2) in
        let lt = slice_get_within (phi_values p a.0 ++ result_values a.0.ops) i v a.2 in
        let lt' = slice_get_within (phi_values q b.0 ++ result_values b.0.ops) j v b.2 in
        elim (cases_order p q) [
          | inl e ↦ e
          | inr rest ↦ ⊎_elim (λ less. absurd (let le = starts_apart p q a.0 a.1 less in omega (arith, same, lt, le))) (λ more. absurd (let le = starts_apart q p b.0 b.1 more in omega (arith, same, lt', le))) rest
        ]

    block_distinct : (p : ℕ) → IsDistinctList (block_values g p)
    block_distinct p i j v at at' =
        let a = of_block p i v at in
        let b = of_block p j v at' in
        let same = values_distinct (start p + i) (start p + j) v (at_start p i a.0 v a.1 a.2) (at_start p j b.0 v b.1 b.2) in
        omega (arith, same)

    module _ (order : List ℕ) (h : IsOrder (length g.blocks) order) where
      pub values_by_distinct : IsDistinctList (values_by order g)
      values_by_distinct =
          distinct_flat (block_values g) order (order_distinct (length g.blocks) order h) (λ k p at. block_distinct p) (λ k l i j p q v at at' is is'. one_block p q i j v is is')

      -- a value in that order is one in the dialect's
      pub values_by_from : (i : ℕ) (v : Value) → slice_get (values_by order g) i ≡ Some v → (k : ℕ) × (slice_get (values g) k ≡ Some v)
      values_by_from i v at =
          let r = from_joined (block_values g) order i v at in
          let b = of_block r.2 r.1 v r.4 in
          (start r.2 + r.1, at_start r.2 r.1 b.0 v b.1 b.2)

      of_place : (p l : ℕ) (c : DialectBlock) (v : Value) → slice_get g.blocks p ≡ Some c → slice_get (phi_values p c ++ result_values c.ops) l ≡ Some v → (k : ℕ) × (slice_get (values_by order g) k ≡ Some v)
      of_place p l c v at is =
          in_joined (block_values g) order (turn_of order p) l p v (turn_at (length g.blocks) order h p (slice_get_within g.blocks p c at)) (ap (λ (vs : List Value). slice_get vs l) (block_values_at p c at) ∙ is)

      -- and the other way round
      pub values_by_at : (i : ℕ) (v : Value) → slice_get (values g) i ≡ Some v → (k : ℕ) × (slice_get (values_by order g) k ≡ Some v)
      values_by_at i v at =
          let r = in_block 0 g.blocks i v at in
          of_place r.0 r.1 r.2 v r.3 (ap (λ (q : ℕ). slice_get (phi_values q r.2 ++ result_values r.2.ops) r.1) (let e : r.0 ≡ 0 + r.0 = omega arith in e) ∙ r.4)

      pub argument_among : (j i : ℕ) (c : DialectBlock) (t : TypeTree) → slice_get g.blocks (suc j) ≡ Some c → slice_get c.args i ≡ Some t → (k : ℕ) × (slice_get (values_by order g) k ≡ Some (Argument (record { 0 = c.number }) i))
      argument_among j i c t at at' =
          of_place (suc j) i c (Argument (record { 0 = c.number }) i) at
          (slice_get-kept (phi_values (suc j) c) (result_values c.ops) i (Argument (record { 0 = c.number }) i)
          (argument_at c.number 0 c.args i t at' ∙ ap (λ (m : ℕ). Some (Argument (record { 0 = c.number }) m)) (let e : 0 + i ≡ i = omega arith in e)))

      pub result_among : (j k : ℕ) (c : DialectBlock) (o : DialectOp) → slice_get g.blocks j ≡ Some c → slice_get c.ops k ≡ Some o → is_constant o ≡ false → (i : ℕ) × (slice_get (values_by order g) i ≡ Some (result o))
      result_among j k c o at at' other =
          let r = other_at c.ops k o at' other in
          of_place j (length (phi_values j c) + r.0) c (result o) at
          (slice_get-behind (phi_values j c) (result_values c.ops) r.0 ∙ slice_get-map result (others_of c.ops) r.0 ∙ ap (option_map result) r.1)

      -- the values before a block, its own, and those behind it
      pub by_split : (j : ℕ) (c : DialectBlock) → slice_get g.blocks j ≡ Some c
          → values_by order g ≡ values_by (take (turn_of order j) order) g ++ ((phi_values j c ++ result_values c.ops) ++ values_by (drop (suc (turn_of order j)) order) g)
      by_split j c at =
          let k = turn_of order j in
          let s = split_at order k j (turn_at (length g.blocks) order h j (slice_get_within g.blocks j c at)) in
          ap (flat_map (block_values g)) s.0 ∙ flat_map-append (block_values g) (take k order) (j ∷ drop (suc k) order)
          ∙ ap (λ (vs : List Value). values_by (take k order) g ++ (vs ++ values_by (drop (suc k) order) g)) (block_values_at j c at)

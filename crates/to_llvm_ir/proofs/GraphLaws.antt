-- The graph of a function of the dialect, as it is found, and the order of an export.
use Rattle.std.proofs.Common.{◌≡◌, ◌<◌, ◌≤◌, ◌+◌, inl, inr, ℕ, zero, suc, Bool, true, false, if◌then◌else◌, nat_eq, Result, Ok, Err, List, [], ◌∷◌, ◌++◌, Option, Some, None, All, length, map, take, slice_get, get_or, refl, sym, ap, subst, ◌∙◌, arith, append_assoc, ⊎_elim, eq-eqb, eqb-true, ne_eqb}
use Rattle.std.specs.Prelude.{IfOk}
use Rattle.std.specs.List.{filter_map, flat_map, cons_option, position_from, range_with_len}
use Rattle.std.specs.Option.{option_map, option_or}
use Rattle.std.proofs.lemmas.Bool.{cond-true, cond-false}
use Rattle.std.proofs.lemmas.Option.{none-some, same_Some, slice_get_within, slice_get-map, slice_get-get_or, get_or_from_slice_get}
use Rattle.std.proofs.lemmas.List.{take_all, length-map}
use Rattle.std.proofs.lemmas.List.Concat.{flat_map-append}
use Rattle.std.proofs.lemmas.List.Elements.{filter_map-append}
use Rattle.std.proofs.lemmas.List.FromFn.{length-range_with_len, get_or-range_with_len}
use Rattle.support.proofs.ListLaws.{all_from, slice_get-take}
use Rattle.block_order.specs.Graph.{IsGraph}
use Rattle.block_order.specs.Order.{IsOrder}
use Rattle.block_order.specs.DepthFirst.{IsDepthFirst}
use Rattle.dialect_types.specs.Trees.{type_trees}
use Rattle.dialect_core.specs.declared.numbers.BlockRef.{BlockRef}
use Rattle.dialect_core.specs.declared.numbers.OpRef.{OpRef}
use Rattle.dialect_core.specs.declared.ops.Value.{Value}
use Rattle.dialect_core.specs.declared.ops.Successor.{Successor}
use Rattle.dialect_core.specs.Lists.{list_at}
use Rattle.dialect_core.specs.ContextData.{ContextData}
use Rattle.dialect_core.specs.Data.{DialectOp, DialectBlock, Func, block_in}
use Rattle.dialect_core.specs.Form.{IsInOrder, StandsBefore, edges_of}
use Rattle.to_llvm_ir.specs.declared.graph.Places.{Places}
use Rattle.to_llvm_ir.specs.Order.{IsExportOrder, IsTaken, StandsBeforeIn, turn_of, block_place, targets_of, graph_of}
use Rattle.to_llvm_ir.specs.Ordering.{IsBlockOf, AreBlocksOf, ArePlacesOf, noted_place, ops_of}
use Rattle.to_llvm_ir.proofs.ListLaws.{take_suc, filter_map_more}
use Rattle.to_llvm_ir.proofs.TurnLaws.{turn_is, taken_at, taken_length}
use Rattle.to_llvm_ir.proofs.ContextLaws.{block_parts}
use Rattle.to_llvm_ir.proofs.OrderingLaws.{ops_more}

-- ---- places

position_push : {X : Type 0} (t : X → Bool) (from : ℕ) (xs : List X) (x : X) → position_from t from (xs ++ x ∷ []) ≡ option_or (position_from t from xs) (if t x then Some (from + length xs) else None)
position_push t from [] x = ap (λ (k : ℕ). if t x then Some k else None) (let e : from ≡ from + 0 = omega arith in e)
position_push {X} t from (y ∷ xs) x = by (t y) (position_push t (from + 1) xs x ∙ ap (λ (k : ℕ). option_or (position_from t (from + 1) xs) (if t x then Some k else None)) (let e : from + 1 + length xs ≡ from + suc (length xs) = omega arith in e))
  where
    by : (b : Bool) → position_from t (from + 1) (xs ++ x ∷ []) ≡ option_or (position_from t (from + 1) xs) (if t x then Some (from + suc (length xs)) else None)
        → (if b then Some from else position_from t (from + 1) (xs ++ x ∷ [])) ≡ option_or (if b then Some from else position_from t (from + 1) xs) (if t x then Some (from + suc (length xs)) else None)
    by true rest = refl
    by false rest = rest

position_none : {X : Type 0} (t : X → Bool) (from : ℕ) (xs : List X) → ((i : ℕ) (x : X) → slice_get xs i ≡ Some x → t x ≡ false) → position_from t from xs ≡ None
position_none t from [] h = refl
position_none t from (x ∷ xs) h = cond-false (t x) (Some from) (position_from t (from + 1) xs) (h 0 x refl) ∙ position_none t (from + 1) xs (λ i y at. h (suc i) y at)

or_none : (o : Option ℕ) → option_or o None ≡ o
or_none None = refl
or_none (Some k) = refl

-- the first blocks have their places
abbrev pub ArePlacesTo : Func → ℕ → Places → Type 0
ArePlacesTo g i places = (b : BlockRef) → noted_place places b ≡ position_from (λ (c : DialectBlock). nat_eq c.number b.0) 0 (take i g.blocks)

pub places_none : (g : Func) (places : Places) → ((b : BlockRef) → noted_place places b ≡ None) → ArePlacesTo g 0 places
places_none g places none b = none b

take_count : {X : Type 0} (xs : List X) (i : ℕ) (x : X) → slice_get xs i ≡ Some x → length (take i xs) ≡ i
take_count [] i x at = absurd (none-some x at)
take_count (y ∷ xs) zero x at = refl
take_count (y ∷ xs) (suc i) x at = ap suc (take_count xs i x at)

pub places_more : (c : ContextData) (g : Func) (bs : List BlockRef) (i place : ℕ) (d : BlockRef) (old new : Places) → AreBlocksOf c g bs → i < length bs → place ≡ i → ((q : BlockRef) → noted_place new q ≡ (if nat_eq (get_or bs i d).0 q.0 then Some place else noted_place old q)) → ArePlacesTo g i old → ArePlacesTo g (i + 1) new
places_more c g bs i place d old new h lt is set before q =
    set q ∙ by (nat_eq b.0 q.0) refl
    ∙ sym (ap (λ (k : ℕ). position_from test 0 (take k g.blocks)) (let e : i + 1 ≡ suc i = omega arith in e) ∙ ap (position_from test 0) (take_suc g.blocks i block.0 block.1.here) ∙ position_push test 0 (take i g.blocks) block.0)
  where
    b : BlockRef
    b = get_or bs i d

    block : (x : DialectBlock) × IsBlockOf c g i x b
    block = h.each i b (slice_get-get_or bs i d lt)

    number : block.0.number ≡ b.0
    number = (block_parts c b block.0 block.1.is).number

    test : DialectBlock → Bool
    test x = nat_eq x.number q.0

    count : 0 + length (take i g.blocks) ≡ place
    count = let e = take_count g.blocks i block.0 block.1.here in omega (arith, e, is)

    by : (t : Bool) → nat_eq b.0 q.0 ≡ t → (if t then Some place else noted_place old q) ≡ option_or (position_from test 0 (take i g.blocks)) (if test block.0 then Some (0 + length (take i g.blocks)) else None)
    by true e =
        let same : b.0 ≡ q.0 = eqb-true b.0 q.0 e in
        let none = position_none test 0 (take i g.blocks) (λ j x at.
        let r = slice_get-take i g.blocks j x at in
        ne_eqb x.number q.0 (λ f. let k = h.apart j i x block.0 r.1 block.1.here (f ∙ sym (number ∙ same)) in let less = r.0 in omega (arith, k, less))) in
        sym (ap (λ (o : Option ℕ). option_or o (if test block.0 then Some (0 + length (take i g.blocks)) else None)) none
        ∙ cond-true (test block.0) (Some (0 + length (take i g.blocks))) None (eq-eqb block.0.number q.0 (number ∙ same)) ∙ ap Some count)
    by false e =
        before q ∙ sym (ap (option_or (position_from test 0 (take i g.blocks))) (cond-false (test block.0) (Some (0 + length (take i g.blocks))) None (ne_eqb block.0.number q.0 (λ f. let k = eq-eqb b.0 q.0 (sym number ∙ f) in let never : true ≡ false = sym k ∙ e in cc)))
        ∙ or_none (position_from test 0 (take i g.blocks)))

pub places_all : (c : ContextData) (g : Func) (bs : List BlockRef) (i : ℕ) (places : Places) → AreBlocksOf c g bs → length bs ≤ i → ArePlacesTo g i places → ArePlacesOf g places
places_all c g bs i places h le to b = to b ∙ ap (position_from (λ (x : DialectBlock). nat_eq x.number b.0) 0) (take_all i g.blocks (let e = h.count in omega (arith, e, le)))

-- ---- rows

abbrev pub place_for : Func → Successor → Option ℕ
place_for g s = block_place g s.block.0

abbrev pub leads : DialectOp → List Successor
leads o = o.successors

pub edges_more : (g : Func) (ss : List Successor) (i : ℕ) (d : Successor) (start old new : List ℕ) (place : Option ℕ) → i < length ss → place ≡ place_for g (get_or ss i d) → old ≡ start ++ filter_map (place_for g) (take i ss) → new ≡ old ++ cons_option place [] → new ≡ start ++ filter_map (place_for g) (take (i + 1) ss)
edges_more g ss i d start old new place lt is before after =
    after ∙ ap (λ (xs : List ℕ). xs ++ cons_option place []) before ∙ append_assoc start (filter_map (place_for g) (take i ss)) (cons_option place [])
    ∙ ap (λ (o : Option ℕ). start ++ (filter_map (place_for g) (take i ss) ++ cons_option o [])) is
    ∙ ap (λ (xs : List ℕ). start ++ xs) (sym (filter_map_more (place_for g) ss i d lt))

pub row_more : (c : ContextData) (g : Func) (ops : List OpRef) (i : ℕ) (d : OpRef) (old new : List ℕ) → i < length ops → old ≡ filter_map (place_for g) (flat_map leads (ops_of c (take i ops))) → new ≡ old ++ filter_map (place_for g) (flat_map leads (ops_of c (get_or ops i d ∷ [])))
    → new ≡ filter_map (place_for g) (flat_map leads (ops_of c (take (i + 1) ops)))
row_more c g ops i d old new lt before after =
    after ∙ ap (λ (xs : List ℕ). xs ++ filter_map (place_for g) (flat_map leads (ops_of c (get_or ops i d ∷ [])))) before
    ∙ sym (filter_map-append (place_for g) (flat_map leads (ops_of c (take i ops))) (flat_map leads (ops_of c (get_or ops i d ∷ []))))
    ∙ ap (filter_map (place_for g)) (sym (flat_map-append leads (ops_of c (take i ops)) (ops_of c (get_or ops i d ∷ []))) ∙ ap (flat_map leads) (sym (ops_more c ops i d lt)))

pub row_all : (c : ContextData) (g : Func) (b : BlockRef) (block : DialectBlock) (ops : List OpRef) (i : ℕ) (row : List ℕ) → block_in (type_trees c.types) c b ≡ Some block → ops ≡ list_at c.lists b → length ops ≤ i → row ≡ filter_map (place_for g) (flat_map leads (ops_of c (take i ops))) → row ≡ targets_of g block
row_all c g b block ops i row is are le h =
    h ∙ ap (λ (os : List OpRef). filter_map (place_for g) (flat_map leads (ops_of c os))) (take_all i ops le ∙ are) ∙ ap (λ (os : List DialectOp). filter_map (place_for g) (flat_map leads os)) (sym (block_parts c b block is).ops)

-- ---- the graph

pub rows_more : (c : ContextData) (g : Func) (bs : List BlockRef) (i : ℕ) (d : BlockRef) (row : List ℕ) (old new : List (List ℕ)) → AreBlocksOf c g bs → i < length bs → ((block : DialectBlock) → block_in (type_trees c.types) c (get_or bs i d) ≡ Some block → row ≡ targets_of g block)
    → old ≡ take i (graph_of g) → new ≡ old ++ row ∷ [] → new ≡ take (i + 1) (graph_of g)
rows_more c g bs i d row old new h lt is before after =
    let b = h.each i (get_or bs i d) (slice_get-get_or bs i d lt) in
    let at : slice_get (graph_of g) i ≡ Some (targets_of g b.0) = slice_get-map (targets_of g) g.blocks i ∙ ap (option_map (targets_of g)) b.1.here in
    after ∙ ap (λ (xs : List (List ℕ)). xs ++ row ∷ []) before ∙ ap (λ (r : List ℕ). take i (graph_of g) ++ r ∷ []) (is b.0 b.1.is)
    ∙ sym (ap (λ (k : ℕ). take k (graph_of g)) (let e : i + 1 ≡ suc i = omega arith in e) ∙ take_suc (graph_of g) i (targets_of g b.0) at)

pub length-graph : (g : Func) → length (graph_of g) ≡ length g.blocks
length-graph g = length-map g.blocks (targets_of g)

pub rows_all : (c : ContextData) (g : Func) (bs : List BlockRef) (i : ℕ) (succs : List (List ℕ)) → AreBlocksOf c g bs → length bs ≤ i → succs ≡ take i (graph_of g) → succs ≡ graph_of g
rows_all c g bs i succs h le is = is ∙ take_all i (graph_of g) (let e = length-graph g in let k = h.count in omega (arith, e, k, le))

position_within : {X : Type 0} (t : X → Bool) (from : ℕ) (xs : List X) (p : ℕ) → position_from t from xs ≡ Some p → p < from + length xs
position_within t from [] p e = absurd (none-some p e)
position_within t from (x ∷ xs) p e = by (t x) e (λ f. position_within t (from + 1) xs p f)
  where
    by : (b : Bool) → (if b then Some from else position_from t (from + 1) xs) ≡ Some p → (position_from t (from + 1) xs ≡ Some p → p < from + 1 + length xs) → p < from + suc (length xs)
    by true e rest = let same = same_Some from p e in omega (arith, same)
    by false e rest = let lt = rest e in omega (arith, lt)

given_within : {X Y : Type 0} (P : Y → Type 0) (f : X → Option Y) (xs : List X) → ((x : X) (y : Y) → f x ≡ Some y → P y) → (i : ℕ) (y : Y) → slice_get (filter_map f xs) i ≡ Some y → P y
given_within P f [] h i y at = absurd (none-some y at)
given_within {X} {Y} P f (x ∷ xs) h i y at = by (f x) refl i at (given_within P f xs h)
  where
    by : (o : Option Y) → f x ≡ o → (i : ℕ) → slice_get (cons_option o (filter_map f xs)) i ≡ Some y → ((i : ℕ) (z : Y) → slice_get (filter_map f xs) i ≡ Some z → P z) → P y
    by None e i at rest = rest i y at
    by (Some z) e zero at rest = subst P (same_Some z y at) (h x z e)
    by (Some z) e (suc i) at rest = rest i y at

mapped_all : {X Y : Type 0} (P : Y → Type 0) (f : X → Y) (xs : List X) → ((x : X) → P (f x)) → All P (map f xs)
mapped_all {X} {Y} P f xs h = all_from P (map f xs) (λ i y at. from xs i y at)
  where
    from : (xs : List X) (i : ℕ) (y : Y) → slice_get (map f xs) i ≡ Some y → P y
    from [] i y at = absurd (none-some y at)
    from (x ∷ xs) zero y at = subst P (same_Some (f x) y at) (h x)
    from (x ∷ xs) (suc i) y at = from xs i y at

-- each block leads to blocks of the function
pub is_graph : (g : Func) → IsGraph (graph_of g)
is_graph g =
    mapped_all (All (λ (t : ℕ). t < length (graph_of g))) (targets_of g) g.blocks
    (λ c. all_from (λ (t : ℕ). t < length (graph_of g)) (targets_of g c) (given_within (λ (t : ℕ). t < length (graph_of g)) (place_for g) (edges_of c)
    (λ s p e. let lt = position_within (λ (b : DialectBlock). nat_eq b.number s.block.0) 0 g.blocks p e in let l = length-graph g in omega (arith, lt, l))))

-- ---- the order

pub counted_at : (n i : ℕ) → i < n → slice_get (range_with_len 0 n) i ≡ Some i
counted_at n i lt =
    slice_get-get_or (range_with_len 0 n) i 0 (let e = length-range_with_len 0 n in omega (arith, e, lt)) ∙ ap Some (get_or-range_with_len 0 n i 0 lt ∙ (let e : 0 + i ≡ i = omega arith in e))

counted_is : (n i p : ℕ) → slice_get (range_with_len 0 n) i ≡ Some p → p ≡ i
counted_is n i p at =
    let lt = slice_get_within (range_with_len 0 n) i p at in
    same_Some p i (sym at ∙ counted_at n i (let e = length-range_with_len 0 n in omega (arith, e, lt)))

pub counted_order : (n : ℕ) → IsOrder n (range_with_len 0 n)
counted_order n = record {
  count = length-range_with_len 0 n;
  within = all_from (λ (x : ℕ). x < n) (range_with_len 0 n) (λ i p at. let is = counted_is n i p at in let lt = slice_get_within (range_with_len 0 n) i p at in let e = length-range_with_len 0 n in omega (arith, is, lt, e));
  once = λ i j d lt within e.
      let len = length-range_with_len 0 n in
      let a = get_or-range_with_len 0 n i d (omega (arith, lt, within, len)) in
      let b = get_or-range_with_len 0 n j d (omega (arith, within, len)) in
      omega (arith, lt, e, a, b);
  each = λ x lt. (x, (let e = length-range_with_len 0 n in omega (arith, e, lt)), get_or_from_slice_get (range_with_len 0 n) x x x (counted_at n x lt));
}

-- in the dialect's order
pub counted_taken : (g : Func) (order : List ℕ) → 0 < length g.blocks → IsInOrder g → order ≡ range_with_len 0 (length g.blocks) → IsTaken g order
counted_taken g order some ord is = record {
  is = inl (ord, is);
  once = subst (IsOrder (length g.blocks)) (sym is) (counted_order (length g.blocks));
  entry_first = ap (λ (ps : List ℕ). slice_get ps 0) is ∙ counted_at (length g.blocks) 0 some;
}

-- and depth first
pub searched_taken : (g : Func) (graph : List (List ℕ)) (order : List ℕ) → 0 < length g.blocks → (IsInOrder g → ⊥) → graph ≡ graph_of g → IsDepthFirst graph order → IsOrder (length graph) order → (0 < length graph → slice_get order 0 ≡ Some 0) → IsTaken g order
searched_taken g graph order some late is depth once first =
    let count : length graph ≡ length g.blocks = ap (λ (xs : List (List ℕ)). length xs) is ∙ length-graph g in
    record {
      is = inr (late, subst (λ (xs : List (List ℕ)). IsDepthFirst xs order) is depth);
      once = subst (λ (k : ℕ). IsOrder k order) count once;
      entry_first = first (omega (arith, some, count));
    }

counted_last : (a n : ℕ) → range_with_len a (suc n) ≡ range_with_len a n ++ (a + n) ∷ []
counted_last a zero = ap (λ (k : ℕ). k ∷ []) (let e : a ≡ a + 0 = omega arith in e)
counted_last a (suc n) = ap (λ (xs : List ℕ). a ∷ xs) (counted_last (a + 1) n ∙ ap (λ (k : ℕ). range_with_len (a + 1) n ++ k ∷ []) (let e : a + 1 + n ≡ a + suc n = omega arith in e))

pub counted_more : (i place : ℕ) (old new : List ℕ) → old ≡ range_with_len 0 i → place ≡ i → new ≡ old ++ place ∷ [] → new ≡ range_with_len 0 (i + 1)
counted_more i place old new before is after =
    after ∙ ap (λ (xs : List ℕ). xs ++ place ∷ []) before ∙ ap (λ (k : ℕ). range_with_len 0 i ++ k ∷ []) is ∙ sym (ap (range_with_len 0) (let e : i + 1 ≡ suc i = omega arith in e) ∙ counted_last 0 i ∙ ap (λ (k : ℕ). range_with_len 0 i ++ k ∷ []) (let e : 0 + i ≡ i = omega arith in e))

-- ---- a function in order

same_list : {X : Type 0} (xs ys : List X) → length xs ≡ length ys → ((i : ℕ) (y : X) → slice_get ys i ≡ Some y → slice_get xs i ≡ Some y) → xs ≡ ys
same_list [] [] e h = refl
same_list [] (y ∷ ys) e h = absurd (omega (arith, e))
same_list (x ∷ xs) [] e h = absurd (omega (arith, e))
same_list (x ∷ xs) (y ∷ ys) e h = ap (λ z. z ∷ xs) (same_Some x y (h 0 y refl)) ∙ ap (λ zs. y ∷ zs) (same_list xs ys (omega (arith, e)) (λ i z at. h (suc i) z at))

arranged_same : (g : Func) → filter_map (slice_get g.blocks) (range_with_len 0 (length g.blocks)) ≡ g.blocks
arranged_same g =
    let n = length g.blocks in
    let once = counted_order n in
    same_list (filter_map (slice_get g.blocks) (range_with_len 0 n)) g.blocks (taken_length g.blocks (range_with_len 0 n) once) (λ i c at. taken_at g.blocks (range_with_len 0 n) once i i c (counted_at n i (slice_get_within g.blocks i c at)) at)

-- in the order of an export, what stands before in the dialect's order does so
pub stands_in_order : (g : Func) (order : List ℕ) (j k : ℕ) (v : Value) → IsInOrder g → IsExportOrder g order → j < length g.blocks → StandsBefore g j k v → StandsBeforeIn order g j k v
stands_in_order g order j k v ord is lt stands = ⊎_elim
    (λ same.
    let n = length g.blocks in
    let turn = turn_is n (range_with_len 0 n) (counted_order n) j j (counted_at n j lt) in
    subst (λ (ps : List ℕ). StandsBeforeIn ps g j k v) (sym same.1)
    (subst (λ (bs : List DialectBlock). StandsBefore (record g { blocks = bs }) (turn_of (range_with_len 0 n) j) k v) (sym (arranged_same g)) (subst (λ (i : ℕ). StandsBefore g i k v) (sym turn) stands)))
    (λ deep. absurd (deep.0 ord))
    is

-- the counted order, where each value stands before its uses in it
pub counted_answer : {E O : Type 0} (items : O → List ℕ) (c : ContextData) (bs : List BlockRef) (count : ℕ) (r : Result O E) → ((g : Func) → AreBlocksOf c g bs → IsInOrder g) → count ≡ length bs → IfOk r (λ o. items o ≡ range_with_len 0 count)
    → IfOk r (λ o. (g : Func) → AreBlocksOf c g bs → IsTaken g (items o))
counted_answer items c bs count (Ok o) ord len is = λ g h. counted_taken g (items o) h.some (ord g h) (is ∙ ap (range_with_len 0) (len ∙ h.count))
counted_answer items c bs count (Err e) ord len is = tt

pub searched_answer : {E O : Type 0} (items : O → List ℕ) (c : ContextData) (bs : List BlockRef) (succs : List (List ℕ)) (r : Result O E) → ((g : Func) → AreBlocksOf c g bs → IsInOrder g → ⊥) → ((g : Func) → AreBlocksOf c g bs → succs ≡ graph_of g)
    → IfOk r (λ o. IsDepthFirst succs (items o)) → IfOk r (λ o. IsOrder (length succs) (items o)) → IfOk r (λ o. 0 < length succs → slice_get (items o) 0 ≡ Some 0) → IfOk r (λ o. (g : Func) → AreBlocksOf c g bs → IsTaken g (items o))
searched_answer items c bs succs (Ok o) late is depth once first = λ g h. searched_taken g succs (items o) h.some (late g h) (is g h) depth once first
searched_answer items c bs succs (Err e) late is depth once first = tt

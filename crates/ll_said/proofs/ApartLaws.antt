-- No two things of a function have one place: each is new where it is defined.
use Rattle.std.proofs.Common.{◌≡◌, ◌≢◌, ℕ, suc, ◌+◌, ◌≤◌, ◌⊎◌, inl, inr, Bool, true, false, List, [], ◌∷◌, ◌++◌, length, length-append, map, slice_get, Some, refl, ap, sym, ◌∙◌, subst, ne_eqb, arith}
use Rattle.std.specs.List.{flat_map}
use Rattle.std.specs.Option.{option_map}
use Rattle.std.proofs.lemmas.Bool.{cond_both}
use Rattle.std.proofs.lemmas.List.{map-append}
use Rattle.std.proofs.lemmas.Option.{slice_get-map, slice_get_within}
use Rattle.support.specs.Interned.{IsDistinctList}
use Rattle.kinds.specs.Held.{is_void}
use Rattle.llvm_core.specs.Data.{Placed, Block, Function, placed_in}
use Rattle.llvm_core.specs.Form.{HasNumber}
use Rattle.support.proofs.ListLaws.{slice_get-kept, slice_get-behind}
use Rattle.ll_literals.specs.Text.{Text}
use Rattle.ll_said.specs.Naming.{Unnamed, ParamAt, BlockOf, ResultOf, same_unnamed, if_unnamed}
use Rattle.ll_said.proofs.PositionLaws.{position, position_cons, position_behind, same_self, same_is}
use Rattle.ll_said.proofs.ScopeLaws.{Thing, Has, unnamed}
use Rattle.ll_said.proofs.ThingLaws.{HasBlockNumber, param_things, thing_of, result_thing, result_things, block_things, things, has_behind, has_either}

-- no thing of the list has that place
abbrev pub IsNew : Unnamed → List Thing → Type 0
IsNew x ts = (t : Thing) → Has t ts → same_unnamed x t.place ≡ false

-- no place stands twice
abbrev pub Apart : List Thing → Type 0
Apart [] = Unit {0}
Apart (t ∷ ts) = IsNew t.place ts × Apart ts

apart_both : (xs ys : List Thing) → Apart xs → Apart ys → ((t : Thing) → Has t xs → IsNew t.place ys) → Apart (xs ++ ys)
apart_both [] ys a b h = b
apart_both (x ∷ xs) ys a b h = (misses, apart_both xs ys a.1 b (λ t has. h t (inr has)))
  where
    misses : IsNew x.place (xs ++ ys)
    misses t has = by (has_either t xs ys has)
      where
        by : Has t xs ⊎ Has t ys → same_unnamed x.place t.place ≡ false
        by (inl front) = a.0 t front
        by (inr behind) = h x (inl refl) t behind

-- ---- numbers

-- numbers of two lists differ
abbrev Differ : List ℕ → List ℕ → Type 0
Differ xs ys = (i j n : ℕ) → slice_get xs i ≡ Some n → slice_get ys j ≢ Some n

distinct_front : (xs ys : List ℕ) → IsDistinctList (xs ++ ys) → IsDistinctList xs
distinct_front xs ys h i j x a b = h i j x (slice_get-kept xs ys i x a) (slice_get-kept xs ys j x b)

distinct_behind : (xs ys : List ℕ) → IsDistinctList (xs ++ ys) → IsDistinctList ys
distinct_behind xs ys h i j x a b =
    let e : length xs + i ≡ length xs + j = h (length xs + i) (length xs + j) x (slice_get-behind xs ys i ∙ a) (slice_get-behind xs ys j ∙ b) in
    omega arith

distinct_differ : (xs ys : List ℕ) → IsDistinctList (xs ++ ys) → Differ xs ys
distinct_differ xs ys h i j n a b =
    let e : i ≡ length xs + j = h i (length xs + j) n (slice_get-kept xs ys i n a) (slice_get-behind xs ys j ∙ b) in
    omega (arith, e, slice_get_within xs i n a)

-- the numbers of instructions and of blocks
abbrev numbers : List Placed → List ℕ
numbers ps = map (λ (p : Placed). p.number) ps

abbrev block_numbers : List Block → List ℕ
block_numbers bs = map (λ (b : Block). b.number) bs

numbers_have : (ps : List Placed) (n : ℕ) → HasNumber n ps → (i : ℕ) × (slice_get (numbers ps) i ≡ Some n)
numbers_have ps n h = (h.0, slice_get-map (λ (p : Placed). p.number) ps h.0 ∙ ap (option_map (λ (p : Placed). p.number)) h.2 ∙ ap (λ (k : ℕ). Some k) h.3)

blocks_have : (bs : List Block) (n : ℕ) → HasBlockNumber n bs → (i : ℕ) × (slice_get (block_numbers bs) i ≡ Some n)
blocks_have bs n h = (h.0, slice_get-map (λ (b : Block). b.number) bs h.0 ∙ ap (option_map (λ (b : Block). b.number)) h.2 ∙ ap (λ (k : ℕ). Some k) h.3)

number_front : (n : ℕ) (ps qs : List Placed) → HasNumber n ps → HasNumber n (ps ++ qs)
number_front n ps qs h = (h.0, h.1, slice_get-kept ps qs h.0 h.1 h.2, h.3)

number_behind : (n : ℕ) (ps qs : List Placed) → HasNumber n qs → HasNumber n (ps ++ qs)
number_behind n ps qs h = (length ps + h.0, h.1, slice_get-behind ps qs h.0 ∙ h.2, h.3)

-- ---- what places there are

is_result_here : (p : Placed) (u : Thing) → Has u (result_thing p) → u.place ≡ ResultOf p.number
is_result_here p u =
    cond_both (is_void p.type) [] (thing_of p ∷ []) (λ (ts : List Thing). Has u ts → u.place ≡ ResultOf p.number) (λ e h. absurd h)
    (λ e h. elim h [ inl same ↦ sym (ap (λ (t : Thing). t.place) same) | inr h ↦ absurd h ])

-- that of an instruction
is_result : (ps : List Placed) (u : Thing) → Has u (result_things ps) → (n : ℕ) × HasNumber n ps × (u.place ≡ ResultOf n)
is_result [] u h = absurd h
is_result (p ∷ ps) u h = by (is_result ps u) (has_either u (result_thing p) (result_things ps) h)
  where
    by : (Has u (result_things ps) → (n : ℕ) × HasNumber n ps × (u.place ≡ ResultOf n)) → Has u (result_thing p) ⊎ Has u (result_things ps) → (n : ℕ) × HasNumber n (p ∷ ps) × (u.place ≡ ResultOf n)
    by further (inl here) = (p.number, (0, p, refl, refl), is_result_here p u here)
    by further (inr later) = let o = further later in (o.0, (suc o.1.0, o.1.1, o.1.2, o.1.3), o.2)

-- that of a parameter behind others
is_param : (k : ℕ) (ns : List Text) (u : Thing) → Has u (param_things k ns) → (i : ℕ) × (k ≤ i) × (u.place ≡ ParamAt i)
is_param k [] u h = absurd h
is_param k (n ∷ ns) u (inl same) = (k, omega arith, sym (ap (λ (v : Thing). v.place) same))
is_param k (n ∷ ns) u (inr h) = let o = is_param (suc k) ns u h in (o.0, let g : k ≤ o.0 = omega (arith, o.1) in g, o.2)

-- that of a block or of an instruction
abbrev InBlocks : List Block → Unnamed → Type 0
InBlocks bs x = ((n : ℕ) × HasBlockNumber n bs × (x ≡ BlockOf n)) ⊎ ((n : ℕ) × HasNumber n (flat_map (λ (b : Block). b.instructions) bs) × (x ≡ ResultOf n))

is_in_blocks : (bs : List Block) (u : Thing) → Has u (flat_map block_things bs) → InBlocks bs u.place
is_in_blocks [] u h = absurd h
is_in_blocks (b ∷ bs) u h = by (is_in_blocks bs u) (has_either u (block_things b) (flat_map block_things bs) h)
  where
    rest : List Placed
    rest = flat_map (λ (b : Block). b.instructions) bs

    later : InBlocks bs u.place → InBlocks (b ∷ bs) u.place
    later (inl o) = inl (o.0, (suc o.1.0, o.1.1, o.1.2, o.1.3), o.2)
    later (inr o) = inr (o.0, number_behind o.0 b.instructions rest o.1, o.2)

    by : (Has u (flat_map block_things bs) → InBlocks bs u.place) → Has u (block_things b) ⊎ Has u (flat_map block_things bs) → InBlocks (b ∷ bs) u.place
    by further (inl (inl same)) = inl (b.number, (0, b, refl, refl), sym (ap (λ (v : Thing). v.place) same))
    by further (inl (inr result)) = let o = is_result b.instructions u result in inr (o.0, number_front o.0 b.instructions rest o.1, o.2)
    by further (inr other) = later (further other)

-- ---- no place stands twice

apart_params : (k : ℕ) (ns : List Text) → Apart (param_things k ns)
apart_params k [] = tt
apart_params k (n ∷ ns) = (λ t has. let o = is_param (suc k) ns t has in ap (same_unnamed (ParamAt k)) o.2 ∙ ne_eqb k o.0 (λ e. omega (arith, e, o.1)), apart_params (suc k) ns)

apart_one : (p : Placed) → Apart (result_thing p)
apart_one p = cond_both (is_void p.type) [] (thing_of p ∷ []) Apart (λ e. tt) (λ e. (λ u has. absurd has, tt))

-- two results of lists whose numbers differ
results_differ : (ps qs : List Placed) (t u : Thing) (m : ℕ) → Differ (numbers ps) (numbers qs) → Has t (result_things ps) → HasNumber m qs → u.place ≡ ResultOf m → same_unnamed t.place u.place ≡ false
results_differ ps qs t u m differ has there at =
    let o = is_result ps t has in
    let a = numbers_have ps o.0 o.1 in
    let b = numbers_have qs m there in
    ap (λ (x : Unnamed). same_unnamed x u.place) o.2 ∙ ap (same_unnamed (ResultOf o.0)) at
    ∙ ne_eqb o.0 m (λ e. differ a.0 b.0 o.0 a.1 (b.1 ∙ ap (λ (k : ℕ). Some k) (sym e)))

apart_results : (ps : List Placed) → IsDistinctList (numbers ps) → Apart (result_things ps)
apart_results [] h = tt
apart_results (p ∷ ps) h =
    apart_both (result_thing p) (result_things ps) (apart_one p) (apart_results ps (distinct_behind (p.number ∷ []) (numbers ps) h)) (λ t here u has.
    let o = is_result ps u has in
    let b = numbers_have ps o.0 o.1 in
    ap (λ (x : Unnamed). same_unnamed x u.place) (is_result_here p t here) ∙ ap (same_unnamed (ResultOf p.number)) o.2
    ∙ ne_eqb p.number o.0 (λ e. distinct_differ (p.number ∷ []) (numbers ps) h 0 b.0 o.0 (ap (λ (k : ℕ). Some k) e) b.1))

apart_blocks : (bs : List Block) → IsDistinctList (block_numbers bs) → IsDistinctList (numbers (flat_map (λ (b : Block). b.instructions) bs)) → Apart (flat_map block_things bs)
apart_blocks [] h g = tt
apart_blocks (b ∷ bs) h g = (
  block_new,
  apart_both (result_things b.instructions) (flat_map block_things bs) (apart_results b.instructions (distinct_front (numbers b.instructions) (numbers rest) parts))
      (apart_blocks bs (distinct_behind (b.number ∷ []) (block_numbers bs) h) (distinct_behind (numbers b.instructions) (numbers rest) parts)) results_new,
)
  where
    rest : List Placed
    rest = flat_map (λ (b : Block). b.instructions) bs

    parts : IsDistinctList (numbers b.instructions ++ numbers rest)
    parts = subst (λ (ns : List ℕ). IsDistinctList ns) (map-append (λ (p : Placed). p.number) b.instructions rest) g

    block_later : (u : Thing) → InBlocks bs u.place → same_unnamed (BlockOf b.number) u.place ≡ false
    block_later u (inl o) =
        let c = blocks_have bs o.0 o.1 in
        ap (same_unnamed (BlockOf b.number)) o.2 ∙ ne_eqb b.number o.0 (λ e. distinct_differ (b.number ∷ []) (block_numbers bs) h 0 c.0 o.0 (ap (λ (k : ℕ). Some k) e) c.1)
    block_later u (inr o) = ap (same_unnamed (BlockOf b.number)) o.2

    block_by : (u : Thing) → Has u (result_things b.instructions) ⊎ Has u (flat_map block_things bs) → same_unnamed (BlockOf b.number) u.place ≡ false
    block_by u (inl result) = ap (same_unnamed (BlockOf b.number)) (is_result b.instructions u result).2
    block_by u (inr later) = block_later u (is_in_blocks bs u later)

    block_new : IsNew (BlockOf b.number) (result_things b.instructions ++ flat_map block_things bs)
    block_new u has = block_by u (has_either u (result_things b.instructions) (flat_map block_things bs) has)

    result_later : (t u : Thing) → Has t (result_things b.instructions) → InBlocks bs u.place → same_unnamed t.place u.place ≡ false
    result_later t u has (inl o) = ap (λ (x : Unnamed). same_unnamed x u.place) (is_result b.instructions t has).2 ∙ ap (same_unnamed (ResultOf (is_result b.instructions t has).0)) o.2
    result_later t u has (inr o) = results_differ b.instructions rest t u o.0 (distinct_differ (numbers b.instructions) (numbers rest) parts) has o.1 o.2

    results_new : (t : Thing) → Has t (result_things b.instructions) → IsNew t.place (flat_map block_things bs)
    results_new t has u later = result_later t u has (is_in_blocks bs u later)

param_by : (i : ℕ) (bs : List Block) (x : Unnamed) → InBlocks bs x → same_unnamed (ParamAt i) x ≡ false
param_by i bs x (inl o) = ap (same_unnamed (ParamAt i)) o.2
param_by i bs x (inr o) = ap (same_unnamed (ParamAt i)) o.2

pub apart_things : (f : Function) → IsDistinctList (map (λ (b : Block). b.number) f.blocks) → IsDistinctList (map (λ (p : Placed). p.number) (placed_in f)) → Apart (things f)
apart_things f h g =
    apart_both (param_things 0 f.params) (flat_map block_things f.blocks) (apart_params 0 f.params) (apart_blocks f.blocks h g) (λ t has u later.
    let o = is_param 0 f.params t has in
    ap (λ (x : Unnamed). same_unnamed x u.place) o.2 ∙ param_by o.0 f.blocks u.place (is_in_blocks f.blocks u later))

-- ---- what is not yet there

absent_one : (x : Unnamed) (n : Text) (y : Unnamed) → same_unnamed x y ≡ false → position x (if_unnamed n y) ≡ length (if_unnamed n y)
absent_one x [] y h = omega (arith, position_cons x y [] h)
absent_one x (b ∷ bs) y h = refl

absent : (x : Unnamed) (ts : List Thing) → IsNew x ts → position x (unnamed ts) ≡ length (unnamed ts)
absent x [] h = refl
absent x (t ∷ ts) h =
    let one = absent_one x t.name t.place (h t (inl refl)) in
    let o = absent x ts (λ u g. h u (inr g)) in
    omega (arith, position_behind x (if_unnamed t.name t.place) (unnamed ts) one, o, length-append (if_unnamed t.name t.place) (unnamed ts))

same_back : (x y : Unnamed) → same_unnamed y x ≡ false → same_unnamed x y ≡ false
same_back x y h = by (same_unnamed x y) refl
  where
    by : (b : Bool) → same_unnamed x y ≡ b → b ≡ false
    by true e = absurd (let g : same_unnamed y x ≡ true = ap (same_unnamed y) (same_is x y e) ∙ same_self y in cc)
    by false e = refl

misses_behind : (done rest : List Thing) (t : Thing) → Apart (done ++ t ∷ rest) → IsNew t.place done
misses_behind [] rest t apart u has = absurd has
misses_behind (d ∷ done) rest t apart u (inl same) = ap (λ (v : Thing). same_unnamed t.place v.place) (sym same) ∙ same_back t.place d.place (apart.0 t (has_behind t done (t ∷ rest) (inl refl)))
misses_behind (d ∷ done) rest t apart u (inr has) = misses_behind done rest t apart.1 u has

-- the next thing is none of those before it
pub new_next : (done rest : List Thing) (t : Thing) → Apart (done ++ t ∷ rest) → position t.place (unnamed done) ≡ length (unnamed done)
new_next done rest t apart = absent t.place done (misses_behind done rest t apart)

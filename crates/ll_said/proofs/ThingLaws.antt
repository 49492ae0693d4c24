-- The parameters, the blocks and the results of a function, in the order of its text.
use Rattle.std.proofs.Common.{◌≡◌, ℕ, zero, suc, ◌+◌, ◌⊎◌, inl, inr, Bool, true, false, if◌then◌else◌, List, [], ◌∷◌, ◌++◌, slice_get, Some, refl, ap, sym, ◌∙◌, subst, arith}
use Rattle.std.specs.List.{flat_map}
use Rattle.std.proofs.lemmas.Bool.{cond_both}
use Rattle.std.proofs.lemmas.List.{append-nil}
use Rattle.std.proofs.lemmas.Grind.{flat_map-append}
use Rattle.kinds.specs.Held.{is_void}
use Rattle.kinds.proofs.HeldLaws.{void_is}
use Rattle.llvm_core.specs.Checked.{named}
use Rattle.llvm_core.specs.Data.{VoidType, Placed, Block, Function}
use Rattle.llvm_core.specs.Form.{names_in, local_names}
use Rattle.ll_literals.specs.Text.{Text}
use Rattle.ll_said.specs.Naming.{Unnamed, ParamAt, BlockOf, ResultOf, if_unnamed, unnamed_params, unnamed_result, unnamed_block, unnamed_in}
use Rattle.ll_said.proofs.ScopeLaws.{Thing, Has, unnamed, names}

abbrev pub param_things : ℕ → List Text → List Thing
param_things i [] = []
param_things i (n ∷ ns) = (record { name = n; place = ParamAt i }) ∷ param_things (suc i) ns

abbrev pub block_thing : Block → Thing
block_thing b = record { name = b.name; place = BlockOf b.number }

abbrev pub thing_of : Placed → Thing
thing_of p = record { name = p.name; place = ResultOf p.number }

-- of an instruction: its result, where it has one
abbrev pub result_thing : Placed → List Thing
result_thing p = if is_void p.type then [] else thing_of p ∷ []

abbrev pub result_things : List Placed → List Thing
result_things ps = flat_map result_thing ps

-- a block, and then its results
abbrev pub block_things : Block → List Thing
block_things b = block_thing b ∷ result_things b.instructions

-- of a function
abbrev pub things : Function → List Thing
things f = param_things 0 f.params ++ flat_map block_things f.blocks

-- ---- their names and their unnamed ones

unnamed_of_params : (i : ℕ) (ns : List Text) → unnamed (param_things i ns) ≡ unnamed_params i ns
unnamed_of_params i [] = refl
unnamed_of_params i (n ∷ ns) = ap (λ (xs : List Unnamed). if_unnamed n (ParamAt i) ++ xs) (unnamed_of_params (suc i) ns)

names_of_params : (i : ℕ) (ns : List Text) → names (param_things i ns) ≡ flat_map named ns
names_of_params i [] = refl
names_of_params i (n ∷ ns) = ap (λ (xs : List Text). named n ++ xs) (names_of_params (suc i) ns)

unnamed_of_result : (p : Placed) → unnamed (result_thing p) ≡ unnamed_result p.type p
unnamed_of_result p = by (is_void p.type)
  where
    by : (v : Bool) → unnamed (if v then [] else thing_of p ∷ []) ≡ (if v then [] else if_unnamed p.name (ResultOf p.number))
    by true = refl
    by false = append-nil (if_unnamed p.name (ResultOf p.number))

unnamed_of_results : (ps : List Placed) → unnamed (result_things ps) ≡ flat_map (λ (p : Placed). unnamed_result p.type p) ps
unnamed_of_results [] = refl
unnamed_of_results (p ∷ ps) =
    flat_map-append (λ (t : Thing). if_unnamed t.name t.place) (result_thing p) (result_things ps)
    ∙ ap (λ (xs : List Unnamed). xs ++ unnamed (result_things ps)) (unnamed_of_result p)
    ∙ ap (λ (xs : List Unnamed). unnamed_result p.type p ++ xs) (unnamed_of_results ps)

unnamed_of_blocks : (bs : List Block) → unnamed (flat_map block_things bs) ≡ flat_map unnamed_block bs
unnamed_of_blocks [] = refl
unnamed_of_blocks (b ∷ bs) =
    flat_map-append (λ (t : Thing). if_unnamed t.name t.place) (block_things b) (flat_map block_things bs)
    ∙ ap (λ (xs : List Unnamed). (if_unnamed b.name (BlockOf b.number) ++ xs) ++ unnamed (flat_map block_things bs)) (unnamed_of_results b.instructions)
    ∙ ap (λ (xs : List Unnamed). unnamed_block b ++ xs) (unnamed_of_blocks bs)

pub unnamed_of_things : (f : Function) → unnamed (things f) ≡ unnamed_in f
unnamed_of_things f =
    flat_map-append (λ (t : Thing). if_unnamed t.name t.place) (param_things 0 f.params) (flat_map block_things f.blocks)
    ∙ ap (λ (xs : List Unnamed). xs ++ unnamed (flat_map block_things f.blocks)) (unnamed_of_params 0 f.params)
    ∙ ap (λ (xs : List Unnamed). unnamed_params 0 f.params ++ xs) (unnamed_of_blocks f.blocks)

-- what has no result has no name
abbrev pub NamesResults : List Placed → Type 0
NamesResults ps = (i : ℕ) (p : Placed) → slice_get ps i ≡ Some p → p.type ≡ VoidType → p.name ≡ []

names_of_result : (p : Placed) → (p.type ≡ VoidType → p.name ≡ []) → names (result_thing p) ≡ named p.name
names_of_result p h = cond_both (is_void p.type) [] (thing_of p ∷ []) (λ (ts : List Thing). names ts ≡ named p.name) (λ e. ap named (sym (h (void_is p.type e)))) (λ e. append-nil (named p.name))

names_of_results : (ps : List Placed) → NamesResults ps → names (result_things ps) ≡ flat_map (λ (p : Placed). named p.name) ps
names_of_results [] h = refl
names_of_results (p ∷ ps) h =
    flat_map-append (λ (t : Thing). named t.name) (result_thing p) (result_things ps)
    ∙ ap (λ (xs : List Text). xs ++ names (result_things ps)) (names_of_result p (h 0 p refl))
    ∙ ap (λ (xs : List Text). named p.name ++ xs) (names_of_results ps (λ i q at. h (suc i) q at))

-- and so in each block
abbrev pub AllNameResults : List Block → Type 0
AllNameResults bs = (i : ℕ) (b : Block) → slice_get bs i ≡ Some b → NamesResults b.instructions

names_of_blocks : (bs : List Block) → AllNameResults bs → names (flat_map block_things bs) ≡ flat_map names_in bs
names_of_blocks [] h = refl
names_of_blocks (b ∷ bs) h =
    flat_map-append (λ (t : Thing). named t.name) (block_things b) (flat_map block_things bs)
    ∙ ap (λ (xs : List Text). (named b.name ++ xs) ++ names (flat_map block_things bs)) (names_of_results b.instructions (h 0 b refl))
    ∙ ap (λ (xs : List Text). names_in b ++ xs) (names_of_blocks bs (λ i c at. h (suc i) c at))

pub names_of_things : (f : Function) → AllNameResults f.blocks → names (things f) ≡ local_names f
names_of_things f h =
    flat_map-append (λ (t : Thing). named t.name) (param_things 0 f.params) (flat_map block_things f.blocks)
    ∙ ap (λ (xs : List Text). xs ++ names (flat_map block_things f.blocks)) (names_of_params 0 f.params)
    ∙ ap (λ (xs : List Text). flat_map named f.params ++ xs) (names_of_blocks f.blocks h)

-- ---- which of them there are

-- one of the blocks has that number
abbrev pub HasBlockNumber : ℕ → List Block → Type 0
HasBlockNumber n bs = (i : ℕ) × (b : Block) × (slice_get bs i ≡ Some b) × (b.number ≡ n)

pub has_front : (t : Thing) (xs ys : List Thing) → Has t xs → Has t (xs ++ ys)
has_front t [] ys h = absurd h
has_front t (x ∷ xs) ys (inl same) = inl same
has_front t (x ∷ xs) ys (inr other) = inr (has_front t xs ys other)

pub has_behind : (t : Thing) (xs ys : List Thing) → Has t ys → Has t (xs ++ ys)
has_behind t [] ys h = h
has_behind t (x ∷ xs) ys h = inr (has_behind t xs ys h)

pub has_either : (t : Thing) (xs ys : List Thing) → Has t (xs ++ ys) → Has t xs ⊎ Has t ys
has_either t [] ys h = inr h
has_either t (x ∷ xs) ys (inl same) = inl (inl same)
has_either t (x ∷ xs) ys (inr other) = elim (has_either t xs ys other) [ inl h ↦ inl (inr h) | inr h ↦ inr h ]

pub has_param : (k i : ℕ) (ns : List Text) (n : Text) → slice_get ns i ≡ Some n → Has (record { name = n; place = ParamAt (k + i) }) (param_things k ns)
has_param k i [] n at = absurd cc
has_param k zero (m ∷ ns) n at =
    let same : m ≡ n = cc in
    let e : k ≡ k + 0 = omega arith in
    inl (rw same (ap (λ (j : ℕ). let t : Thing = record { name = n; place = ParamAt j } in t) e))
has_param k (suc i) (m ∷ ns) n at = inr (let e : suc k + i ≡ k + suc i = omega arith in subst (λ (j : ℕ). Has (record { name = n; place = ParamAt j }) (param_things (suc k) ns)) e (has_param (suc k) i ns n at))

has_result : (ps : List Placed) (i : ℕ) (p : Placed) → slice_get ps i ≡ Some p → is_void p.type ≡ false → Has (thing_of p) (result_things ps)
has_result [] i p at h = absurd cc
has_result (q ∷ ps) zero p at h =
    let same : q ≡ p = cc in
    let here : Has (thing_of p) (result_thing p) = rw h (inl refl) in
    has_front (thing_of p) (result_thing q) (result_things ps) (rw same here)
has_result (q ∷ ps) (suc i) p at h = has_behind (thing_of p) (result_thing q) (result_things ps) (has_result ps i p at h)

pub has_block : (bs : List Block) (i : ℕ) (b : Block) → slice_get bs i ≡ Some b → Has (block_thing b) (flat_map block_things bs)
has_block [] i b at = absurd cc
has_block (c ∷ bs) zero b at = let same : c ≡ b = cc in inl (ap block_thing same)
has_block (c ∷ bs) (suc i) b at = has_behind (block_thing b) (block_things c) (flat_map block_things bs) (has_block bs i b at)

-- the results of all instructions are among them
results_in : (bs : List Block) (t : Thing) → Has t (result_things (flat_map (λ (b : Block). b.instructions) bs)) → Has t (flat_map block_things bs)
results_in [] t h = h
results_in (b ∷ bs) t h =
    by (results_in bs t) (has_either t (result_things b.instructions) (result_things rest) (subst (Has t) (flat_map-append result_thing b.instructions rest) h))
  where
    rest : List Placed
    rest = flat_map (λ (b : Block). b.instructions) bs

    by : (Has t (result_things rest) → Has t (flat_map block_things bs)) → Has t (result_things b.instructions) ⊎ Has t (result_things rest) → Has t (block_things b ++ flat_map block_things bs)
    by further (inl here) = has_front t (block_things b) (flat_map block_things bs) (inr here)
    by further (inr later) = has_behind t (block_things b) (flat_map block_things bs) (further later)

pub has_placed : (bs : List Block) (i : ℕ) (p : Placed) → slice_get (flat_map (λ (b : Block). b.instructions) bs) i ≡ Some p → is_void p.type ≡ false → Has (thing_of p) (flat_map block_things bs)
has_placed bs i p at h = results_in bs (thing_of p) (has_result (flat_map (λ (b : Block). b.instructions) bs) i p at h)

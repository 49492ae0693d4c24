-- Things that are numbered in order, part by part.
use Rattle.std.proofs.Common.{◌≡◌, ℕ, zero, suc, ◌+◌, List, [], ◌∷◌, ◌++◌, length, length-append, map, slice_get, Some, refl, ap, sym, ◌∙◌, subst, arith}
use Rattle.std.specs.List.{flat_map}
use Rattle.std.proofs.lemmas.Grind.{flat_map-append}
use Rattle.support.specs.Interned.{IsDistinctList}
use Rattle.llvm_core.specs.Data.{Placed, Block, Function}
use Rattle.ll_bodies.specs.Meaning.{count_insts}
use Rattle.ll_said.specs.Sayable.{counting}

-- the items have the numbers n, n + 1, ..
abbrev pub IsCounted : {X : Type 0} → (X → ℕ) → ℕ → List X → Type 0
IsCounted number n [] = Unit {0}
IsCounted number n (x ∷ xs) = (number x ≡ n) × IsCounted number (suc n) xs

pub counted : {X : Type 0} (number : X → ℕ) (n : ℕ) (xs : List X) → map number xs ≡ counting n xs → IsCounted number n xs
counted number n [] e = tt
counted number n (x ∷ xs) e = let here : number x ≡ n = cc in let rest : map number xs ≡ counting (suc n) xs = cc in (here, counted number (suc n) xs rest)

pub counted_split : {X : Type 0} (number : X → ℕ) (n : ℕ) (xs ys : List X) → IsCounted number n (xs ++ ys) → IsCounted number n xs × IsCounted number (n + length xs) ys
counted_split number n [] ys h = let e : n ≡ n + 0 = omega arith in (tt, subst (λ (k : ℕ). IsCounted number k ys) e h)
counted_split number n (x ∷ xs) ys h =
    let o = counted_split number (suc n) xs ys h.1 in
    let e : suc n + length xs ≡ n + suc (length xs) = omega arith in
    ((h.0, o.0), subst (λ (k : ℕ). IsCounted number k ys) e o.1)

-- ---- blocks, with their instructions

abbrev pub placed_number : Placed → ℕ
placed_number p = p.number

abbrev pub block_number : Block → ℕ
block_number b = b.number

abbrev pub function_number : Function → ℕ
function_number f = f.number

abbrev pub placed_of : List Block → List Placed
placed_of bs = flat_map (λ (b : Block). b.instructions) bs

abbrev pub AreCountedBlocks : (b n : ℕ) → List Block → Type 0
AreCountedBlocks b n [] = Unit {0}
AreCountedBlocks b n (c ∷ cs) = (c.number ≡ b) × IsCounted placed_number n c.instructions × AreCountedBlocks (suc b) (n + length c.instructions) cs

pub counted_blocks : (b n : ℕ) (cs : List Block) → IsCounted block_number b cs → IsCounted placed_number n (placed_of cs) → AreCountedBlocks b n cs
counted_blocks b n [] h g = tt
counted_blocks b n (c ∷ cs) h g =
    let o = counted_split placed_number n c.instructions (placed_of cs) g in
    (h.0, o.0, counted_blocks (suc b) (n + length c.instructions) cs h.1 o.1)

pub count_placed : (cs : List Block) → length (placed_of cs) ≡ count_insts cs
count_placed [] = refl
count_placed (c ∷ cs) = length-append c.instructions (placed_of cs) ∙ ap (λ (k : ℕ). length c.instructions + k) (count_placed cs)

-- ---- functions, with their blocks

abbrev pub blocks_of : List Function → List Block
blocks_of xs = flat_map (λ (x : Function). x.blocks) xs

abbrev pub AreCounted : (f b n : ℕ) → List Function → Type 0
AreCounted f b n [] = Unit {0}
AreCounted f b n (x ∷ xs) = (x.number ≡ f) × AreCountedBlocks b n x.blocks × AreCounted (suc f) (b + length x.blocks) (n + count_insts x.blocks) xs

pub counted_functions : (f b n : ℕ) (xs : List Function) → IsCounted function_number f xs → IsCounted block_number b (blocks_of xs) → IsCounted placed_number n (placed_of (blocks_of xs)) → AreCounted f b n xs
counted_functions f b n [] h g k = tt
counted_functions f b n (x ∷ xs) h g k =
    let bs = counted_split block_number b x.blocks (blocks_of xs) g in
    let parts : IsCounted placed_number n (placed_of x.blocks ++ placed_of (blocks_of xs)) = subst (λ (ps : List Placed). IsCounted placed_number n ps) (flat_map-append (λ (b : Block). b.instructions) x.blocks (blocks_of xs)) k in
    let ps = counted_split placed_number n (placed_of x.blocks) (placed_of (blocks_of xs)) parts in
    let later = subst (λ (j : ℕ). IsCounted placed_number (n + j) (placed_of (blocks_of xs))) (count_placed x.blocks) ps.1 in
    (h.0, counted_blocks b n x.blocks bs.0 ps.0, counted_functions (suc f) (b + length x.blocks) (n + count_insts x.blocks) xs h.1 bs.1 later)

-- ---- the other way

pub counted_join : {X : Type 0} (number : X → ℕ) (n : ℕ) (xs ys : List X) → IsCounted number n xs → IsCounted number (n + length xs) ys → IsCounted number n (xs ++ ys)
counted_join number n [] ys h g = let e : n + 0 ≡ n = omega arith in subst (λ (k : ℕ). IsCounted number k ys) e g
counted_join number n (x ∷ xs) ys h g =
    let e : n + suc (length xs) ≡ suc n + length xs = omega arith in
    (h.0, counted_join number (suc n) xs ys h.1 (subst (λ (k : ℕ). IsCounted number k ys) e g))

pub uncounted : {X : Type 0} (number : X → ℕ) (n : ℕ) (xs : List X) → IsCounted number n xs → map number xs ≡ counting n xs
uncounted number n [] h = refl
uncounted number n (x ∷ xs) h = let here = h.0 in let rest = uncounted number (suc n) xs h.1 in cc (here, rest)

-- things made of the items of a list, by their places
pub counted_map : {X Y : Type 0} (number : Y → ℕ) (g : X → Y) (n : ℕ) (xs : List X) → ((i : ℕ) (x : X) → slice_get xs i ≡ Some x → number (g x) ≡ n + i) → IsCounted number n (map g xs)
counted_map number g n [] h = tt
counted_map number g n (x ∷ xs) h =
    let here = h 0 x refl in
    (omega (arith, here), counted_map number g (suc n) xs (λ i y at. let e = h (suc i) y at in omega (arith, e)))

pub counted_at : {X : Type 0} (number : X → ℕ) (n : ℕ) (xs : List X) → IsCounted number n xs → (i k : ℕ) → slice_get (map number xs) i ≡ Some k → k ≡ n + i
counted_at number n [] h i k at = absurd cc
counted_at number n (x ∷ xs) h zero k at = let e : number x ≡ k = cc in let here = h.0 in omega (arith, e, here)
counted_at number n (x ∷ xs) h (suc i) k at = let e = counted_at number (suc n) xs h.1 i k at in omega (arith, e)

-- numbers in order are distinct
pub counted_distinct : {X : Type 0} (number : X → ℕ) (n : ℕ) (xs : List X) → IsCounted number n xs → IsDistinctList (map number xs)
counted_distinct number n xs h i j k a b = let e = counted_at number n xs h i k a in let f = counted_at number n xs h j k b in omega (arith, e, f)

-- what is counted function by function is counted
pub record AreCountedThrough (f b n : ℕ) (xs : List Function) : Type 0 where
  pub functions : IsCounted function_number f xs
  pub blocks : IsCounted block_number b (blocks_of xs)
  pub instructions : IsCounted placed_number n (placed_of (blocks_of xs))

pub placed_through : (b n : ℕ) (cs : List Block) → AreCountedBlocks b n cs → IsCounted block_number b cs × IsCounted placed_number n (placed_of cs)
placed_through b n [] h = (tt, tt)
placed_through b n (c ∷ cs) h = let o = placed_through (suc b) (n + length c.instructions) cs h.2 in ((h.0, o.0), counted_join placed_number n c.instructions (placed_of cs) h.1 o.1)

pub counted_through : (f b n : ℕ) (xs : List Function) → AreCounted f b n xs → AreCountedThrough f b n xs
counted_through f b n [] h = record { functions = tt; blocks = tt; instructions = tt }
counted_through f b n (x ∷ xs) h =
    let one = placed_through b n x.blocks h.1 in
    let more = counted_through (suc f) (b + length x.blocks) (n + count_insts x.blocks) xs h.2 in
    let behind = subst (λ (j : ℕ). IsCounted placed_number (n + j) (placed_of (blocks_of xs))) (sym (count_placed x.blocks)) more.instructions in
    record {
      functions = (h.0, more.functions);
      blocks = counted_join block_number b x.blocks (blocks_of xs) one.0 more.blocks;
      instructions = subst (λ (ps : List Placed). IsCounted placed_number n ps) (sym (flat_map-append (λ (c : Block). c.instructions) x.blocks (blocks_of xs))) (counted_join placed_number n (placed_of x.blocks) (placed_of (blocks_of xs)) one.1 behind);
    }

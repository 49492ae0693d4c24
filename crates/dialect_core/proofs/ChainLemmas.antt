-- Chains of links: what a walk finds, and the operations of a chain.
use Rattle.std.proofs.Common.{◌≡◌, ◌<◌, ◌≤◌, ◌⊎◌, ℕ, zero, suc, Bool, true, false, nat_eq, List, [], ◌∷◌, ◌++◌, Option, Some, None, length, map, slice_get, get_or, ap, sym, subst, ◌∙◌, refl, inl, inr, arith, if◌then◌else◌}
use Rattle.std.specs.Option.{option_and_then}
use Rattle.std.specs.List.{list_any}
use Rattle.std.proofs.lemmas.List.{length-map}
use Rattle.std.proofs.lemmas.Option.{slice_get_within}
use Rattle.std.proofs.lemmas.Map.Keys.{IsDistinct-from_apart}
use Rattle.std.proofs.lemmas.Map.Steps.{length-le_from_distinct_below}
use Rattle.dialect_core.specs.declared.numbers.OpRef.{OpRef}
use Rattle.dialect_core.specs.declared.lists.Link.{Link}
use Rattle.dialect_core.specs.Lists.{next_of, Has, AllApart}
use Rattle.dialect_core.specs.Links.{block_at, next_at, walk, IsChain, AllOf, last_of}

-- numbers are equal where their words are
pub same_op : (a b : OpRef) → a.0 ≡ b.0 → a ≡ b
same_op a b e = ap (λ (n : ℕ). let o : OpRef = record { 0 = n } in o) e

-- a walk of enough steps finds the chain
pub walk-chain : (links : List Link) (s : Option OpRef) (xs : List OpRef) (n : ℕ) → IsChain links s xs → length xs ≤ n → walk links n s ≡ xs
walk-chain links s [] zero h l = refl
walk-chain links s [] (suc n) h l = ap (walk links (suc n)) h
walk-chain links s (x ∷ xs) zero h l = absurd (omega arith)
walk-chain links s (x ∷ xs) (suc n) h l = ap (walk links (suc n)) h.0 ∙ ap (λ (ys : List OpRef). x ∷ ys) (walk-chain links (next_at links x) xs n h.1 (omega arith))

-- links that agree on the operations of a chain
pub chain-same : (links others : List Link) (s : Option OpRef) (xs : List OpRef) → ((o : OpRef) → Has o.0 xs → next_at others o ≡ next_at links o) → IsChain links s xs → IsChain others s xs
chain-same links others s [] same h = h
chain-same links others s (x ∷ xs) same h =
    let P : Option OpRef → Type 0 = λ t. IsChain others t xs in
    (h.0, subst P (sym (same x (inl refl))) (chain-same links others (next_at links x) xs (λ o k. same o (inr k)) h.1))

pub last-has : (xs : List OpRef) (l : OpRef) → last_of xs ≡ Some l → Has l.0 xs
last-has [] l h = cc
last-has (x ∷ []) l h = inl (let e : x ≡ l = cc in ap (λ (o : OpRef). o.0) e)
last-has (x ∷ (y ∷ xs)) l h = inr (last-has (y ∷ xs) l h)

-- the next of an operation of a chain
pub next-chain : (links : List Link) (s : Option OpRef) (xs : List OpRef) (op : OpRef) → IsChain links s xs → Has op.0 xs → next_of op.0 xs ≡ next_at links op
next-chain links s [] op h k = absurd k
next-chain links s (x ∷ xs) op h k = by (nat_eq x.0 op.0) refl (λ there. next-chain links (next_at links x) xs op h.1 there)
  where
    first : (ys : List OpRef) (t : Option OpRef) → IsChain links t ys → slice_get ys 0 ≡ t
    first [] t e = sym e
    first (y ∷ ys) t e = sym e.0

    by : (b : Bool) → nat_eq x.0 op.0 ≡ b → (Has op.0 xs → next_of op.0 xs ≡ next_at links op) → (if b then slice_get xs 0 else next_of op.0 xs) ≡ next_at links op
    by true e later = first xs (next_at links x) h.1 ∙ ap (next_at links) (same_op x op (grind (arith, e)))
    by false e later = later (elim k [ inl here ↦ absurd (grind (arith, e, here)) | inr there ↦ there ])

-- ---- members

pub Has-append : (n : ℕ) (xs : List OpRef) (op : OpRef) → Has n (xs ++ op ∷ []) → Has n xs ⊎ (op.0 ≡ n)
Has-append n [] op (inl h) = inr h
Has-append n [] op (inr h) = absurd h
Has-append n (x ∷ xs) op (inl h) = inl (inl h)
Has-append n (x ∷ xs) op (inr h) = elim (Has-append n xs op h) [ inl old ↦ inl (inr old) | inr new ↦ inr new ]

pub last_of-append : (xs : List OpRef) (op : OpRef) → last_of (xs ++ op ∷ []) ≡ Some op
last_of-append [] op = refl
last_of-append (x ∷ []) op = refl
last_of-append (x ∷ (y ∷ xs)) op = last_of-append (y ∷ xs) op

-- ---- operations of one block

pub AllOf-has : (links : List Link) (b : ℕ) (xs : List OpRef) (o : OpRef) → AllOf links b xs → Has o.0 xs → block_at links o ≡ Some (record { 0 = b })
AllOf-has links b [] o h k = absurd k
AllOf-has links b (x ∷ xs) o h (inl here) = ap (block_at links) (sym (same_op x o here)) ∙ h.0
AllOf-has links b (x ∷ xs) o h (inr there) = AllOf-has links b xs o h.1 there

pub AllOf-same : (links others : List Link) (b : ℕ) (xs : List OpRef) → ((o : OpRef) → Has o.0 xs → block_at others o ≡ block_at links o) → AllOf links b xs → AllOf others b xs
AllOf-same links others b [] same h = tt
AllOf-same links others b (x ∷ xs) same h = (same x (inl refl) ∙ h.0, AllOf-same links others b xs (λ o k. same o (inr k)) h.1)

-- an operation that has a block is there
pub block_within : (links : List Link) (o : OpRef) (b : _) → block_at links o ≡ Some b → o.0 < length links
block_within links o b h = by (slice_get links o.0) refl
  where
    by : (x : Option Link) → slice_get links o.0 ≡ x → o.0 < length links
    by None e = let f = ap (option_and_then (λ (x : Link). x.block)) e in cc
    by (Some x) e = slice_get_within links o.0 x e

-- ---- how many operations a block has at most

has-place : (xs : List OpRef) (i d : ℕ) → i < length xs → Has (get_or (map (λ (o : OpRef). o.0) xs) i d) xs
has-place [] i d h = absurd (omega arith)
has-place (x ∷ xs) zero d h = inl refl
has-place (x ∷ xs) (suc i) d h = inr (has-place xs i d (omega arith))

apart-places : (xs : List OpRef) → AllApart xs → (i j d : ℕ) → i < j → j < length xs → nat_eq (get_or (map (λ (o : OpRef). o.0) xs) i d) (get_or (map (λ (o : OpRef). o.0) xs) j d) ≡ false
apart-places [] h i j d lt within = absurd (omega arith)
apart-places (x ∷ xs) h i zero d lt within = absurd (omega arith)
apart-places (x ∷ xs) h zero (suc j) d lt within =
    let there = has-place xs j d (omega arith) in
    by (nat_eq x.0 (get_or (map (λ (o : OpRef). o.0) xs) j d)) refl there
  where
    by : (b : Bool) → nat_eq x.0 (get_or (map (λ (o : OpRef). o.0) xs) j d) ≡ b → Has (get_or (map (λ (o : OpRef). o.0) xs) j d) xs → nat_eq x.0 (get_or (map (λ (o : OpRef). o.0) xs) j d) ≡ false
    by false e there = e
    by true e there =
        let Q : ℕ → Type 0 = λ n. Has n xs in
        let same : get_or (map (λ (o : OpRef). o.0) xs) j d ≡ x.0 = grind (arith, e) in
        absurd (h.0 (subst Q same there))
apart-places (x ∷ xs) h (suc i) (suc j) d lt within = apart-places xs h.1 i j d (omega arith) (omega arith)

below-places : (links : List Link) (b : ℕ) (xs : List OpRef) → AllOf links b xs → (q : ℕ) → list_any (nat_eq q) (map (λ (o : OpRef). o.0) xs) ≡ true → q < length links
below-places links b [] h q k = cc
below-places links b (x ∷ xs) h q k = by (nat_eq q x.0) refl (λ there. below-places links b xs h.1 q there)
  where
    by : (v : Bool) → nat_eq q x.0 ≡ v → (list_any (nat_eq q) (map (λ (o : OpRef). o.0) xs) ≡ true → q < length links) → q < length links
    by true e later = let here = block_within links x _ h.0 in grind (arith, e, here)
    by false e later = later (grind (arith, e, k))

-- a block has no more operations than there are
pub length-ours : (links : List Link) (b : ℕ) (xs : List OpRef) → AllOf links b xs → AllApart xs → length xs ≤ length links
length-ours links b xs h apart =
    let same = length-map xs (λ (o : OpRef). o.0) in
    let distinct = IsDistinct-from_apart nat_eq (map (λ (o : OpRef). o.0) xs) (λ i j d lt within. apart-places xs apart i j d lt (omega (arith, same))) in
    omega (arith, same, length-le_from_distinct_below (map (λ (o : OpRef). o.0) xs) (length links) distinct (below-places links b xs h))

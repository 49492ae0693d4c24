-- The operations of blocks one after another.
use Rattle.std.proofs.Common.{◌≡◌, ◌<◌, ◌≤◌, ◌+◌, ℕ, zero, suc, List, [], ◌∷◌, ◌++◌, Option, Some, None, All, length, get_or, slice_get, take, ap, sym, ◌∙◌, arith}
use Rattle.std.specs.List.{flat_map}
use Rattle.std.specs.Option.{option_map, option_map_or}
use Rattle.std.proofs.lemmas.List.{take_all}
use Rattle.std.proofs.lemmas.Option.{none-some, same_Some}
use Rattle.support.proofs.ListLaws.{flat_map-take_more}
use Rattle.dialect_core.specs.declared.numbers.OpRef.{OpRef}
use Rattle.dialect_core.specs.declared.numbers.BlockRef.{BlockRef}
use Rattle.dialect_core.specs.declared.ops.OpData.{OpData}
use Rattle.dialect_core.specs.Lists.{list_at}
use Rattle.dialect_core.specs.Data.{held}
use Rattle.dialect_core.specs.ContextData.{ContextData}

-- the operations are those of the blocks, and each is there
pub record Held (c : ContextData) (blocks : List BlockRef) (ops : List OpRef) : Type 0 where
  pub are : ops ≡ flat_map (list_at c.lists) blocks
  pub within : All (λ (o : OpRef). o.0 < length c.ops) ops

All-append : (n : ℕ) (xs ys : List OpRef) → All (λ (o : OpRef). o.0 < n) xs → All (λ (o : OpRef). o.0 < n) ys → (k : ℕ) (d : OpRef) → k < length (xs ++ ys) → (get_or (xs ++ ys) k d).0 < n
All-append n [] ys h g k d l = g k d l
All-append n (x ∷ xs) ys h g zero d l = h 0 d (omega arith)
All-append n (x ∷ xs) ys h g (suc k) d l = All-append n xs ys (λ j e within. h (suc j) e (omega arith)) g k d (omega arith)

pub held_more : (c : ContextData) (blocks : List BlockRef) (i : ℕ) (d : BlockRef) (held ops all : List OpRef) → i < length blocks → Held c (take i blocks) held → ops ≡ list_at c.lists (get_or blocks i d) → All (λ (o : OpRef). o.0 < length c.ops) ops → all ≡ held ++ ops → Held c (take (i + 1) blocks) all
held_more c blocks i d held ops all within h is_ops ops_within is_all =
    rw is_all
    (record {
      are = ap (λ (xs : List OpRef). xs ++ ops) h.are ∙ ap (λ (xs : List OpRef). flat_map (list_at c.lists) (take i blocks) ++ xs) is_ops ∙ sym (flat_map-take_more (list_at c.lists) blocks i d within);
      within = λ k d l. All-append (length c.ops) held ops h.within ops_within k d l;
    })

-- all blocks of the region were gone through
pub held_all : (c : ContextData) (m : ℕ) (blocks : List BlockRef) (i : ℕ) (ops : List OpRef) → length blocks ≤ i → option_map (λ (x : OpData). x.blocks) (slice_get c.ops m) ≡ Some blocks → Held c (take i blocks) ops → ops ≡ held c m
held_all c m blocks i ops all is h = h.are ∙ ap (flat_map (list_at c.lists)) (take_all i blocks all) ∙ by (slice_get c.ops m) is
  where
    by : (o : Option OpData) → option_map (λ (x : OpData). x.blocks) o ≡ Some blocks → flat_map (list_at c.lists) blocks ≡ flat_map (list_at c.lists) (option_map_or (λ (x : OpData). x.blocks) o [])
    by None e = absurd (none-some blocks e)
    by (Some x) e = ap (flat_map (list_at c.lists)) (sym (same_Some x.blocks blocks e))

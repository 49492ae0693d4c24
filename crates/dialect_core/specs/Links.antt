-- How links keep the lists of operations.
use Rattle.std.specs.Prelude.{◌≡◌, ◌<◌, ◌^◌, ℕ, zero, suc, List, [], ◌∷◌, Option, Some, None, map, length, slice_get, slice_index_or}
use Rattle.std.specs.Option.{option_map, option_and_then}
use Rattle.support.specs.Changes.{with_change}
use Rattle.dialect_core.specs.declared.numbers.OpRef.{OpRef}
use Rattle.dialect_core.specs.declared.numbers.BlockRef.{BlockRef}
use Rattle.dialect_core.specs.Lists.{Has, AllApart}
use Rattle.dialect_core.specs.declared.lists.Link.{Link}
use Rattle.dialect_core.specs.declared.lists.Ends.{Ends}

-- the block of each operation
abbrev pub parents_of : List Link → List (Option BlockRef)
parents_of links = map (λ (x : Link). x.block) links

-- the operation after another
abbrev pub next_at : List Link → OpRef → Option OpRef
next_at links o = option_and_then (λ (x : Link). x.next) (slice_get links o.0)

-- the operation before another
abbrev pub prev_at : List Link → OpRef → Option OpRef
prev_at links o = option_and_then (λ (x : Link). x.prev) (slice_get links o.0)

-- the block of an operation
abbrev pub block_at : List Link → OpRef → Option BlockRef
block_at links o = option_and_then (λ (x : Link). x.block) (slice_get links o.0)

-- at most n operations, from one on
abbrev pub walk : List Link → ℕ → Option OpRef → List OpRef
walk links zero o = []
walk links (suc n) None = []
walk links (suc n) (Some o) = o ∷ walk links n (next_at links o)

-- a block has at most as many operations as there are
abbrev pub list_from : List Link → Option Ends → List OpRef
list_from links ends = walk links (length links) (option_map (λ (e : Ends). e.first) ends)

abbrev pub lists_of : List Link → List (Option Ends) → List (List OpRef)
lists_of links ends = map (list_from links) ends

-- what comes behind an operation, or first in the block with the ends e where none is given
abbrev pub behind_at : List Link → Option Ends → Option OpRef → Option OpRef
behind_at links e None = option_map (λ (e : Ends). e.first) e
behind_at links e (Some o) = next_at links o

-- n comes after an operation, where there is one
abbrev pub with_next : List Link → Option OpRef → Option OpRef → List Link
with_next links None n = links
with_next links (Some o) n = with_change (λ (x : Link). record x { next = n }) o.0 links

-- p comes before an operation, where there is one
abbrev pub with_prev : List Link → Option OpRef → Option OpRef → List Link
with_prev links None p = links
with_prev links (Some o) p = with_change (λ (x : Link). record x { prev = p }) o.0 links

-- the first operation of a block with the ends e, when n comes after the operation o of it, or first where none is given
abbrev pub first_end : Option Ends → Option OpRef → Option OpRef → Option OpRef
first_end e None n = n
first_end e (Some o) n = option_map (λ (e : Ends). e.first) e

-- the last operation of such a block, when p comes before the operation o of it, or last where none is given
abbrev pub last_end : Option Ends → Option OpRef → Option OpRef → Option OpRef
last_end e None p = p
last_end e (Some o) p = option_map (λ (e : Ends). e.last) e

-- the ends of a block by its first and its last operation
abbrev pub ends_of : Option OpRef → Option OpRef → Option Ends
ends_of None l = None
ends_of (Some f) None = None
ends_of (Some f) (Some l) = Some (record { first = f; last = l })

-- from `start` the links lead through the operations xs and end there
abbrev pub IsChain : List Link → Option OpRef → List OpRef → Type 0
IsChain links start [] = start ≡ None
IsChain links start (x ∷ xs) = (start ≡ Some x) × IsChain links (next_at links x) xs

-- each of the operations xs has the one before it for its previous one, the first has p
abbrev pub IsBackChain : List Link → Option OpRef → List OpRef → Type 0
IsBackChain links p [] = Unit {0}
IsBackChain links p (x ∷ xs) = (prev_at links x ≡ p) × IsBackChain links (Some x) xs

-- each of the operations has the block of the number b
abbrev pub AllOf : List Link → ℕ → List OpRef → Type 0
AllOf links b [] = Unit {0}
AllOf links b (x ∷ xs) = (block_at links x ≡ Some (record { 0 = b })) × AllOf links b xs

abbrev pub last_of : List OpRef → Option OpRef
last_of [] = None
last_of (x ∷ []) = Some x
last_of (x ∷ (y ∷ xs)) = last_of (y ∷ xs)

-- the operations xs are those of the block b, whose ends are `ends`
pub record IsListOf (links : List Link) (b : ℕ) (ends : Option Ends) (xs : List OpRef) : Type 0 where
  pub chain : IsChain links (option_map (λ (e : Ends). e.first) ends) xs
  pub back : IsBackChain links None xs
  pub ours : AllOf links b xs
  pub apart : AllApart xs
  pub last : last_of xs ≡ option_map (λ (e : Ends). e.last) ends

-- an operation stands in the list of its block, or comes before and after no other
abbrev pub IsAttached : List Link → List (Option Ends) → OpRef → Option BlockRef → Type 0
IsAttached links ends o None = (next_at links o ≡ None) × (prev_at links o ≡ None)
IsAttached links ends o (Some b) = (b.0 < length ends) × Has o.0 (list_from links (slice_index_or ends b.0 None))

-- each block's links are the list of its operations, and each operation knows its block
pub record IsLinked (links : List Link) (ends : List (Option Ends)) : Type 0 where
  pub few_ops : length links < 2 ^ 32
  pub few_blocks : length ends < 2 ^ 32
  pub chains : (b : ℕ) (e : Option Ends) → slice_get ends b ≡ Some e → IsListOf links b e (list_from links e)
  pub attached : (o : OpRef) → IsAttached links ends o (block_at links o)

-- The lists of operations that blocks hold.
use Rattle.std.specs.Prelude.{◌≡◌, ◌⊎◌, ℕ, List, [], ◌∷◌, Option, Some, None, nat_eq, if◌then◌else◌, slice_get, slice_index_or}
use Rattle.std.specs.Option.{option_and_then}
use Rattle.dialect_core.specs.declared.numbers.OpRef.{OpRef}
use Rattle.dialect_core.specs.declared.numbers.BlockRef.{BlockRef}

-- of each operation the block that it stands in, and of each block its operations in order
pub record Lists : Type 0 where
  pub parents : List (Option BlockRef)
  pub lists : List (List OpRef)

-- the operation after that of the number n
abbrev pub next_of : ℕ → List OpRef → Option OpRef
next_of n [] = None
next_of n (x ∷ xs) = if nat_eq x.0 n then slice_get xs 0 else next_of n xs

-- the operation before that of the number n, where p comes before the list
abbrev pub prev_from : Option OpRef → ℕ → List OpRef → Option OpRef
prev_from p n [] = None
prev_from p n (x ∷ xs) = if nat_eq x.0 n then p else prev_from (Some x) n xs

-- the operation before that of the number n
abbrev pub prev_of : ℕ → List OpRef → Option OpRef
prev_of n xs = prev_from None n xs

-- the operations of a block, none where there is no such block
abbrev pub list_at : List (List OpRef) → BlockRef → List OpRef
list_at lists b = slice_index_or lists b.0 []

-- the operation after another in its block
abbrev pub next_in : Lists → OpRef → Option OpRef
next_in l op = option_and_then (λ b. next_of op.0 (list_at l.lists b)) (option_and_then (λ p. p) (slice_get l.parents op.0))

-- the operation before another in its block
abbrev pub prev_in : Lists → OpRef → Option OpRef
prev_in l op = option_and_then (λ b. prev_of op.0 (list_at l.lists b)) (option_and_then (λ p. p) (slice_get l.parents op.0))

-- the operation stands in a block
abbrev pub IsStanding : List (Option BlockRef) → OpRef → Type 0
IsStanding parents op = (b : BlockRef) × (slice_get parents op.0 ≡ Some (Some b))

-- ---- an item comes into a list, or goes

-- y stands directly behind the first item of the number n
abbrev pub put_after : {X : Type 0} → (X → ℕ) → X → ℕ → List X → List X
put_after number y n [] = []
put_after number y n (x ∷ xs) = if nat_eq (number x) n then x ∷ (y ∷ xs) else x ∷ put_after number y n xs

-- the first item of the number n is left out
abbrev pub leave_out : {X : Type 0} → (X → ℕ) → ℕ → List X → List X
leave_out number n [] = []
leave_out number n (x ∷ xs) = if nat_eq (number x) n then xs else x ∷ leave_out number n xs

-- the operation `op` stands directly behind another
abbrev pub with_after : OpRef → OpRef → List OpRef → List OpRef
with_after op other xs = put_after (λ (o : OpRef). o.0) op other.0 xs

-- the operation `op` stands directly behind another, or first where none is given
abbrev pub with_behind : Option OpRef → OpRef → List OpRef → List OpRef
with_behind None op xs = op ∷ xs
with_behind (Some other) op xs = with_after op other xs

-- the operations but one
abbrev pub without : OpRef → List OpRef → List OpRef
without op xs = leave_out (λ (o : OpRef). o.0) op.0 xs

-- ---- items of lists

-- x is an item of the list
abbrev pub Stands : {X : Type 0} → X → List X → Type 0
Stands x xs = (k : ℕ) × (slice_get xs k ≡ Some x)

-- no item stands twice
abbrev pub Once : {X : Type 0} → List X → Type 0
Once {X} xs = (i j : ℕ) (x : X) → slice_get xs i ≡ Some x → slice_get xs j ≡ Some x → i ≡ j

-- what is left of a block's list from an operation on
abbrev pub from_op : Option OpRef → List OpRef → List OpRef
from_op None xs = []
from_op (Some o) [] = []
from_op (Some o) (x ∷ xs) = if nat_eq x.0 o.0 then x ∷ xs else from_op (Some o) xs

-- the operation of the number n is among xs
abbrev pub Has : ℕ → List OpRef → Type 0
Has n [] = ⊥
Has n (x ∷ xs) = (x.0 ≡ n) ⊎ Has n xs

-- no operation stands twice
abbrev pub AllApart : List OpRef → Type 0
AllApart [] = Unit {0}
AllApart (x ∷ xs) = (¬ Has x.0 xs) × AllApart xs

-- Graphs, and walks in them. A graph is a list: for each node, in order, the nodes that it leads to.
use Rattle.std.specs.Prelude.{◌≡◌, ◌+◌, ◌-◌, ◌<◌, ℕ, List, [], Some, length, slice_get, slice_index_or, All, Contains}

-- each node leads to nodes of the graph
abbrev pub IsGraph : List (List ℕ) → Type 0
IsGraph g = All (All (λ t. t < length g)) g

-- the node a leads to b
abbrev pub LeadsTo : List (List ℕ) → (a b : ℕ) → Type 0
LeadsTo g a b = Contains (slice_index_or g a []) b

-- a walk from a to b: nodes that begin with a and end with b, each leading to the next
pub record IsWalk (g : List (List ℕ)) (a b : ℕ) (w : List ℕ) : Type 0 where
  pub begins : slice_get w 0 ≡ Some a
  pub ends : slice_get w (length w - 1) ≡ Some b
  pub steps : (k x y : ℕ) → slice_get w k ≡ Some x → slice_get w (k + 1) ≡ Some y → LeadsTo g x y

-- some walk goes from a to b
abbrev pub Reaches : List (List ℕ) → (a b : ℕ) → Type 0
Reaches g a b = (w : List ℕ) × IsWalk g a b w

-- every walk from a to b passes d
abbrev pub EachWalkPasses : List (List ℕ) → (a b d : ℕ) → Type 0
EachWalkPasses g a b d = (w : List ℕ) → IsWalk g a b w → Contains w d

-- some walk from a to b misses d
abbrev pub SomeWalkMisses : List (List ℕ) → (a b d : ℕ) → Type 0
SomeWalkMisses g a b d = (w : List ℕ) × IsWalk g a b w × ¬ Contains w d

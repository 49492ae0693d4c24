-- What an order of the nodes of a graph says. Node 0 is the first.
use Rattle.std.specs.Prelude.{◌≡◌, ◌≢◌, ◌<◌, ◌⊎◌, ℕ, List, Some, length, slice_get, take, drop, All, AllPairs, Contains}
use Rattle.block_order.specs.Graph.{LeadsTo, Reaches, EachWalkPasses}

-- a stands before b
pub record IsBefore (order : List ℕ) (a b : ℕ) : Type 0 where
  pub place : ℕ
  pub later : ℕ
  pub in_order : place < later
  pub is_first : slice_get order place ≡ Some a
  pub is_second : slice_get order later ≡ Some b

-- each of the first n numbers stands once, and nothing else does
pub record IsOrder (n : ℕ) (order : List ℕ) : Type 0 where
  pub count : length order ≡ n
  pub within : All (λ x. x < n) order
  pub once : AllPairs (λ x y. x ≢ y) order
  pub each : (x : ℕ) → x < n → Contains order x

-- a front is what node 0 reaches, and the rest is what it does not reach
abbrev pub HasReachedFirst : List (List ℕ) → List ℕ → Type 0
HasReachedFirst g order = (m : ℕ) × All (λ x. Reaches g 0 x) (take m order) × All (λ x. ¬ Reaches g 0 x) (drop m order)

-- a node that every walk from node 0 to another passes stands before that one
abbrev pub HasPassedBefore : List (List ℕ) → List ℕ → Type 0
HasPassedBefore g order = (u d : ℕ) → Reaches g 0 u → EachWalkPasses g 0 u d → d ≢ u → IsBefore order d u

-- what node 0 reaches leads only to later nodes and to nodes that reach it back
abbrev pub LeadsOnOrBack : List (List ℕ) → List ℕ → Type 0
LeadsOnOrBack g order = (a b : ℕ) → Reaches g 0 a → LeadsTo g a b → IsBefore order a b ⊎ Reaches g b a

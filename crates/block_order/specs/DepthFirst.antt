-- Depth-first exploration of a graph, rule by rule, and the order of its nodes that it gives.
use Rattle.std.specs.Prelude.{ℕ, Bool, false, true, List, [], ◌∷◌, ◌++◌, length, replicate, slice_index_or, slice_set}
use Rattle.std.specs.List.{range_with_len}
use Rattle.block_order.specs.Marks.{IsMet}

-- Nodes are visited in order, from these marks to those. One that is met is passed. One that is not is marked, then the
-- nodes that it leads to are visited, and then it is finished. The nodes that get finished are listed last first.
pub data Explores (g : List (List ℕ)) : List Bool → List ℕ → List ℕ → List Bool → Type 0 where
  ends : (met : List Bool) → Explores g met [] [] met
  passes : (met after : List Bool) (x : ℕ) (xs out : List ℕ) → IsMet met x → Explores g met xs out after → Explores g met (x ∷ xs) out after
  enters : (met inside after : List Bool) (x : ℕ) (xs inner outer : List ℕ) → ¬ IsMet met x → Explores g (slice_set met x true) (slice_index_or g x []) inner inside → Explores g inside xs outer after → Explores g met (x ∷ xs) (outer ++ x ∷ inner) after

-- Nodes are visited one after another, and what a visit lists stands behind what the visits before it listed.
pub data ExploresEach (g : List (List ℕ)) : List Bool → List ℕ → List ℕ → Type 0 where
  no_root : (met : List Bool) → ExploresEach g met [] []
  next_root : (met after : List Bool) (root : ℕ) (roots part rest : List ℕ) → Explores g met (root ∷ []) part after → ExploresEach g after roots rest → ExploresEach g met (root ∷ roots) (part ++ rest)

-- the nodes in depth-first order: each node is visited in turn, where none is met at first
abbrev pub IsDepthFirst : List (List ℕ) → List ℕ → Type 0
IsDepthFirst g order = ExploresEach g (replicate (length g) false) (range_with_len 0 (length g)) order

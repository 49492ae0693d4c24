-- The state of a walk over a graph with a stack, and its steps.
use Rattle.std.specs.Prelude.{◌≡◌, ◌+◌, ◌<◌, ◌≤◌, ◌⊎◌, ℕ, Bool, true, List, [], ◌∷◌, ◌++◌, Some, length, slice_get, slice_index, slice_index_or, slice_set}
use Rattle.block_order.specs.declared.walk.Open.{Open}
use Rattle.block_order.specs.Marks.{IsMet}

-- the targets of a node from place i up to place j are met
abbrev pub AreMetWithin : List (List ℕ) → List Bool → (x i j : ℕ) → Type 0
AreMetWithin g met x i j = (k : ℕ) → i ≤ k → k < j → IsMet met (slice_index (slice_index_or g x []) k)

-- where a walk stands: which nodes are met, the open ones, and the closed ones in the order in which they were closed
pub record State : Type 0 where
  pub met : List Bool
  pub stack : List Open
  pub done : List ℕ

abbrev pub state : List Bool → List Open → List ℕ → State
state met stack done = record { met = met; stack = stack; done = done }

-- the last open node, whose targets from its place on are met, is closed
pub record Closes (g : List (List ℕ)) (old new : State) : Type 0 where
  pub top : Open
  pub was : old.stack ≡ new.stack ++ top ∷ []
  pub passed : AreMetWithin g old.met top.node top.next (length (slice_index_or g top.node []))
  pub met : new.met ≡ old.met
  pub done : new.done ≡ old.done ++ top.node ∷ []

-- the first target of the last open node, from its place on, that is not met is opened
pub record Opens (g : List (List ℕ)) (old new : State) : Type 0 where
  pub below : List Open
  pub top : Open
  pub place : ℕ
  pub node : ℕ
  pub was : old.stack ≡ below ++ top ∷ []
  pub ahead : top.next ≤ place
  pub passed : AreMetWithin g old.met top.node top.next place
  pub is_target : slice_get (slice_index_or g top.node []) place ≡ Some node
  pub unmet : ¬ IsMet old.met node
  pub met : new.met ≡ slice_set old.met node true
  pub stack : new.stack ≡ below ++ record { node = top.node; next = place + 1 } ∷ record { node = node; next = 0 } ∷ []
  pub done : new.done ≡ old.done

abbrev pub Steps : List (List ℕ) → (old new : State) → Type 0
Steps g old new = Closes g old new ⊎ Opens g old new

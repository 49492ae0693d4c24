-- Marks of nodes: for each node whether it is met.
use Rattle.std.specs.Prelude.{◌≡◌, ℕ, Bool, false, true, List, slice_index_or}

-- the node x is marked as met
abbrev pub IsMet : List Bool → ℕ → Type 0
IsMet met x = slice_index_or met x false ≡ true

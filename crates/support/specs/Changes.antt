-- Lists of which one item changes.
use Rattle.std.specs.Prelude.{ℕ, List, slice_get, slice_set}
use Rattle.std.specs.Option.{option_map_or}

-- xs, with f of the item at i in its place
abbrev pub with_change : {X : Type 0} → (X → X) → ℕ → List X → List X
with_change f i xs = option_map_or (λ x. slice_set xs i (f x)) (slice_get xs i) xs

-- Lists whose items stay where they are while more of them come.
use Rattle.std.specs.Prelude.{ℕ, ◌≡◌, ◌<◌, List, Some, slice_get}
pub use Rattle.from_consts.specs.Types.{AllStay}

-- each item before the place n stands at its place in the second list
abbrev pub StaysBelow : {X : Type 0} → ℕ → List X → List X → Type 0
StaysBelow {X} n xs ys = (i : ℕ) (x : X) → i < n → slice_get xs i ≡ Some x → slice_get ys i ≡ Some x

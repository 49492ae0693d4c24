-- What was appended to bytes.
use Rattle.std.specs.Prelude.{◌≡◌, ℕ, List, ◌++◌}

-- the bytes begin with what stood there before
pub record Keeps (before after : List ℕ) : Type 0 where
  pub rest : List ℕ
  pub is : after ≡ before ++ rest

-- What the adapters over std's readers and writers are seen as.
use Rattle.std.specs.Prelude.{ℕ, ◌≤◌, List, length, take, Option}
use Rattle.std.specs.Io.KnownBytes.{Appends}

-- a reader or a writer, and the count of its faults
pub record Counted (O : Type 0) : Type 0 where
  pub object : O
  pub faults : ℕ

-- at most all of these bytes went behind those that a writer holds, where those are known
abbrev pub AppendsFront : Option (List ℕ) → Option (List ℕ) → List ℕ → Type 0
AppendsFront old new bytes = (n : ℕ) × (n ≤ length bytes) × Appends old new (take n bytes)

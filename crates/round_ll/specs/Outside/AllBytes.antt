-- What a source gives that is read to its end, and a sink takes that a whole text is written to.
use Rattle.std.specs.Prelude.{◌≡◌, ◌≤◌, ◌<◌, ◌+◌, ℕ, List, [], ◌++◌, length, take, drop, Some, IfSome}
use Rattle.std.specs.Io.KnownBytes.{append_known, prepend_known}
use Rattle.std.specs.declared.option.Option.{Option}

-- where the bytes left were told, they were these, and none is left now
abbrev pub GaveAll : Option (List ℕ) → Option (List ℕ) → List ℕ → Type 0
GaveAll old new bytes = IfSome old (λ xs. (bytes ≡ xs) × (new ≡ Some []))

-- where the bytes left were told, there were more than `most`, and the first `most + 1` are gone
abbrev pub GaveTooMany : ℕ → Option (List ℕ) → Option (List ℕ) → Type 0
GaveTooMany most old new = IfSome old (λ xs. (most < length xs) × (new ≡ Some (drop (most + 1) xs)))

-- where the bytes left were told, at most so many of the first are gone
abbrev pub GaveAtMost : ℕ → Option (List ℕ) → Option (List ℕ) → Type 0
GaveAtMost most old new = IfSome old (λ xs. (n : ℕ) × (n ≤ most) × (new ≡ Some (drop n xs)))

-- a piece of n bytes came: the source gave it, and it stands behind the bytes kept before
pub record PieceCame (old new : Option (List ℕ)) (before now : List ℕ) (n : ℕ) : Type 0 where
  pub piece : List ℕ
  pub long : length piece ≡ n
  pub given : old ≡ prepend_known piece new
  pub kept : now ≡ before ++ piece

-- the first of these bytes, and not all, went behind those taken before, where those are told
abbrev pub TookFront : Option (List ℕ) → Option (List ℕ) → List ℕ → Type 0
TookFront old new bytes = (n : ℕ) × (n < length bytes) × (new ≡ append_known old (take n bytes))

-- What was said so far, with what the rest says, is what the text says; and each place lies in the text.
use Rattle.std.proofs.Common.{◌≡◌, ◌≤◌, ◌-◌, length, drop}
use Rattle.std.specs.List.{All}
use Rattle.dialect_parsing.specs.Symbols.{symbols_of}
use Rattle.dialect_parsing.proofs.TokenLaws.{with_front}
use Rattle.dialect_parsing.proofs.symbols.symbols.Given as goal

abbrev pub invariant-loop-at : goal.invariant-loop-at
invariant-loop-at l = record {
  so_far : with_front l.symbols.items (symbols_of (drop l.at l.bytes)) ≡ symbols_of l.bytes;
  places : All (λ p. p ≤ length l.bytes) l.places.items;
  within : l.at ≤ length l.bytes;
}

abbrev pub decreases-loop-at : goal.decreases-loop-at
decreases-loop-at l = length l.bytes - l.at

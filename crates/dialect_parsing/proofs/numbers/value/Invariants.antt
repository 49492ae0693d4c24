-- The value so far, with the digits left, is that of all digits.
use Rattle.std.proofs.Common.{◌≡◌, ◌<◌, ◌^◌, drop}
use Rattle.dialect_parsing.specs.Numbers.{value_after}
use Rattle.dialect_parsing.proofs.numbers.value.Given as goal

abbrev pub invariant-loop-b : goal.invariant-loop-b
invariant-loop-b l = record {
  so_far : value_after l.value (drop l.b-index l.digits) ≡ value_after 0 l.digits;
  small : l.value < 2 ^ 64;
}

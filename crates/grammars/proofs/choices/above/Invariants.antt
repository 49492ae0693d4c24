-- The bound is above the classes that were passed.
use Rattle.std.proofs.Common.{◌≡◌, ◌<◌, ℕ, true, take}
use Rattle.grammars.specs.Rows.{has}
use Rattle.grammars.proofs.choices.above.Given as goal

abbrev pub invariant-loop-class : goal.invariant-loop-class
invariant-loop-class l = (c : ℕ) → has (take l.class-index l.classes) c ≡ true → c < l.bound

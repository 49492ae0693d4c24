-- A value past the bound stays past it.
use Rattle.std.proofs.Common.{◌+◌, ◌*◌, ◌≤◌, ◌^◌, sym, ◌∙◌, drop, arith}
use Rattle.std.proofs.lemmas.List.{at_drop_more}
use Rattle.dialect_parsing.specs.Numbers.{value_after}
use Rattle.dialect_parsing.proofs.NumberLaws.{past}
use Rattle.dialect_parsing.proofs.numbers.value.Goals as goal

pub returns-then-value-from : goal.returns-then-value-from
returns-then-value-from c =
    let more = at_drop_more (value_after c.loop-b.value) c.args.digits.now c.loop-b.b-index 0 c.loop-b-test.true in
    let large : 2 ^ 64 ≤ c.loop-b.value * 10 + c.from.result = let e = c.from-in-loop-b.ensures in let t = c.if-value-from.true in omega arith in
    past _ _ (drop (c.loop-b.b-index + 1) c.args.digits.now) large
    (rw (c.from.ensures, c.saturating_sub.ensures) (sym more ∙ c.loop-b.invariant.so_far))

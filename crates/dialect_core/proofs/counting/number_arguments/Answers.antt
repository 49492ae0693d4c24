-- What `counting::number_arguments` owes besides what the check finds.
use Rattle.std.proofs.Common.{arith}
use Rattle.dialect_core.proofs.NumberLemmas.{counts_argument}
use Rattle.dialect_core.proofs.counting.number_arguments.Goals as goal

pub loop-i-preserved : goal.loop-i-preserved
loop-i-preserved c =
    counts_argument _ c.loop-i.numbers c.number_value.new.numbers c.args.first c.loop-i.next c.in_ok-next.next c.args.block c.args.args.now c.loop-i.i c.in_ok-place.place (record { 0 = 0 })
    (omega (arith, c.loop-i-test.true)) c.in_ok-place.ensures c.loop-i.invariant c.in_ok-next.ensures.numbered c.in_ok-next.ensures.next

-- Each is counted behind the others.
use Rattle.ll_print.specs.Parts.{unnamed_at}
use Rattle.ll_print.proofs.NumberLaws.{counts_none}
use Rattle.ll_print.proofs.CountLaws.{counts_more, counts_all}
use Rattle.ll_print.proofs.numbering.count_insts.Goals as goal

pub loop-i-init : goal.loop-i-init
loop-i-init c = counts_none c.args.numbers.now

pub loop-i-preserved : goal.loop-i-preserved
loop-i-preserved c =
    counts_more (unnamed_at c.args.m.now) c.args.numbers.now c.loop-i.numbers c.count_inst.new.numbers c.args.insts.now c.loop-i.i-index (record { 0 = 0 }) c.loop-i-test.true c.loop-i.invariant c.in_ok-count_inst.ensures

pub returns : goal.returns
returns c = counts_all (unnamed_at c.args.m.now) c.args.numbers.now c.loop-i.numbers c.args.insts.now c.loop-i.i-index c.loop-i-test.false c.loop-i.invariant

-- Each is counted behind the others.
use Rattle.ll_print.specs.Parts.{unnamed_of}
use Rattle.ll_print.proofs.NumberLaws.{counts_none}
use Rattle.ll_print.proofs.CountLaws.{counts_more, counts_all}
use Rattle.ll_print.proofs.numbering.count_blocks.Goals as goal

pub loop-b-init : goal.loop-b-init
loop-b-init c = counts_none c.args.numbers.now

pub loop-b-preserved : goal.loop-b-preserved
loop-b-preserved c =
    counts_more (unnamed_of c.args.m.now) c.args.numbers.now c.loop-b.numbers c.count_block.new.numbers c.args.blocks.now c.loop-b.b-index (record { 0 = 0 }) c.loop-b-test.true c.loop-b.invariant c.in_ok-count_block.ensures

pub returns : goal.returns
returns c = counts_all (unnamed_of c.args.m.now) c.args.numbers.now c.loop-b.numbers c.args.blocks.now c.loop-b.b-index c.loop-b-test.false c.loop-b.invariant

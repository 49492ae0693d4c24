-- Each block prints behind the others.
use Rattle.std.proofs.Common.{sym}
use Rattle.std.proofs.lemmas.List.{append-nil}
use Rattle.ll_print.specs.Parts.{function_in, lines_of}
use Rattle.ll_print.proofs.TextLaws.{items_put, items_all}
use Rattle.ll_print.proofs.functions.put_later_blocks.Goals as goal

pub loop-b-init : goal.loop-b-init
loop-b-init c = sym (append-nil c.args.out.now.items)

pub put_block-requires-clause-own : goal.put_block-requires-clause-own
put_block-requires-clause-own c = c.requires.own c.loop-b.b-index _ c.loop-b-test.true

pub loop-b-preserved : goal.loop-b-preserved
loop-b-preserved c =
    items_put (lines_of c.args.m.now (function_in c.args.m.now c.args.numbers.now.function)) c.args.blocks.now c.loop-b.b-index (record { 0 = 0 }) c.args.out.now.items _ _ c.loop-b-test.true c.loop-b.invariant c.in_ok-put_block.ensures.text

pub returns-clause-text : goal.returns-clause-text
returns-clause-text c = items_all (lines_of c.args.m.now (function_in c.args.m.now c.args.numbers.now.function)) c.args.blocks.now c.loop-b.b-index c.args.out.now.items _ c.loop-b-test.false c.loop-b.invariant

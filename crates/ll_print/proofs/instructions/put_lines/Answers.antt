-- Each line prints behind the others.
use Rattle.std.proofs.Common.{sym}
use Rattle.std.proofs.lemmas.List.{append-nil}
use Rattle.ll_print.specs.Parts.{function_in, line_of}
use Rattle.ll_print.proofs.TextLaws.{items_put, items_all}
use Rattle.ll_print.proofs.instructions.put_lines.Goals as goal

pub loop-i-init : goal.loop-i-init
loop-i-init c = sym (append-nil c.args.out.now.items)

pub put_line-requires-clause-own : goal.put_line-requires-clause-own
put_line-requires-clause-own c = c.requires.own c.loop-i.i-index _ c.loop-i-test.true

pub loop-i-preserved : goal.loop-i-preserved
loop-i-preserved c =
    items_put (line_of c.args.m.now (function_in c.args.m.now c.args.numbers.now.function)) c.args.insts.now c.loop-i.i-index (record { 0 = 0 }) c.args.out.now.items _ _ c.loop-i-test.true c.loop-i.invariant c.in_ok-put_line.ensures.text

pub returns-clause-text : goal.returns-clause-text
returns-clause-text c = items_all (line_of c.args.m.now (function_in c.args.m.now c.args.numbers.now.function)) c.args.insts.now c.loop-i.i-index c.args.out.now.items _ c.loop-i-test.false c.loop-i.invariant

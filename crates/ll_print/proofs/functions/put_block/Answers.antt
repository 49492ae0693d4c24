-- A block prints a blank line, its label and its lines.
use Rattle.std.proofs.lemmas.Result.{on_ok_weaker}
use Rattle.ll_print.proofs.OwnLaws.{block_put}
use Rattle.ll_print.proofs.functions.put_block.Goals as goal

pub returns-clause-text : goal.returns-clause-text
returns-clause-text c =
    on_ok_weaker c.put_lines.result
    (block_put c.args.m.now c.args.numbers.now c.args.b c.block_name.result.now c.instructions.result.now c.args.out.now.items _ _ c.put_lines.new.out.items c.requires.printing c.requires.own.own c.block_name.ensures
    c.instructions.ensures.insts c.in_ok-push.ensures.items c.in_ok-put_label.ensures.text) c.put_lines.ensures.text

-- The first block prints its label, where it has a name, and its lines.
use Rattle.std.proofs.lemmas.Result.{on_ok_weaker}
use Rattle.ll_print.proofs.OwnLaws.{entry_block_put}
use Rattle.ll_print.proofs.functions.put_entry_block.Goals as goal

pub returns-clause-text : goal.returns-clause-text
returns-clause-text c =
    on_ok_weaker c.put_lines.result
    (entry_block_put c.args.m.now c.args.numbers.now c.args.b c.block_name.result.now c.instructions.result.now c.args.out.now.items _ c.put_lines.new.out.items c.requires.printing c.requires.own.own c.block_name.ensures
    c.instructions.ensures.insts c.in_ok-put_entry_label.ensures.text) c.put_lines.ensures.text

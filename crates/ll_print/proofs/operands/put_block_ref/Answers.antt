-- A block prints its name, or its number.
use Rattle.ll_print.proofs.OwnLaws.{block_local}
use Rattle.ll_print.proofs.TextLaws.{ok_is}
use Rattle.ll_print.proofs.operands.put_block_ref.Goals as goal

pub returns-clause-text : goal.returns-clause-text
returns-clause-text c =
    ok_is c.put_local.result c.args.out.now.items c.put_local.new.out.items _ _ c.put_local.ensures.text
    (block_local c.args.m.now c.args.numbers.now c.args.b c.block_name.result.now c.requires.printing c.requires.own.1 c.block_name.ensures)

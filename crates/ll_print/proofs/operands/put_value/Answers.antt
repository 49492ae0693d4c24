-- An operand prints behind its type.
use Rattle.std.proofs.lemmas.Result.{on_ok_weaker}
use Rattle.ll_print.proofs.OwnLaws.{value_put}
use Rattle.ll_print.proofs.operands.put_value.Goals as goal

pub returns-clause-text : goal.returns-clause-text
returns-clause-text c =
    on_ok_weaker c.put_operand.result
    (value_put c.args.m.now c.args.numbers.now c.args.value c.type_of.result c.args.out.now.items _ _ c.put_operand.new.out.items c.requires.printing c.requires.own c.type_of.ensures.ty c.in_ok-put_type.ensures.text c.in_ok-push.ensures.items)
    c.put_operand.ensures.text

-- A parameter and a result print their names, or their numbers.
use Rattle.ll_print.proofs.OwnLaws.{param_operand, result_operand}
use Rattle.ll_print.proofs.TextLaws.{ok_is}
use Rattle.ll_print.proofs.operands.put_operand.Goals as goal

pub returns-in-Param-clause-text : goal.returns-in-Param-clause-text
returns-in-Param-clause-text c =
    let own = rw c.in-Param.is at c.requires.own in
    rw c.in-Param.is
    (ok_is c.put_local.result c.args.out.now.items c.put_local.new.out.items _ _ c.put_local.ensures.text
    (param_operand c.args.m.now c.args.numbers.now c.in-Param.f c.in-Param.place c.param_name.result.now c.requires.printing own.0 c.param_name.ensures))

pub returns-in-Inst-clause-text : goal.returns-in-Inst-clause-text
returns-in-Inst-clause-text c =
    let own = rw c.in-Inst.is at c.requires.own in
    rw c.in-Inst.is
    (ok_is c.put_local-in-Inst.result c.args.out.now.items c.put_local-in-Inst.new.out.items _ _ c.put_local-in-Inst.ensures.text
    (result_operand c.args.m.now c.args.numbers.now c.in-Inst.i c.inst_name.result.now c.requires.printing own.1 c.inst_name.ensures))

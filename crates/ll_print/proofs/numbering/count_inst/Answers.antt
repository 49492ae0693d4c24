-- An instruction with a result is counted by its name.
use Rattle.std.proofs.Common.{sym, ◌∙◌}
use Rattle.std.proofs.lemmas.Result.{on_ok_weaker}
use Rattle.ll_print.proofs.CountLaws.{counts_void, counts_inst}
use Rattle.ll_print.proofs.numbering.count_inst.Goals as goal

pub returns-then-is_void : goal.returns-then-is_void
returns-then-is_void c = counts_void c.args.m.now c.args.numbers.now c.args.i c.type_of.result c.type_of.ensures.ty (sym c.is_void.ensures ∙ c.if-is_void.true)

pub returns : goal.returns
returns c =
    on_ok_weaker c.count_unnamed.result
    (counts_inst c.args.m.now c.args.numbers.now c.count_unnamed.new.self c.args.i c.type_of.result c.inst_name.result.now c.type_of.ensures.ty c.inst_name.ensures (sym c.is_void.ensures ∙ c.if-is_void.false))
    c.count_unnamed.ensures

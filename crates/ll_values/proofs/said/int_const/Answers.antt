-- An integer is the constant of its value.
use Rattle.std.proofs.Common.{Some, None, sym, ◌∙◌}
use Rattle.ll_values.proofs.SaidLaws.{int_const-read}
use Rattle.ll_values.proofs.said.int_const.Goals as goal

pub returns-in_err-value-clause-none : goal.returns-in_err-value-clause-none
returns-in_err-value-clause-none c = λ e.
    int_const-read c.args.m.now c.args.ty c.in_ok-width.width c.args.text.now None c.requires.sound c.in_ok-width.ensures.int (sym c.const_value.ensures.value ∙ c.in_err-value.was)

pub returns-clause-said : goal.returns-clause-said
returns-clause-said c =
    int_const-read c.args.m.now c.args.ty c.in_ok-width.width c.args.text.now (Some c.in_ok-value.value) c.requires.sound c.in_ok-width.ensures.int (sym c.const_value.ensures.value ∙ c.in_ok-value.was)

-- At a type that is no integer, no integer is read.
use Rattle.ll_values.proofs.SaidLaws.{int_const-other}
use Rattle.ll_values.proofs.said.const_width.Goals as goal

pub returns-in_default-clause-none : goal.returns-in_default-clause-none
returns-in_default-clause-none c = λ e t. int_const-other c.args.m.now c.args.ty c.type_kind.result.now c.requires.sound c.type_kind.ensures.kind c.in_default.not-Int t

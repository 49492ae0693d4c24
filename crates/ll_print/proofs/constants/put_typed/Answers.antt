-- A value prints the text of its width.
use Rattle.ll_print.proofs.TextLaws.{ok_is, int_text-width}
use Rattle.ll_print.proofs.constants.put_typed.Goals as goal

pub returns-clause-text : goal.returns-clause-text
returns-clause-text c = ok_is _ _ _ _ _ c.put_int.ensures.text (int_text-width c.args.m.now c.args.ty _ c.args.value c.requires.sound (rw c.in-Int.is at c.type_kind.ensures.kind))

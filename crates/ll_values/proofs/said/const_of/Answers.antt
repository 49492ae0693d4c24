-- A word of a constant of any type is that constant in its one form.
use Rattle.std.proofs.Common.{sym, ◌∙◌}
use Rattle.ll_values.proofs.SaidLaws.{const_of-word}
use Rattle.ll_values.proofs.said.const_of.Goals as goal

pub returns-in-Some-clause-said : goal.returns-in-Some-clause-said
returns-in-Some-clause-said c = const_of-word c.args.m.now c.in-Some.fill c.args.ty c.args.text.now c.requires.sound c.requires.there (sym c.fill_of.ensures ∙ c.in-Some.is)

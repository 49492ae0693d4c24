-- A number up to the greatest of a width is one of it.
use Rattle.std.proofs.Common.{◌∙◌}
use Rattle.ll_literals.specs.Numbers.{number_of}
use Rattle.ll_literals.proofs.LiteralLaws.{natural_is}
use Rattle.ll_literals.proofs.literals.natural.Goals as goal

pub returns : goal.returns
returns c = c.number.ensures ∙ natural_is c.args.width c.greatest.result c.greatest.ensures.bits c.greatest.ensures.most (number_of c.args.text.now)

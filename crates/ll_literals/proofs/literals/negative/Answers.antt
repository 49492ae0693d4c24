-- A number up to the most of which a width has the negative has it there.
use Rattle.std.proofs.Common.{◌∙◌, sym}
use Rattle.ll_literals.specs.Numbers.{number_of}
use Rattle.ll_literals.proofs.LiteralLaws.{negative_none, negative_some, nonzero, read_small}
use Rattle.ll_literals.proofs.literals.negative.Goals as goal

pub returns-in_err-n : goal.returns-in_err-n
returns-in_err-n c = c.from_residual.ensures ∙ negative_none c.args.width c.most_negated.result c.most_negated.ensures.none c.most_negated.ensures.half (number_of c.args.digits.now) (sym c.number.ensures ∙ c.in_err-n.was)

pub overflow_sub-result-2 : goal.overflow_sub-result-2
overflow_sub-result-2 c =
    read_small c.args.width c.most_negated.result c.most_negated.ensures.none c.most_negated.ensures.half (number_of c.args.digits.now) c.in_ok-n.n c.greatest.result c.greatest.ensures.bits c.greatest.ensures.most (sym c.number.ensures ∙ c.in_ok-n.was) (nonzero c.in_ok-n.n c.if-n-eq0.false)

pub returns : goal.returns
returns c =
    negative_some c.args.width c.most_negated.result c.most_negated.ensures.none c.most_negated.ensures.half (number_of c.args.digits.now) c.in_ok-n.n c.greatest.result c.greatest.ensures.bits c.greatest.ensures.most (sym c.number.ensures ∙ c.in_ok-n.was) (nonzero c.in_ok-n.n c.if-n-eq0.false)

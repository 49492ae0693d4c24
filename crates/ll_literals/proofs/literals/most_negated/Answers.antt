-- Half of a power of two.
use Rattle.ll_literals.proofs.LiteralLaws.{half_by, nonzero, size_by}
use Rattle.ll_literals.proofs.literals.most_negated.Goals as goal

pub returns-clause-half : goal.returns-clause-half
returns-clause-half c = λ le n. half_by c.args.width c.greatest.result n (nonzero c.args.width c.if-width-eq0.false) (size_by c.args.width c.greatest.result c.greatest.ensures.bits c.greatest.ensures.most le)

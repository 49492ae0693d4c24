-- Symbols behind a constant are no part of it.
use Rattle.dialect_parsing.proofs.ConstantSpellLaws.{no_attr_end}
use Rattle.dialect_parsing.proofs.constants.read.Goals as goal

pub returns-in_err-at_end-clause-err : goal.returns-in_err-at_end-clause-err
returns-in_err-at_end-clause-err c = λ _. no_attr_end _ _ _ _ c.in_ok-constant.ensures.ok c.in_err-at_end.ensures.err

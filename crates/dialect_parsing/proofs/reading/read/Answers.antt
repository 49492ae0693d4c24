-- Symbols behind a type are no part of it.
use Rattle.dialect_parsing.proofs.SpellLaws.{no_end}
use Rattle.dialect_parsing.proofs.reading.read.Goals as goal

pub returns-in_err-at_end-clause-err : goal.returns-in_err-at_end-clause-err
returns-in_err-at_end-clause-err c = λ _. no_end _ _ _ _ c.in_ok-ty.ensures.ok c.in_err-at_end.ensures.err

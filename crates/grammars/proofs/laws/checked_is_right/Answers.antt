-- Rows that pass the check are right, by the law.
use Rattle.grammars.proofs.RowLaws.{rows_are_right}
use Rattle.grammars.proofs.laws.checked_is_right.Goals as goal

pub returns : goal.returns
returns c = rows_are_right

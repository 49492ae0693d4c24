-- A name is its own bytes.
use Rattle.std.proofs.Common.{◌∙◌}
use Rattle.dialect_parsing.proofs.NameTexts.{name_if, none_if}
use Rattle.dialect_parsing.proofs.words.name.Goals as goal

pub returns-in_ok-copy-in-Ok : goal.returns-in_ok-copy-in-Ok
returns-in_ok-copy-in-Ok c = name_if _ _ (c.in_ok-copy-in-Ok.ensures ∙ c.in-Ok.ensures.cases.0) c.in-Ok.ensures.cases.1

pub returns-in-Err : goal.returns-in-Err
returns-in-Err c = none_if _ c.in-Err.ensures.cases.0

-- Both types are what the symbols are read as.
use Rattle.dialect_parsing.proofs.ReadingLaws.{one_type}
use Rattle.dialect_parsing.proofs.laws.one_type_is_spelled.Goals as goal

pub returns : goal.returns
returns c = one_type

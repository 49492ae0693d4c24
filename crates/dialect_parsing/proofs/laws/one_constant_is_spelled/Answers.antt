-- Both constants are what the symbols are read as.
use Rattle.dialect_parsing.proofs.ConstantLaws.{one_constant}
use Rattle.dialect_parsing.proofs.laws.one_constant_is_spelled.Goals as goal

pub returns : goal.returns
returns c = one_constant

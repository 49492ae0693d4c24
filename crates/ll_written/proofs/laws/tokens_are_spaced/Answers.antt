-- They are, token by token.
use Rattle.ll_written.proofs.SpacedLaws.{file_spaced}
use Rattle.ll_written.proofs.laws.tokens_are_spaced.Goals as goal

pub returns : goal.returns
returns c = file_spaced

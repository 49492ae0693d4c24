-- They are, kind by kind.
use Rattle.ll_spacing.proofs.TextLaws.{text_whole}
use Rattle.ll_spacing.proofs.laws.texts_are_whole.Goals as goal

pub returns : goal.returns
returns c = text_whole

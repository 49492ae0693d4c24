-- They do, by the check.
use Rattle.ll_classes.proofs.TableLaws.{have_their_class}
use Rattle.ll_classes.proofs.laws.words_have_their_class.Goals as goal

pub returns : goal.returns
returns c = have_their_class

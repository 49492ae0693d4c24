-- What is found stands there.
use Rattle.ll_classes.proofs.TableLaws.{stands_there}
use Rattle.ll_classes.proofs.laws.classes_are_of_words.Goals as goal

pub returns : goal.returns
returns c = stands_there

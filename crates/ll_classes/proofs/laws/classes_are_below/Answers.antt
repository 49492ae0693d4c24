-- Each class is one of those that there are.
use Rattle.ll_classes.proofs.ClassLaws.{class_below}
use Rattle.ll_classes.proofs.laws.classes_are_below.Goals as goal

pub returns : goal.returns
returns c = class_below

-- The elements so far have these numbers.
use Rattle.ll_bodies.specs.TableViews.{number_in}
use Rattle.ll_bodies.proofs.ListLaws.{Gone}
use Rattle.ll_bodies.proofs.constants.elements.Given as goal

abbrev pub invariant-loop-element : goal.invariant-loop-element
invariant-loop-element l = Gone (number_in l.numbers) l.said l.element-index l.found

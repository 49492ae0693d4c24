-- The slices are those of the lists.
use Rattle.ll_values.proofs.read.values_of.Goals as goal

pub returns-clause-folded : goal.returns-clause-folded
returns-clause-folded c = rw (← c.as_slice.ensures.value, ← c.as_slice-2.ensures.value) c.fold.ensures.folded

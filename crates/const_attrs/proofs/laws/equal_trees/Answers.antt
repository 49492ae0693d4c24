-- What `laws::equal_trees` owes besides what the check finds.
use Rattle.const_attrs.proofs.TypeLaws.{same_attr}
use Rattle.const_attrs.proofs.laws.equal_trees.Goals as goal

pub returns : goal.returns
returns c = λ a b fa fb e. same_attr c.args.types.now c.len-count.ensures.distinct a b fa fb e

-- What `ConstAttr::type_of` owes besides what the check finds.
use Rattle.std.proofs.Common.{length, subst}
use Rattle.const_attrs.specs.Typing.{IsOwnBelow}
use Rattle.const_attrs.proofs.const_attr.ConstAttr.type_of.Goals as goal

pub returns-in-Named-clause-within : goal.returns-in-Named-clause-within
returns-in-Named-clause-within c = subst (IsOwnBelow (length c.args.types.now)) c.in-Named.is (c.own_type.ensures.below (length c.args.types.now) c.requires)

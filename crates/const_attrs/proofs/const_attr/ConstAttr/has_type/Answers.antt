-- What `ConstAttr::has_type` owes besides what the check finds.
use Rattle.std.proofs.Common.{length, subst}
use Rattle.const_attrs.specs.Typing.{IsOwnBelow}
use Rattle.const_attrs.proofs.const_attr.ConstAttr.has_type.Goals as goal

pub is_same-requires : goal.is_same-requires
is_same-requires c = (subst (IsOwnBelow (length c.args.types.now)) c.in-Named.is (c.own_type.ensures.below (length c.args.types.now) c.requires.below), c.requires.within)

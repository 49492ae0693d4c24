-- What `typing::is_same` owes besides what the check finds.
use Rattle.std.proofs.Common.{◌∙◌}
use Rattle.const_attrs.proofs.TypeLaws.{same_by}
use Rattle.const_attrs.proofs.typing.is_same.Goals as goal

pub returns : goal.returns
returns c = c.eq.ensures ∙ same_by c.args.types.now c.len-count.ensures.distinct c.args.a c.args.b c.requires.0 c.requires.1

-- The table says it.
use Rattle.std.proofs.Common.{◌∙◌}
use Rattle.ll_literals.proofs.NameBytes.{name_kinds}
use Rattle.ll_literals.proofs.names.name_kind.Goals as goal

pub returns : goal.returns
returns c = c.kind_at.ensures ∙ name_kinds c.args.b c.ranges.b.fits

-- What `folding::fill_at` owes besides what the check finds.
use Rattle.std.proofs.Common.{sym, ap, ◌∙◌}
use Rattle.meaning.specs.Constants.{fill_of}
use Rattle.tracing.specs.Table.{terms}
use Rattle.tracing.proofs.folding.fill_at.Goals as goal

pub returns : goal.returns
returns c = λ trees. c.fill_of.ensures trees (terms trees c.args.table.now) ∙ ap fill_of (sym (c.node.ensures.term trees))

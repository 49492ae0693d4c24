-- What `folding::common_fill` owes besides what the check finds.
use Rattle.std.proofs.Common.{sym, ◌∙◌}
use Rattle.tracing.specs.Table.{fills_at, terms}
use Rattle.tracing.proofs.ConstLaws.{zero_common, undef_common, poison_common, none_common}
use Rattle.tracing.proofs.folding.common_fill.Goals as goal

pub returns-then-are_filled : goal.returns-then-are_filled
returns-then-are_filled c = λ trees. zero_common (fills_at (terms trees c.args.table.now) c.args.places.now) (sym (c.are_filled.ensures trees) ∙ c.if-are_filled.true)

pub returns-then-are_filled-2 : goal.returns-then-are_filled-2
returns-then-are_filled-2 c = λ trees.
    undef_common (fills_at (terms trees c.args.table.now) c.args.places.now) (sym (c.are_filled.ensures trees) ∙ c.if-are_filled.false) (sym (c.are_filled-2.ensures trees) ∙ c.if-are_filled-2.true)

pub returns-then-are_filled-3 : goal.returns-then-are_filled-3
returns-then-are_filled-3 c = λ trees.
    poison_common (fills_at (terms trees c.args.table.now) c.args.places.now)
    (sym (c.are_filled.ensures trees) ∙ c.if-are_filled.false)
    (sym (c.are_filled-2.ensures trees) ∙ c.if-are_filled-2.false)
    (sym (c.are_filled-3.ensures trees) ∙ c.if-are_filled-3.true)

pub returns : goal.returns
returns c = λ trees.
    none_common (fills_at (terms trees c.args.table.now) c.args.places.now)
    (sym (c.are_filled.ensures trees) ∙ c.if-are_filled.false)
    (sym (c.are_filled-2.ensures trees) ∙ c.if-are_filled-2.false)
    (sym (c.are_filled-3.ensures trees) ∙ c.if-are_filled-3.false)

-- What `op_tests::operands_fit` owes besides what the check finds.
use Rattle.std.proofs.Common.{◌∙◌}
use Rattle.dialect_core.proofs.RuleLemmas.{fits_by_tree}
use Rattle.dialect_core.proofs.op_tests.operands_fit.Goals as goal

pub returns : goal.returns
returns c =
    let distinct = rw c.types.ensures at c.len-count.ensures.distinct in
    let fits = rw (c.view_some-first.ensures, c.view_some-second.ensures, c.view_some-third.ensures, c.view_some-written.ensures, c.written_for.ensures, c.rule-rule.ensures) at c.fits.ensures in
    fits
    ∙ fits_by_tree c.args.ctx.now distinct c.args.op c.args.operands.now c.args.own c.type_nth.result c.type_nth-2.result c.type_nth-3.result c.type_nth.ensures.value c.type_nth-2.ensures.value c.type_nth-3.ensures.value c.requires.own c.type_nth.ensures.within c.type_nth-2.ensures.within c.type_nth-3.ensures.within

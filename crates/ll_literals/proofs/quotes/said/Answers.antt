-- What `quotes::said` owes besides what the check finds.
use Rattle.std.proofs.Common.{ap, sym, ◌∙◌}
use Rattle.ll_literals.specs.Names.{if_text}
use Rattle.ll_literals.proofs.EscapeLaws.{no_slash}
use Rattle.ll_literals.proofs.quotes.said.Goals as goal

pub returns-else-has_slash : goal.returns-else-has_slash
returns-else-has_slash c = c.as_text.ensures ∙ ap if_text (sym (no_slash c.args.inside.now (sym c.has_slash.ensures ∙ c.if-has_slash.false)))

-- What `names::plain_key` owes besides what the check finds.
use Rattle.std.proofs.Common.{ap, ◌∙◌}
use Rattle.ll_literals.specs.Numbers.{number_of, up_to}
use Rattle.ll_bodies.proofs.NameLaws.{not_plain}
use Rattle.ll_bodies.proofs.names.plain_key.Goals as goal

pub returns-in-None-clause-none : goal.returns-in-None-clause-none
returns-in-None-clause-none c = not_plain c.args.written.now c.in_default.ensures.none (c.in-None.ensures ∙ ap (λ most. up_to most (number_of c.args.written.now)) c.from.ensures)

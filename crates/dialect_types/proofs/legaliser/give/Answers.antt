-- What `legaliser::give` owes besides what the check finds.
use Rattle.std.proofs.Common.{subst}
use Rattle.dialect_types.specs.Names.{IsIdentifier}
use Rattle.dialect_types.proofs.LegalLaws.{asked_legal}
use Rattle.dialect_types.proofs.legaliser.give.Goals as goal

pub give-requires : goal.give-requires
give-requires c = subst IsIdentifier (c.asks_itself.ensures c.if-asks_itself.true) (asked_legal c.args.name.now)

pub give-requires-2 : goal.give-requires-2
give-requires-2 c = rw (c.as_str.ensures, c.in_ok-text.ensures) (asked_legal c.args.name.now)

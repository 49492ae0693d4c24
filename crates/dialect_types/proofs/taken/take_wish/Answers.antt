-- What `taken::take_wish` owes besides what the check finds.
use Rattle.dialect_types.proofs.LegalLaws.{wished_legal}
use Rattle.dialect_types.proofs.taken.take_wish.Goals as goal

pub copy-requires : goal.copy-requires
copy-requires c = rw (c.as_str.ensures, c.in_ok-text.ensures) (wished_legal c.args.asked.now c.args.suffix c.requires.some c.requires.legal)

-- A bare name is UTF-8.
use Rattle.std.proofs.Common.{sym, ◌∙◌}
use Rattle.ll_literals.proofs.NameLaws.{IsUtf8-bare}
use Rattle.ll_literals.proofs.names.bare_name.Goals as goal

pub from_utf8_unchecked-requires : goal.from_utf8_unchecked-requires
from_utf8_unchecked-requires c = IsUtf8-bare c.args.text.now (sym c.is_bare.ensures ∙ c.if-not-is_bare.false)

-- Types that pass are those of fields.
use Rattle.std.proofs.Common.{sym, ◌∙◌}
use Rattle.ll_values.proofs.types.fields_of.Goals as goal

pub returns-clause-there : goal.returns-clause-there
returns-clause-there c = record { types = c.requires.types; fit = sym c.list_fits.ensures ∙ c.if-not-list_fits.false }

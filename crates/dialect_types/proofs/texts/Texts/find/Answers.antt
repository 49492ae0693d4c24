-- What `texts::Texts::find` owes besides what the check finds.
use Rattle.dialect_types.proofs.LegalLaws.{found_text, found_none}
use Rattle.dialect_types.proofs.texts.Texts.find.Goals as goal

pub returns-clause-found : goal.returns-clause-found
returns-clause-found c = rw (← c.self.view_is) (found_text c.self.inside.set.keys c.args.text.now c.get_index_of.result c.get_index_of.ensures.index)

pub returns-clause-none : goal.returns-clause-none
returns-clause-none c = rw (← c.self.view_is) (found_none c.self.inside.set.keys c.args.text.now c.get_index_of.result c.get_index_of.ensures.found)

-- What `imports::import_into` owes besides what the check finds.
use Rattle.layer_tests.proofs.imports.import_into.Goals as goal

pub returns-in-Ok-clause-there : goal.returns-in-Ok-clause-there
returns-in-Ok-clause-there c = c.in-Ok.ensures.imported.building.there

pub returns-in-Ok-clause-more : goal.returns-in-Ok-clause-more
returns-in-Ok-clause-more c = c.convert_module.ensures.others.still.longer

pub returns-in-Err-clause-more : goal.returns-in-Err-clause-more
returns-in-Err-clause-more c = c.convert_module.ensures.others.still.longer
